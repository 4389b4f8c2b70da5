use Rattle.std.proofs.Common.{arith}
use Rattle.std.proofs.lemmas.Grind.{common_steps}
use Rattle.record_log.proofs.writing.put_body.Goals as goal

pub returns-in_ok-put_head-in-Start-clause-full : goal.returns-in_ok-put_head-in-Start-clause-full
returns-in_ok-put_head-in-Start-clause-full c = grind (arith, common_steps)

pub returns-in_ok-put_batch-in-Prepare-clause-full : goal.returns-in_ok-put_batch-in-Prepare-clause-full
returns-in_ok-put_batch-in-Prepare-clause-full c = grind (arith, common_steps)

pub returns-in_err-put_head-in-Genesis-clause-full : goal.returns-in_err-put_head-in-Genesis-clause-full
returns-in_err-put_head-in-Genesis-clause-full c = grind (arith, common_steps)

pub returns-in_ok-put_head-in-Start-clause-ok : goal.returns-in_ok-put_head-in-Start-clause-ok
returns-in_ok-put_head-in-Start-clause-ok c = grind (arith, common_steps)

pub returns-in_ok-put_header-in-Genesis-clause-ok : goal.returns-in_ok-put_header-in-Genesis-clause-ok
returns-in_ok-put_header-in-Genesis-clause-ok c = grind (arith, common_steps)

pub returns-in_err-put_header-in-Genesis-clause-full : goal.returns-in_err-put_header-in-Genesis-clause-full
returns-in_err-put_header-in-Genesis-clause-full c = grind (arith, common_steps)

pub returns-in_ok-put_batch-in-Finish-clause-ok : goal.returns-in_ok-put_batch-in-Finish-clause-ok
returns-in_ok-put_batch-in-Finish-clause-ok c = grind (arith, common_steps)

pub returns-in_ok-put_batch-in-Commit-clause-full : goal.returns-in_ok-put_batch-in-Commit-clause-full
returns-in_ok-put_batch-in-Commit-clause-full c = grind (arith, common_steps)

pub returns-in_ok-put_batch-in-Commit-clause-ok : goal.returns-in_ok-put_batch-in-Commit-clause-ok
returns-in_ok-put_batch-in-Commit-clause-ok c = grind (arith, common_steps)

pub returns-in_err-put_batch-in-Commit-clause-full : goal.returns-in_err-put_batch-in-Commit-clause-full
returns-in_err-put_batch-in-Commit-clause-full c = grind (arith, common_steps)

pub returns-in_err-put_head-in-Start-clause-full : goal.returns-in_err-put_head-in-Start-clause-full
returns-in_err-put_head-in-Start-clause-full c = grind (arith, common_steps)

pub returns-in_ok-put_batch-in-Finish-clause-full : goal.returns-in_ok-put_batch-in-Finish-clause-full
returns-in_ok-put_batch-in-Finish-clause-full c = grind (arith, common_steps)

pub returns-in_err-put_batch-in-Prepare-clause-full : goal.returns-in_err-put_batch-in-Prepare-clause-full
returns-in_err-put_batch-in-Prepare-clause-full c = grind (arith, common_steps)

pub returns-in_ok-put_batch-in-Lock-clause-ok : goal.returns-in_ok-put_batch-in-Lock-clause-ok
returns-in_ok-put_batch-in-Lock-clause-ok c = grind (arith, common_steps)

pub returns-in_ok-put_header-in-Genesis-clause-full : goal.returns-in_ok-put_header-in-Genesis-clause-full
returns-in_ok-put_header-in-Genesis-clause-full c = grind (arith, common_steps)

pub returns-in_ok-put_batch-in-Lock-clause-full : goal.returns-in_ok-put_batch-in-Lock-clause-full
returns-in_ok-put_batch-in-Lock-clause-full c = grind (arith, common_steps)

pub returns-in_ok-put_batch-in-Prepare-clause-ok : goal.returns-in_ok-put_batch-in-Prepare-clause-ok
returns-in_ok-put_batch-in-Prepare-clause-ok c = grind (arith, common_steps)

pub returns-in_err-put_batch-in-Lock-clause-full : goal.returns-in_err-put_batch-in-Lock-clause-full
returns-in_err-put_batch-in-Lock-clause-full c = grind (arith, common_steps)

pub returns-in_err-put_batch-in-Finish-clause-full : goal.returns-in_err-put_batch-in-Finish-clause-full
returns-in_err-put_batch-in-Finish-clause-full c = grind (arith, common_steps)
