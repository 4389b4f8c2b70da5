use Rattle.std.proofs.Common.{arith}
use Rattle.std.proofs.lemmas.Grind.{common_steps}
use Rattle.record_log.proofs.writing.put_header.Goals as goal

pub returns-in_err-put_number-clause-full : goal.returns-in_err-put_number-clause-full
returns-in_err-put_number-clause-full c = grind (arith, common_steps)

pub returns-in_err-put_number-2-clause-full : goal.returns-in_err-put_number-2-clause-full
returns-in_err-put_number-2-clause-full c = grind (arith, common_steps)

pub returns-in_err-put_number-3-clause-full : goal.returns-in_err-put_number-3-clause-full
returns-in_err-put_number-3-clause-full c = grind (arith, common_steps)

pub returns-in_err-put_number-4-clause-full : goal.returns-in_err-put_number-4-clause-full
returns-in_err-put_number-4-clause-full c = grind (arith, common_steps)

pub returns-in_err-put_number-5-clause-full : goal.returns-in_err-put_number-5-clause-full
returns-in_err-put_number-5-clause-full c = grind (arith, common_steps)

pub returns-clause-full : goal.returns-clause-full
returns-clause-full c = grind (arith, common_steps)

pub returns-clause-len : goal.returns-clause-len
returns-clause-len c = grind (arith, common_steps)

pub returns-clause-ok : goal.returns-clause-ok
returns-clause-ok c = grind (arith, common_steps)
