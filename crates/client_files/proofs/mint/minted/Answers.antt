use Rattle.std.proofs.Common.{arith}
use Rattle.std.proofs.lemmas.Grind.{common_steps}
use Rattle.byte_fields.specs.Transactions.{output_of}
use Rattle.client_files.proofs.mint.minted.Goals as goal

pub returns : goal.returns
unfolding output_of
returns c = grind (arith, common_steps)

pub returns-then-output-eq0 : goal.returns-then-output-eq0
unfolding output_of
returns-then-output-eq0 c = grind (arith, common_steps)
