-- A fault of reading or of a node is no answer of a command that did all.
use Rattle.std.proofs.Common.{ℕ}
use Rattle.cbdc_types.specs.declared.answer.Answer.{Answer}
use Rattle.cbdc_types.specs.declared.answer.Answer.TheVariants as answers
use Rattle.command_answers.specs.Causes.{IsReadOrNodeFault, IsWell}

pub not_well : (named read : ℕ → Type 0) (a : Answer) → IsReadOrNodeFault named read a → IsWell a → ⊥
not_well named read answers.Ok is well = is
not_well named read answers.WriteFault is well = is
not_well named read other is well = well
