-- When no refusal to open a ledger has its cause in the disks.
use Rattle.std.specs.Prelude.{ℕ, List, Option}
use Rattle.outside.specs.declared.disk.Disk.{Ghosts}
use Rattle.cbdc_types.specs.Limits.{IsWithinLimits}
use Rattle.cbdc_types.specs.declared.answer.Answer.{Answer}
use Rattle.cbdc_types.specs.declared.answer.Answer.TheVariants as answers
use Rattle.cbdc_model.specs.Records.{Digest, Shape, Record}
use Rattle.rack_ledgers.specs.RefusalLaws.{AllTell, EachOpens, IsAnswerOfBytes}

-- what the disks hold and their room decide the answer: a node is refused as NotReady, Damaged, Full or Foreign, or a record is the first that is
-- not caused
abbrev pub IsOfDisks : Answer → Type 0
IsOfDisks (answers.Unsound place kind) = Unit {0}
IsOfDisks answer = IsAnswerOfBytes answer

-- what is told of the disks opens to the journals of a ledger, and where each of its nodes' disks is told, with its content, no such answer has this
-- cause, whatever the counts of faults are
pub record HasNoCause {D : Type 0} (device : Ghosts D) (held : ℕ → Option D) (cause : (ℕ → ℕ) → (ℕ → ℕ) → Answer → Type 0) : Type 0 where
  pub shape : Shape
  pub genesis : Digest
  pub journals : ℕ → List Record
  pub limits : IsWithinLimits shape
  pub opens : EachOpens device held shape genesis journals
  pub none : AllTell device held shape → (before now : ℕ → ℕ) (answer : Answer) → IsOfDisks answer → cause before now answer → ⊥
