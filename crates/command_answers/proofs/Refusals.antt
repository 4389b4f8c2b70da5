-- Why a node is not opened, as an answer of the whole.
use Rattle.std.proofs.Common.{ℕ}
use Rattle.cbdc_types.specs.declared.answer.Answer.{Answer}
use Rattle.cbdc_types.specs.declared.answer.Answer.TheVariants as answers
use Rattle.rack_ledgers.specs.Refused.{IsNodeRefusal}
use Rattle.command_answers.specs.Causes.{IsReadOrNodeFault, IsWell}
use Rattle.command_answers.specs.Left.{IsBeforeDisks}

-- what a node can't be opened for is a fault
pub refusal_fault : (place read : ℕ → Type 0) (a : Answer) → IsNodeRefusal a → IsReadOrNodeFault place read a
refusal_fault place read answers.Ok is = absurd is
refusal_fault place read answers.BadWords is = absurd is
refusal_fault place read (answers.BadInput file at kind) is = absurd is
refusal_fault place read (answers.TooMuch total) is = absurd is
refusal_fault place read (answers.NotReady k) is = tt
refusal_fault place read (answers.Foreign k kept asked) is = tt
refusal_fault place read (answers.NotEmpty k) is = absurd is
refusal_fault place read (answers.Full k used need capacity) is = tt
refusal_fault place read (answers.Unsound spot kind) is = absurd is
refusal_fault place read (answers.ClockEnd k stamp) is = absurd is
refusal_fault place read (answers.Damaged k at) is = tt
refusal_fault place read (answers.ReadFault file) is = absurd is
refusal_fault place read answers.WriteFault is = absurd is
refusal_fault place read (answers.DiskFault k) is = tt
refusal_fault place read answers.Memory is = tt

-- a node that is not opened was taken
pub not_refused : (a : Answer) → IsNodeRefusal a → IsBeforeDisks a → ⊥
not_refused answers.Ok is before = is
not_refused answers.BadWords is before = is
not_refused (answers.BadInput file at kind) is before = is
not_refused (answers.TooMuch total) is before = is
not_refused (answers.NotReady k) is before = before
not_refused (answers.Foreign k kept asked) is before = before
not_refused (answers.NotEmpty k) is before = before
not_refused (answers.Full k used need capacity) is before = before
not_refused (answers.Unsound place kind) is before = before
not_refused (answers.ClockEnd k stamp) is before = before
not_refused (answers.Damaged k at) is before = before
not_refused (answers.ReadFault file) is before = is
not_refused answers.WriteFault is before = before
not_refused (answers.DiskFault k) is before = before
not_refused answers.Memory is before = before

-- nor is all done where a node is not opened
pub refused_alone : (a : Answer) → IsNodeRefusal a → IsWell a → ⊥
refused_alone answers.Ok is well = is
refused_alone answers.WriteFault is well = is
refused_alone other is well = well
