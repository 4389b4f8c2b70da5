-- No node is refused, and no lane's fault answers, as the test does.
use Rattle.std.proofs.Common.{◌≡◌, inl, inr, ℕ, None}
use Rattle.outside.specs.declared.disk.Disk.{Ghosts}
use Rattle.cbdc_types.specs.declared.answer.Answer.TheVariants as answers
use Rattle.cbdc_types.specs.declared.answer.UnsoundKind.TheVariants.{Cause}
use Rattle.rack_ledgers.specs.Racked.{Disks}
use Rattle.rack_ledgers.proofs.Lacks.{unopened_kind}
use Rattle.rack_runs.specs.Runs.{Turns}
use Rattle.rack_runs.specs.Stops.{WhyNoTurns}

pub not_empty : {D : Type 0} (device : Ghosts D) (before after : Disks D) (turns : Turns) (n : ℕ)
    → WhyNoTurns device before after turns (answers.NotEmpty n) → ⊥
not_empty device before after turns n (inl (inl closed, back)) =
    unopened_kind device before.held before.faults after.faults None (answers.NotEmpty n) closed
not_empty device before after turns n (inl (inr (inl unsound), back)) = let z : answers.NotEmpty n ≡ answers.Unsound unsound.place Cause =
    unsound.told in cc
not_empty device before after turns n (inl (inr (inr memory), back)) = let z : answers.NotEmpty n ≡ answers.Memory = memory in cc
not_empty device before after turns n (inr fault) = fault.cause
