-- Where transactions over a ledger did not come through, disks were taken, and all was not done.
use Rattle.std.proofs.Common.{⊎_elim, inl, inr, ℕ, List, reverse, Option, None, sym, subst}
use Rattle.outside.specs.declared.disk.Disk.{Ghosts}
use Rattle.cbdc_types.specs.declared.answer.Answer.{Answer}
use Rattle.cbdc_types.specs.declared.answer.Answer.TheVariants as answers
use Rattle.cbdc_model.specs.Records.{Shape, Compact, Record, journal}
use Rattle.rack_ledgers.specs.Racked.{Disks}
use Rattle.rack_ledgers.specs.Ledgers.{IsUnopened}
use Rattle.rack_ledgers.proofs.Lacks.{unopened_kind}
use Rattle.rack_runs.specs.Kinds.{IsLaneAnswer}
use Rattle.rack_runs.specs.Runs.{DiskMayHold, RoseAt, Turns}
use Rattle.rack_runs.specs.Stops.{WhyNoTurns, TurnsLeave}
use Rattle.command_answers.specs.Causes.{IsWell}
use Rattle.command_answers.specs.Left.{IsBeforeDisks}
use Rattle.command_answers.proofs.Refusals.{not_refused, refused_alone}

-- where a lane met a fault, its nodes were taken
not_by_lane : (K : Shape) (next : ℕ → List Compact → Type 0) (E X : ℕ → List Record) (failed : ℕ → Type 0) (holds : ℕ → ℕ → Type 0) (a : Answer)
    → IsLaneAnswer K next E X failed holds a → IsBeforeDisks a → ⊥
not_by_lane K next E X failed holds answers.Ok is before = is
not_by_lane K next E X failed holds answers.BadWords is before = is
not_by_lane K next E X failed holds (answers.BadInput file at kind) is before = is
not_by_lane K next E X failed holds (answers.TooMuch total) is before = is
not_by_lane K next E X failed holds (answers.NotReady k) is before = before
not_by_lane K next E X failed holds (answers.Foreign k kept asked) is before = before
not_by_lane K next E X failed holds (answers.NotEmpty k) is before = before
not_by_lane K next E X failed holds (answers.Full k used need capacity) is before = before
not_by_lane K next E X failed holds (answers.Unsound place kind) is before = before
not_by_lane K next E X failed holds (answers.ClockEnd k stamp) is before = before
not_by_lane K next E X failed holds (answers.Damaged k at) is before = before
not_by_lane K next E X failed holds (answers.ReadFault file) is before = is
not_by_lane K next E X failed holds answers.WriteFault is before = before
not_by_lane K next E X failed holds (answers.DiskFault k) is before = before
not_by_lane K next E X failed holds answers.Memory is before = before

-- nor is all done where a lane met a fault
lane_alone : (K : Shape) (next : ℕ → List Compact → Type 0) (E X : ℕ → List Record) (failed : ℕ → Type 0) (holds : ℕ → ℕ → Type 0) (a : Answer)
    → IsLaneAnswer K next E X failed holds a → IsWell a → ⊥
lane_alone K next E X failed holds answers.Ok is well = is
lane_alone K next E X failed holds answers.WriteFault is well = is
lane_alone K next E X failed holds other is well = well

module _ {D : Type 0} (device : Ghosts D) where
  pub not_unopened : (held : ℕ → Option D) (before now : ℕ → ℕ) (a : Answer) → IsUnopened device held before now a → IsBeforeDisks a → ⊥
  not_unopened held before now a is = not_refused a (unopened_kind device held before now None a is)

  module _ (before after : Disks D) (turns : Turns) (a : Answer) where
    pub not_turned : WhyNoTurns device before after turns a → IsBeforeDisks a → ⊥
    not_turned is =
        ⊎_elim
        (λ unopened. ⊎_elim (λ closed. not_unopened before.held before.faults after.faults a closed)
        (λ other. ⊎_elim (λ unsound. subst (λ b. IsBeforeDisks b → ⊥) (sym unsound.told) (λ none. none))
        (λ memory. subst (λ b. IsBeforeDisks b → ⊥) (sym memory) (λ none. none)) other) unopened.0)
        (λ lane. not_by_lane lane.ledger.shape (turns.next lane.ledger.shape (λ n. journal n (reverse lane.ledger.rows)) lane.exit)
        (λ n. journal n (reverse lane.ledger.rows)) lane.exit (RoseAt before after) (DiskMayHold device before) a lane.cause) is

    -- where a run or a recovery did not come through, all was not done
    pub not_done : WhyNoTurns device before after turns a → IsWell a → ⊥
    not_done is =
        ⊎_elim
        (λ unopened. ⊎_elim (λ closed. refused_alone a (unopened_kind device before.held before.faults after.faults None a closed))
        (λ other. ⊎_elim (λ unsound. subst (λ b. IsWell b → ⊥) (sym unsound.told) (λ none. none))
        (λ memory. subst (λ b. IsWell b → ⊥) (sym memory) (λ none. none)) other) unopened.0)
        (λ lane. lane_alone lane.ledger.shape (turns.next lane.ledger.shape (λ n. journal n (reverse lane.ledger.rows)) lane.exit)
        (λ n. journal n (reverse lane.ledger.rows)) lane.exit (RoseAt before after) (DiskMayHold device before) a lane.cause) is

    -- what it leaves
    pub turns_leave : WhyNoTurns device before after turns a → TurnsLeave device before after turns a
    turns_leave (inl (why, back)) = inl back
    turns_leave (inr fault) = inr fault
