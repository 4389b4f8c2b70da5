use Rattle.std.proofs.Common.{arith, sym, subst, ◌∙◌}
use Rattle.cbdc_model.specs.Slots.{slot, Idle, InLock, InFinish}
use Rattle.shard_core.proofs.Applies.{finish_slot, on_none}
use Rattle.shard_core.proofs.Places.{fits_length}
use Rattle.shard_core.specs.declared.slots.LaneSlot.{LaneSlot}
use Rattle.shard_core.specs.Slots.{SlotStands}
use Rattle.shard_core.proofs.Follow.{other_phase_finish, other_number, locked_slot}
use Rattle.shard_core.proofs.core_state.ShardCore.is_next_finish.Goals as goal

pub returns-then-number-batch-clause-locked : goal.returns-then-number-batch-clause-locked
returns-then-number-batch-clause-locked c =
    on_none c.misfit.result c.is_none.result _ c.is_none.ensures
    (λ h. finish_slot c.args.self.now c.args.batch.now c.args.decisions.now c.slot.result.now c.slot.ensures c.args.self.now.paired
    (rw c.in-Locked.is (
      c.if-number-batch.true,
      fits_length c.in-Locked.replies c.args.decisions.now (h ∙ rw c.as_slice.ensures at c.misfit.ensures),
    )))

pub returns-in-Idle-clause-next : goal.returns-in-Idle-clause-next
returns-in-Idle-clause-next c past stands =
    let s = subst (λ (v : LaneSlot). SlotStands v past c.args.batch.now.lane) c.in-Idle.is
    (stands.lanes c.args.batch.now.lane c.slot.result.now c.slot.ensures) in
    other_phase_finish (slot past c.args.batch.now.lane) _ Idle InLock s.0 (λ e. cc)

pub returns-then-number-batch-clause-next : goal.returns-then-number-batch-clause-next
returns-then-number-batch-clause-next c past stands =
    let s = subst (λ (v : LaneSlot). SlotStands v past c.args.batch.now.lane) c.in-Locked.is
    (stands.lanes c.args.batch.now.lane c.slot.result.now c.slot.ensures) in
    locked_slot past c.args.batch.now _ _ _ _ c.args.decisions.now c.misfit.result c.is_none.result s (rw (sym stands.last) (omega arith))
    c.if-number-batch.true
    (rw c.as_slice.ensures at c.misfit.ensures) c.is_none.ensures

pub returns-else-number-batch-clause-next : goal.returns-else-number-batch-clause-next
returns-else-number-batch-clause-next c past stands =
    let s = subst (λ (v : LaneSlot). SlotStands v past c.args.batch.now.lane) c.in-Locked.is
    (stands.lanes c.args.batch.now.lane c.slot.result.now c.slot.ensures) in
    other_number (slot past c.args.batch.now.lane) c.in-Locked.number c.args.batch.now.number InLock s.0 c.if-number-batch.false

pub returns-in-Finished-clause-next : goal.returns-in-Finished-clause-next
returns-in-Finished-clause-next c past stands =
    let s = subst (λ (v : LaneSlot). SlotStands v past c.args.batch.now.lane) c.in-Finished.is
    (stands.lanes c.args.batch.now.lane c.slot.result.now c.slot.ensures) in
    other_phase_finish (slot past c.args.batch.now.lane) _ InFinish InLock s.0 (λ e. cc)
