use Rattle.std.proofs.Common.{arith, rules, sym, subst}
use Rattle.cbdc_model.specs.Slots.{slot, Idle, InLock, InFinish}
use Rattle.shard_core.specs.declared.slots.LaneSlot.{LaneSlot}
use Rattle.shard_core.specs.Slots.{SlotStands}
use Rattle.shard_core.proofs.Follow.{other_phase, finished_slot}
use Rattle.shard_core.proofs.core_state.ShardCore.is_next_forget.Goals as goal

pub returns-in-Idle-clause-next : goal.returns-in-Idle-clause-next
returns-in-Idle-clause-next c past stands =
    let s = subst (λ (v : LaneSlot). SlotStands v past c.args.batch.now.lane) c.in-Idle.is
    (stands.lanes c.args.batch.now.lane c.slot.result.now c.slot.ensures) in
    other_phase (slot past c.args.batch.now.lane) _ Idle InFinish s.0 (λ e. cc)

pub returns-in-Locked-clause-next : goal.returns-in-Locked-clause-next
returns-in-Locked-clause-next c past stands =
    let s = subst (λ (v : LaneSlot). SlotStands v past c.args.batch.now.lane) c.in-Locked.is
    (stands.lanes c.args.batch.now.lane c.slot.result.now c.slot.ensures) in
    other_phase (slot past c.args.batch.now.lane) _ InLock InFinish s.0 (λ e. cc)

pub returns-in-Finished-clause-next : goal.returns-in-Finished-clause-next
returns-in-Finished-clause-next c past stands =
    let s = subst (λ (v : LaneSlot). SlotStands v past c.args.batch.now.lane) c.in-Finished.is
    (stands.lanes c.args.batch.now.lane c.slot.result.now c.slot.ensures) in
    finished_slot (slot past c.args.batch.now.lane) c.in-Finished.number c.args.batch.now.number _ s.0 (rw (sym stands.last) (omega arith))
    (search rules)
