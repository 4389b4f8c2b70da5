use Rattle.std.proofs.Common.{arith, rules, sym, subst}
use Rattle.cbdc_model.specs.Slots.{slot, Idle, InLock, InFinish}
use Rattle.shard_core.specs.declared.slots.LaneSlot.{LaneSlot}
use Rattle.shard_core.specs.Slots.{SlotStands}
use Rattle.shard_core.proofs.Follow.{other_phase, open_slot}
use Rattle.shard_core.proofs.core_state.ShardCore.is_open_to.Goals as goal

pub returns-in-Idle-clause-lane : goal.returns-in-Idle-clause-lane
returns-in-Idle-clause-lane c past stands =
    let s = subst (λ (v : LaneSlot). SlotStands v past c.args.batch.now.lane) c.in-Idle.is
    (stands.lanes c.args.batch.now.lane c.slot.result.now c.slot.ensures) in
    open_slot (slot past c.args.batch.now.lane) c.in-Idle.number c.args.batch.now.number _ s.0 (rw (sym stands.last) (omega arith)) (search rules)

pub returns-in-Locked-clause-lane : goal.returns-in-Locked-clause-lane
returns-in-Locked-clause-lane c past stands =
    let s = subst (λ (v : LaneSlot). SlotStands v past c.args.batch.now.lane) c.in-Locked.is
    (stands.lanes c.args.batch.now.lane c.slot.result.now c.slot.ensures) in
    other_phase (slot past c.args.batch.now.lane) _ InLock Idle s.0 (λ e. cc)

pub returns-in-Finished-clause-lane : goal.returns-in-Finished-clause-lane
returns-in-Finished-clause-lane c past stands =
    let s = subst (λ (v : LaneSlot). SlotStands v past c.args.batch.now.lane) c.in-Finished.is
    (stands.lanes c.args.batch.now.lane c.slot.result.now c.slot.ensures) in
    other_phase (slot past c.args.batch.now.lane) _ InFinish Idle s.0 (λ e. cc)
