use Rattle.lock_rows.proofs.Phasing.{asks_three}
use Rattle.lock_rows.proofs.phases.ask_three.Goals as goal

pub lock_phase-requires-clause-asks : goal.lock_phase-requires-clause-asks
lock_phase-requires-clause-asks g c κs within =
    asks_three _ c.as_slice.result.now c.in-Ok.answers c.as_slice.ensures
    c.in-Ok-with_capacity.ensures.items c.push_reserved.ensures.items c.push_reserved-2.ensures.items c.push_reserved-3.ensures.items
    c.as_mut_slice.ensures.value
    c.header.ensures.header (c.is_lock_call.ensures.0 c.if-not-is_lock_call.false)
    c.header-else-not-is_lock_call.ensures.header (c.is_lock_call-else-not-is_lock_call.ensures.0 c.if-not-is_lock_call-2.false)
    c.header-else-not-is_lock_call-2.ensures.header (c.is_lock_call-else-not-is_lock_call-2.ensures.0 c.if-not-is_lock_call-3.false)
    c.in-Ok.ensures.items c.in-Ok.ensures.capacity
