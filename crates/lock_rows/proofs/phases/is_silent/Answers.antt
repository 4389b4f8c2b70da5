use Rattle.std.proofs.Common.{◌∙◌}
use Rattle.lock_rows.proofs.Phasing.{asks_no_port}
use Rattle.lock_rows.proofs.phases.is_silent.Goals as goal

pub lock_phase-requires-clause-asks : goal.lock_phase-requires-clause-asks
lock_phase-requires-clause-asks g c κs within =
    asks_no_port _ c.as_slice.result.now c.in-Ok.answers c.as_mut_slice.result.now (c.as_slice.ensures.value ∙ c.new-none.ensures.items)
    c.in-Ok.ensures.items
