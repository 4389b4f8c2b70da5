use Rattle.std.proofs.Common.{◌∙◌}
use Rattle.lock_rows.proofs.lanes.write_lent.Goals as goal

pub loop-i-preserved : goal.loop-i-preserved
loop-i-preserved g c = (c.call-done.ensures.seat, c.call-done.ensures.called.3.made.0 ∙ c.loop-i.invariant.1)
