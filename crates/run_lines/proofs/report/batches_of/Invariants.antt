use Rattle.std.proofs.Common.{take}
use Rattle.run_lines.specs.Told.{IsCounted, batches_in}
use Rattle.run_lines.proofs.report.batches_of.Given as goal

abbrev pub invariant-lanes : goal.invariant-lanes
invariant-lanes l = IsCounted l.batches (batches_in (take l.lane-index l.wave.lanes.items))
