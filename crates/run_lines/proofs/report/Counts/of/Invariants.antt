use Rattle.std.proofs.Common.{take}
use Rattle.run_lines.specs.Told.{AreCounts, told_count}
use Rattle.run_lines.proofs.report.Counts.of.Given as goal

abbrev pub invariant-ones : goal.invariant-ones
invariant-ones l = AreCounts l.counts (λ test. told_count test l.wave.lanes.items (take l.one-index l.wave.checked.items))
