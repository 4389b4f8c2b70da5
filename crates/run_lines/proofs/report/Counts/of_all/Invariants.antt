use Rattle.std.proofs.Common.{take}
use Rattle.run_lines.specs.Told.{AreCounts, told_total}
use Rattle.run_lines.proofs.report.Counts.of_all.Given as goal

abbrev pub invariant-waves : goal.invariant-waves
invariant-waves l = AreCounts l.counts (λ test. told_total test (take l.wave-index l.waves))
