use Rattle.std.proofs.Common.{take}
use Rattle.run_lines.specs.Told.{IsCounted, batches_told}
use Rattle.run_lines.proofs.report.all_batches.Given as goal

abbrev pub invariant-waves : goal.invariant-waves
invariant-waves l = IsCounted l.batches (batches_told (take l.wave-index l.waves))
