use Rattle.std.proofs.Common.{◌+◌, take}
use Rattle.run_lines.specs.Told.{told_count, told_total}
use Rattle.run_lines.proofs.Sums.{counts_more, total_next}
use Rattle.run_lines.proofs.report.Counts.of_all.Goals as goal

pub waves-preserved : goal.waves-preserved
waves-preserved c =
    let ws = c.args.waves.now in
    let i = c.waves.wave-index in
    let w = c.wave-item.result in
    counts_more c.waves.counts c.of.result c.more-counts.result (λ test. told_total test (take i ws))
    (λ test. told_count test w.lanes.items w.checked.items) (λ test. told_total test (take (i + 1) ws))
    c.waves.invariant c.of.ensures c.more-counts.ensures.confirmed c.more-counts.ensures.rejected c.more-counts.ensures.refused
    (λ test. total_next test ws i w c.waves-test.true c.wave-item.is)
