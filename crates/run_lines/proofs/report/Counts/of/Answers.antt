use Rattle.std.proofs.Common.{◌≡◌, ◌+◌, ◌<◌, length, take, get_or, subst}
use Rattle.run_lines.specs.Told.{AreCounts, told_report, told_count, one_where}
use Rattle.run_lines.proofs.Sums.{counts_more, count_next}
use Rattle.run_lines.proofs.report.Counts.of.Goals as goal

pub ones-preserved : goal.ones-preserved
ones-preserved c =
    let cs = c.args.wave.now.checked.items in
    let lanes = c.args.wave.now.lanes.items in
    let i = c.ones.one-index in
    let slice = c.deref-one-items.ensures.value in
    let low : i < length cs = subst (λ l. i < length l) slice c.ones-test.true in
    let is : c.one-item.result ≡ get_or cs i c.one-item.result = subst (λ l. c.one-item.result ≡ get_or l i c.one-item.result) slice c.one-item.is in
    counts_more c.ones.counts c.one.result c.more-counts.result (λ test. told_count test lanes (take i cs))
    (λ test. one_where test (told_report lanes c.one-item.result.judgement)) (λ test. told_count test lanes (take (i + 1) cs))
    c.ones.invariant (subst (λ r. AreCounts c.one.result (λ test. one_where test r)) c.report_of.ensures c.one.ensures)
    c.more-counts.ensures.confirmed c.more-counts.ensures.rejected c.more-counts.ensures.refused
    (λ test. count_next test lanes cs i c.one-item.result low is)
