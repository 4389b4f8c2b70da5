use Rattle.std.proofs.Common.{◌≡◌, ◌+◌, ◌<◌, ◌++◌, length, drop, get_or, subst, sym, ap, ◌∙◌, arith}
use Rattle.std.proofs.lemmas.List.{append-nil}
use Rattle.std.proofs.lemmas.Result.{err_from_is_err_and}
use Rattle.run_lines.specs.Told.{told_report, told_line, told_file}
use Rattle.command_answers.proofs.Parts.{Goes, goes_begin}
use Rattle.run_lines.proofs.Pages.{gathered_more, gathered_cut}
use Rattle.run_lines.proofs.RunLines.{next_line, no_line}
use Rattle.run_lines.proofs.report.gather_wave.Goals as goal

pub lines-init : goal.lines-init
lines-init g c = record {
  count = omega arith;
  at = omega arith;
  text = goes_begin (g.O.Sink.taken c.args.out.now)
      (c.args.page.now.text.items ++ told_file c.args.file 0 c.args.wave.now.lanes.items c.args.wave.now.checked.items);
}

pub lines-preserved : goal.lines-preserved
lines-preserved g c =
    let cs = c.args.wave.now.checked.items in
    let lanes = c.args.wave.now.lanes.items in
    let i = c.lines.one-index in
    let one = c.one-item.result in
    let slice = c.deref-one-items.ensures.value in
    let low : i < length cs = subst (λ l. i < length l) slice c.lines-test.true in
    let is : one ≡ get_or cs i one = subst (λ l. one ≡ get_or l i one) slice c.one-item.is in
    let old = g.O.Sink.taken c.args.out.now in
    let mid = g.O.Sink.taken c.lines.out in
    let new = g.O.Sink.taken c.gather_one.new.out in
    let whole = c.args.page.now.text.items ++ told_file c.args.file 0 lanes cs in
    let waited = c.lines.page.text.items in
    let line_is : told_line c.args.file c.lines.place one.id c.report_of.result ≡ told_line c.args.file i one.id (told_report lanes one.judgement)
    = ap (λ n. told_line c.args.file n one.id c.report_of.result) c.lines.invariant.at ∙ ap (told_line c.args.file i one.id) c.report_of.ensures in
    record {
      count = omega (arith, c.lines.invariant.count, c.in_ok-gather_one.ensures.cause.later);
      at = omega (
        arith,
        c.saturating_add-place.ensures,
        c.lines.invariant.at,
        c.lines.auto.one-index-end,
        c.deref-one-items.ensures.len,
        c.lines-test.true,
      );
      text = gathered_more old mid new whole waited (told_line c.args.file c.lines.place one.id c.report_of.result)
          (told_file c.args.file (i + 1) lanes (drop (i + 1) cs))
          (subst (λ l. Goes old mid whole (waited ++ l))
          (next_line c.args.file i lanes cs one low is ∙ ap (λ l. l ++ told_file c.args.file (i + 1) lanes (drop (i + 1) cs)) (sym line_is))
          c.lines.invariant.text)
          c.gather_one.new.page.text.items c.in_ok-gather_one.ensures.gathers;
    }

pub returns-in_err-gather_one-clause-gathers : goal.returns-in_err-gather_one-clause-gathers
returns-in_err-gather_one-clause-gathers g c =
    let cs = c.args.wave.now.checked.items in
    let lanes = c.args.wave.now.lanes.items in
    let i = c.lines.one-index in
    let one = c.one-item.result in
    let slice = c.deref-one-items.ensures.value in
    let low : i < length cs = subst (λ l. i < length l) slice c.lines-test.true in
    let is : one ≡ get_or cs i one = subst (λ l. one ≡ get_or l i one) slice c.one-item.is in
    let old = g.O.Sink.taken c.args.out.now in
    let mid = g.O.Sink.taken c.lines.out in
    let new = g.O.Sink.taken c.gather_one.new.out in
    let whole = c.args.page.now.text.items ++ told_file c.args.file 0 lanes cs in
    let waited = c.lines.page.text.items in
    let line_is : told_line c.args.file c.lines.place one.id c.report_of.result ≡ told_line c.args.file i one.id (told_report lanes one.judgement)
    = ap (λ n. told_line c.args.file n one.id c.report_of.result) c.lines.invariant.at ∙ ap (told_line c.args.file i one.id) c.report_of.ensures in
    let p = err_from_is_err_and c.from_residual.result c.from_residual.ensures.1 in
    rw p.1 (
    gathered_cut old mid new whole waited (told_line c.args.file c.lines.place one.id c.report_of.result)
    (told_file c.args.file (i + 1) lanes (drop (i + 1) cs))
    (subst (λ l. Goes old mid whole (waited ++ l))
    (next_line c.args.file i lanes cs one low is ∙ ap (λ l. l ++ told_file c.args.file (i + 1) lanes (drop (i + 1) cs)) (sym line_is))
    c.lines.invariant.text)
    c.in_err-gather_one.ensures.gathers
    )

pub returns-clause-gathers : goal.returns-clause-gathers
returns-clause-gathers g c =
    let cs = c.args.wave.now.checked.items in
    let lanes = c.args.wave.now.lanes.items in
    let old = g.O.Sink.taken c.args.out.now in
    let mid = g.O.Sink.taken c.lines.out in
    let whole = c.args.page.now.text.items ++ told_file c.args.file 0 lanes cs in
    let waits = c.lines.page.text.items in
    subst (Goes old mid whole)
    (ap (λ l. waits ++ l) (no_line c.args.file c.lines.one-index c.lines.one-index lanes cs
    (omega (arith, c.lines-test.false, ap length c.deref-one-items.ensures.value))) ∙ append-nil waits) c.lines.invariant.text
