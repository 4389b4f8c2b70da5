use Rattle.std.proofs.Common.{◌≡◌, ◌+◌, ◌++◌, drop, subst, sym, ap, ◌∙◌, arith}
use Rattle.std.proofs.lemmas.List.{append-nil}
use Rattle.std.proofs.lemmas.Result.{err_from_is_err_and}
use Rattle.line_text.specs.Lines.{Prints}
use Rattle.run_lines.specs.Told.{told_file, told_files}
use Rattle.command_answers.proofs.Parts.{Goes, goes_begin, last_part}
use Rattle.run_lines.proofs.Pages.{gathered_more, gathered_cut}
use Rattle.run_lines.proofs.RunLines.{next_file, no_file}
use Rattle.run_lines.proofs.report.write_waves.Goals as goal

pub waves-init : goal.waves-init
waves-init g c =
    let old = g.O.Sink.taken c.args.out.now in
    let all = told_files 1 c.args.waves.now in
    record {
      count = omega arith;
      at = omega arith;
      text = subst (λ l. Goes old old all (l ++ all)) (sym c.new-page.ensures) (goes_begin old all);
    }

pub waves-preserved : goal.waves-preserved
waves-preserved g c =
    let ws = c.args.waves.now in
    let i = c.waves.wave-index in
    let w = c.wave-item.result in
    let old = g.O.Sink.taken c.args.out.now in
    let mid = g.O.Sink.taken c.waves.out in
    let new = g.O.Sink.taken c.gather_wave.new.out in
    let waited = c.waves.page.text.items in
    let number : c.waves.file ≡ i + 1 = omega (arith, c.waves.invariant.at, c.waves-test.true, c.waves.auto.wave-index-end) in
    record {
      count = omega (arith, c.waves.invariant.count, c.in_ok-gather_wave.ensures.cause.later);
      at = omega (arith, c.saturating_add-file.ensures, c.waves.invariant.at);
      text = gathered_more old mid new (told_files 1 ws) waited (told_file c.waves.file 0 w.lanes.items w.checked.items)
          (told_files ((i + 1) + 1) (drop (i + 1) ws))
          (subst (λ l. Goes old mid (told_files 1 ws) (waited ++ l))
          (next_file i ws w c.waves-test.true c.wave-item.is
          ∙ ap (λ n. told_file n 0 w.lanes.items w.checked.items ++ told_files ((i + 1) + 1) (drop (i + 1) ws)) (sym number))
          c.waves.invariant.text)
          c.gather_wave.new.page.text.items c.in_ok-gather_wave.ensures.gathers;
    }

pub returns-in_err-gather_wave-clause-prints : goal.returns-in_err-gather_wave-clause-prints
returns-in_err-gather_wave-clause-prints g c =
    let ws = c.args.waves.now in
    let i = c.waves.wave-index in
    let w = c.wave-item.result in
    let old = g.O.Sink.taken c.args.out.now in
    let mid = g.O.Sink.taken c.waves.out in
    let new = g.O.Sink.taken c.gather_wave.new.out in
    let waited = c.waves.page.text.items in
    let number : c.waves.file ≡ i + 1 = omega (arith, c.waves.invariant.at, c.waves-test.true, c.waves.auto.wave-index-end) in
    let p = err_from_is_err_and c.from_residual.result c.from_residual.ensures.1 in
    rw p.1 (
    gathered_cut old mid new (told_files 1 ws) waited (told_file c.waves.file 0 w.lanes.items w.checked.items)
    (told_files ((i + 1) + 1) (drop (i + 1) ws))
    (subst (λ l. Goes old mid (told_files 1 ws) (waited ++ l))
    (next_file i ws w c.waves-test.true c.wave-item.is
    ∙ ap (λ n. told_file n 0 w.lanes.items w.checked.items ++ told_files ((i + 1) + 1) (drop (i + 1) ws)) (sym number)) c.waves.invariant.text)
    c.in_err-gather_wave.ensures.gathers
    )

pub returns-clause-prints : goal.returns-clause-prints
returns-clause-prints g c =
    let ws = c.args.waves.now in
    let old = g.O.Sink.taken c.args.out.now in
    let mid = g.O.Sink.taken c.waves.out in
    let new = g.O.Sink.taken c.write_all.new.out in
    let waits = c.waves.page.text.items in
    last_part old mid new (told_files 1 ws) waits c.write_all.result
    (subst (Goes old mid (told_files 1 ws)) (ap (λ l. waits ++ l)
    (no_file c.waves.wave-index (c.waves.wave-index + 1) ws (omega (arith, c.waves-test.false))) ∙ append-nil waits) c.waves.invariant.text)
    (subst (λ l. Prints mid new l c.write_all.result) c.lines.ensures c.write_all.ensures.prints)
