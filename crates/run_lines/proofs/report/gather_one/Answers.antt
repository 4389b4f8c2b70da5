use Rattle.std.proofs.Common.{◌≡◌, ◌++◌, take, Some, Err, ap, ◌∙◌, subst}
use Rattle.std.proofs.lemmas.Result.{err_from_is_err_and}
use Rattle.outside.specs.Images.{Tells}
use Rattle.line_text.specs.Lines.{Prints}
use Rattle.line_text.proofs.PieceLemmas.{front_stays}
use Rattle.run_lines.specs.Told.{told_line}
use Rattle.run_lines.proofs.Pages.{cut_back, all_out}
use Rattle.run_lines.proofs.report.gather_one.Goals as goal

pub returns-in_err-write_all-in-Err-clause-gathers : goal.returns-in_err-write_all-in-Err-clause-gathers
returns-in_err-write_all-in-Err-clause-gathers g c =
    let old = g.O.Sink.taken c.args.out.now in
    let new = g.O.Sink.taken c.write_all.new.out in
    let waited = c.args.page.now.text.items in
    let half = c.write_one.new.out.text.items in
    let text = told_line c.args.file c.args.place c.args.id.now c.args.report.now in
    let back : c.lines.result.now ≡ waited = c.lines.ensures ∙ c.truncate.ensures ∙ ap (λ n. take n half) c.len-waiting.ensures
    ∙ cut_back waited half text c.in-Err.ensures.prints in
    let p = err_from_is_err_and c.from_residual.result c.from_residual.ensures.1 in
    rw p.1 (front_stays old new waited text (subst (λ l. Prints old new l (Err c.in_err-write_all-in-Err.field-0.0)) back
    c.in_err-write_all-in-Err.ensures.prints))

pub returns-in_ok-write_all-in-Err-clause-gathers : goal.returns-in_ok-write_all-in-Err-clause-gathers
returns-in_ok-write_all-in-Err-clause-gathers g c =
    let old = g.O.Sink.taken c.args.out.now in
    let mid = g.O.Sink.taken c.write_all.new.out in
    let waited = c.args.page.now.text.items in
    let half = c.write_one.new.out.text.items in
    let text = told_line c.args.file c.args.place c.args.id.now c.args.report.now in
    let back : c.lines.result.now ≡ waited = c.lines.ensures ∙ c.truncate.ensures ∙ ap (λ n. take n half) c.len-waiting.ensures
    ∙ cut_back waited half text c.in-Err.ensures.prints in
    let first : Tells old (λ t. mid ≡ Some (t ++ waited)) =
    subst (λ l. Tells old (λ t. mid ≡ Some (t ++ l))) back c.in_ok-write_all-in-Err.ensures.prints in
    all_out old mid (g.O.Sink.taken c.write_one-in-Err.new.out) waited c.truncate-in-Err.new.self.text.items text c.write_one-in-Err.result
    c.truncate-in-Err.ensures first c.write_one-in-Err.ensures.prints
