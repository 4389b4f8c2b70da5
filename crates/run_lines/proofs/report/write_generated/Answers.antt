use Rattle.std.proofs.Common.{◌≡◌, ◌++◌, Some, Err, subst}
use Rattle.outside.specs.Images.{Tells}
use Rattle.std.proofs.lemmas.Result.{err_from_is_err_and}
use Rattle.line_text.specs.Lines.{Prints}
use Rattle.line_text.specs.Reports.{audit_text}
use Rattle.run_lines.specs.Told.{numbers_of}
use Rattle.command_answers.proofs.Parts.{goes_begin, part_more, part_cut, last_part}
use Rattle.run_lines.proofs.Sums.{numbers_text}
use Rattle.run_lines.proofs.report.write_generated.Goals as goal

pub returns-in_err-write_summary-clause-prints : goal.returns-in_err-write_summary-clause-prints
returns-in_err-write_summary-clause-prints g c countable =
    let old = g.O.Sink.taken c.args.out.now in
    let new = g.O.Sink.taken c.write_summary.new.out in
    let ran = c.args.ran.now in
    let rest = audit_text c.args.totals.now in
    let p = err_from_is_err_and c.from_residual.result c.from_residual.ensures.1 in
    rw p.1 (part_cut old old new (numbers_of ran ++ rest) (numbers_of ran) rest (goes_begin old (numbers_of ran ++ rest))
    (subst (λ t. Prints old new t (Err c.in_err-write_summary.field-0)) (numbers_text ran c.summary_of.result (c.summary_of.ensures countable))
    c.in_err-write_summary.ensures.prints))

pub returns-clause-prints : goal.returns-clause-prints
returns-clause-prints g c countable =
    let old = g.O.Sink.taken c.args.out.now in
    let mid = g.O.Sink.taken c.write_summary.new.out in
    let new = g.O.Sink.taken c.write_audit.new.out in
    let ran = c.args.ran.now in
    let rest = audit_text c.args.totals.now in
    let lines : Tells old (λ t. mid ≡ Some (t ++ numbers_of ran)) =
    subst (λ l. Tells old (λ t. mid ≡ Some (t ++ l))) (numbers_text ran c.summary_of.result (c.summary_of.ensures countable))
    c.in_ok-write_summary.ensures.prints in
    last_part old mid new (numbers_of ran ++ rest) rest c.write_audit.result
    (part_more old old mid (numbers_of ran ++ rest) (numbers_of ran) rest (goes_begin old (numbers_of ran ++ rest)) lines)
    c.write_audit.ensures.prints
