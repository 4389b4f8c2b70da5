use Rattle.std.proofs.Common.{◌≡◌, ◌++◌, Some, subst, Err}
use Rattle.outside.specs.Images.{Tells}
use Rattle.std.proofs.lemmas.Result.{err_from_is_err_and}
use Rattle.line_text.specs.Lines.{Prints}
use Rattle.run_lines.specs.Told.{told_files, ran_text, numbers_of}
use Rattle.command_answers.proofs.Parts.{goes_begin, part_more, part_cut, last_part}
use Rattle.run_lines.proofs.Sums.{numbers_text}
use Rattle.run_lines.proofs.report.write_report.Goals as goal

pub returns-in_err-write_waves-clause-prints : goal.returns-in_err-write_waves-clause-prints
returns-in_err-write_waves-clause-prints g c countable =
    let old = g.O.Sink.taken c.args.out.now in
    let new = g.O.Sink.taken c.write_waves.new.out in
    let ran = c.args.ran.now in
    let p = err_from_is_err_and c.from_residual.result c.from_residual.ensures.1 in
    rw p.1 (part_cut old old new (ran_text ran) (told_files 1 ran.waves.items) (numbers_of ran) (goes_begin old (ran_text ran))
    (subst (λ ws. Prints old new (told_files 1 ws) (Err c.in_err-write_waves.field-0)) c.deref.ensures.value c.in_err-write_waves.ensures.prints))

pub returns-clause-prints : goal.returns-clause-prints
returns-clause-prints g c countable =
    let old = g.O.Sink.taken c.args.out.now in
    let mid = g.O.Sink.taken c.write_waves.new.out in
    let new = g.O.Sink.taken c.write_summary.new.out in
    let ran = c.args.ran.now in
    let lines : Tells old (λ t. mid ≡ Some (t ++ told_files 1 ran.waves.items)) =
    subst (λ ws. Tells old (λ t. mid ≡ Some (t ++ told_files 1 ws))) c.deref.ensures.value c.in_ok-write_waves.ensures.prints in
    last_part old mid new (ran_text ran) (numbers_of ran) c.write_summary.result
    (part_more old old mid (ran_text ran) (told_files 1 ran.waves.items) (numbers_of ran) (goes_begin old (ran_text ran)) lines)
    (subst (λ t. Prints mid new t c.write_summary.result) (numbers_text ran c.summary_of.result (c.summary_of.ensures countable))
    c.write_summary.ensures.prints)
