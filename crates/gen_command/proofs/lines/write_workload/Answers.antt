use Rattle.std.proofs.Common.{◌≡◌, ◌++◌, Some, Err, subst}
use Rattle.outside.specs.Images.{Tells}
use Rattle.std.proofs.lemmas.Result.{err_from_is_err_and}
use Rattle.line_text.specs.Lines.{Prints}
use Rattle.line_text.specs.Reports.{audit_text}
use Rattle.run_lines.specs.Told.{numbers_of}
use Rattle.command_answers.proofs.Parts.{goes_begin, part_more, part_cut, last_part}
use Rattle.gen_command.specs.Watched.{cut_text}
use Rattle.gen_command.proofs.lines.write_workload.Goals as goal

pub returns-in_err-write_generated-clause-prints : goal.returns-in_err-write_generated-clause-prints
returns-in_err-write_generated-clause-prints g c countable =
    let old = g.O.Sink.taken c.args.out.now in
    let new = g.O.Sink.taken c.write_generated.new.out in
    let numbers = numbers_of c.args.ran.now ++ audit_text c.args.totals.now in
    let rest = cut_text c.args.cut in
    let p = err_from_is_err_and c.from_residual.result c.from_residual.ensures.1 in
    rw p.1 (part_cut old old new (numbers ++ rest) numbers rest (goes_begin old (numbers ++ rest))
    (c.in_err-write_generated.ensures.prints countable))

pub returns-clause-prints : goal.returns-clause-prints
returns-clause-prints g c countable =
    let old = g.O.Sink.taken c.args.out.now in
    let mid = g.O.Sink.taken c.write_generated.new.out in
    let new = g.O.Sink.taken c.write_cut.new.out in
    let numbers = numbers_of c.args.ran.now ++ audit_text c.args.totals.now in
    let rest = cut_text c.args.cut in
    last_part old mid new (numbers ++ rest) rest c.write_cut.result
    (part_more old old mid (numbers ++ rest) numbers rest (goes_begin old (numbers ++ rest)) (c.in_ok-write_generated.ensures.prints countable))
    c.write_cut.ensures.prints
