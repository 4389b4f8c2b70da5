use Rattle.std.proofs.Common.{◌++◌}
use Rattle.line_text.proofs.PieceLemmas.{front_stays, prints_then}
use Rattle.line_text.proofs.faults.write_around.Goals as goal

pub returns-in-Err-clause-prints : goal.returns-in-Err-clause-prints
returns-in-Err-clause-prints g c = front_stays (g.O.Sink.taken c.args.out.now) (g.O.Sink.taken c.write_both.new.out)
    (c.args.front.now ++ c.args.name.now) c.args.end.now c.in-Err.ensures.prints

pub returns-in-Ok-clause-prints : goal.returns-in-Ok-clause-prints
returns-in-Ok-clause-prints g c = prints_then (g.O.Sink.taken c.args.out.now) (g.O.Sink.taken c.write_both.new.out) _
    (c.args.front.now ++ c.args.name.now) c.args.end.now _ c.in-Ok.ensures.prints c.write_all.ensures.prints
