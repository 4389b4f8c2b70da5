use Rattle.std.proofs.Common.{subst, sym}
use Rattle.line_text.specs.Lines.{Prints, rejected_line}
use Rattle.printed_lines.specs.Runs.{decided_line}
use Rattle.run_lines.proofs.report.write_decided.Goals as goal

pub returns-in-Missing-clause-prints : goal.returns-in-Missing-clause-prints
returns-in-Missing-clause-prints g c =
    subst (λ o. Prints (g.O.Sink.taken c.args.out.now) (g.O.Sink.taken c.write_rejected.new.out)
    (decided_line c.args.file c.args.place c.args.id.now c.args.batch o) c.write_rejected.result) (sym c.in-Missing.is)
    (subst (λ o. Prints (g.O.Sink.taken c.args.out.now) (g.O.Sink.taken c.write_rejected.new.out)
    (rejected_line c.args.file c.args.place c.args.id.now o c.args.batch) c.write_rejected.result) c.in-Missing.is
    c.write_rejected.ensures.prints)

pub returns-in-Locked-clause-prints : goal.returns-in-Locked-clause-prints
returns-in-Locked-clause-prints g c =
    subst (λ o. Prints (g.O.Sink.taken c.args.out.now) (g.O.Sink.taken c.write_rejected-in-Locked.new.out)
    (decided_line c.args.file c.args.place c.args.id.now c.args.batch o) c.write_rejected-in-Locked.result) (sym c.in-Locked.is)
    (subst (λ o. Prints (g.O.Sink.taken c.args.out.now) (g.O.Sink.taken c.write_rejected-in-Locked.new.out)
    (rejected_line c.args.file c.args.place c.args.id.now o c.args.batch) c.write_rejected-in-Locked.result) c.in-Locked.is
    c.write_rejected-in-Locked.ensures.prints)
