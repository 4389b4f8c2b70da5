use Rattle.std.proofs.Common.{◌++◌}
use Rattle.outside.specs.Counts.{Rose}
use Rattle.line_text.specs.Reports.{audit_text}
use Rattle.gen_command.specs.Generated.{WhyNoWorkload}
use Rattle.gen_command.specs.Watched.{cut_text}
use Rattle.run_lines.specs.Told.{numbers_of}
use Rattle.command_answers.proofs.Answers.{told}
use Rattle.command_answers.proofs.Silent.{silent_same}
use Rattle.gen_command.proofs.Came.{why_done, text_of}
use Rattle.gen_command.proofs.generating.generated.Goals as goal

pub returns-in-Err-clause-why : goal.returns-in-Err-clause-why
returns-in-Err-clause-why g c = told (WhyNoWorkload c.args.shape.now c.args.seed c.args.count c.args.options.watch) c.in-Err.fault
    c.in-Err.ensures.why

pub returns-in-Err-clause-cause : goal.returns-in-Err-clause-cause
returns-in-Err-clause-cause g c =
    why_done c.args.shape.now c.args.seed c.args.count c.args.options.watch (Rose (g.O.Sink.count c.args.out.now) (g.O.Sink.count c.args.out.now))
    c.in-Err.fault c.in-Err.ensures.why

pub returns-in-Err-clause-silent : goal.returns-in-Err-clause-silent
returns-in-Err-clause-silent g c = silent_same (g.O.Sink.taken c.args.out.now) c.in-Err.fault

pub returns-in-Ok-write_workload-clause-did : goal.returns-in-Ok-write_workload-clause-did
returns-in-Ok-write_workload-clause-did g c well = (
  (numbers_of c.in-Ok.came.ran ++ audit_text c.in-Ok.came.totals) ++ cut_text c.in-Ok.came.cut,
  text_of c.args.shape.now c.args.seed c.args.count c.args.options c.in-Ok.came.ran c.in-Ok.came.totals c.in-Ok.came.cut c.in-Ok.ensures.did,
  c.in-Ok-write_workload.ensures.prints c.in-Ok.ensures.did.countable,
)

pub returns-clause-did : goal.returns-clause-did
returns-clause-did g c well = (
  (numbers_of c.in-Ok.came.ran ++ audit_text c.in-Ok.came.totals) ++ cut_text c.in-Ok.came.cut,
  text_of c.args.shape.now c.args.seed c.args.count c.args.options c.in-Ok.came.ran c.in-Ok.came.totals c.in-Ok.came.cut c.in-Ok.ensures.did,
  c.in-Err-write_workload.ensures.prints c.in-Ok.ensures.did.countable,
)
