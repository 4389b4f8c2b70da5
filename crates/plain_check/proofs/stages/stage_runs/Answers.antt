use Rattle.std.proofs.Common.{◌↔◌, sym, subst}
use Rattle.std.specs.Prelude.{IsTrue, IfOk}
use Rattle.cbdc_model.specs.Waves.{IsFileRun}
use Rattle.plain_check.specs.Journals.{journals_in}
use Rattle.plain_check.specs.Stages.{sent_in, StageRuns}
use Rattle.plain_check.proofs.stages.stage_runs.Goals as goal

pub returns-in-File : goal.returns-in-File
returns-in-File c =
    let I = journals_in c.args.old.now in
    let J = journals_in c.args.new.now in
    let lists = subst (λ l. IfOk c.is_file_run.result (λ told. IsTrue told ↔ IsFileRun c.args.shape.now (sent_in l) I J)) c.as_slice.ensures.value
    c.is_file_run.ensures in
    subst (λ s. IfOk c.is_file_run.result (λ told. IsTrue told ↔ StageRuns c.args.shape.now s I J)) (sym c.in-File.is) lists
