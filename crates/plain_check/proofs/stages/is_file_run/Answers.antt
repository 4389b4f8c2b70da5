use Rattle.std.proofs.Common.{◌↔◌, ℕ, ◌<◌}
use Rattle.std.proofs.lemmas.Result.{IfOk-weaker}
use Rattle.std.specs.Prelude.{IsTrue}
use Rattle.cbdc_model.specs.Ranges.{home_of}
use Rattle.cbdc_model.specs.Waves.{IsFileRun}
use Rattle.plain_check.specs.Journals.{journals_in}
use Rattle.plain_check.specs.Adding.{PreparesInPieces}
use Rattle.plain_check.specs.Stages.{sent_in}
use Rattle.plain_check.proofs.Staging.{file_run_by}
use Rattle.plain_check.proofs.stages.is_file_run.Goals as goal

pub returns : goal.returns
returns c =
    let I = journals_in c.args.old.now in
    let J = journals_in c.args.new.now in
    let sent = sent_in c.args.lists.now in
    IfOk-weaker c.are_prepared_below.result (λ told. IsTrue told
    ↔ ((lane : ℕ) → lane < c.lane_count.result → PreparesInPieces c.args.shape.now lane (sent lane) (I (home_of c.args.shape.now lane))
    (J (home_of c.args.shape.now lane))))
    (λ told. IsTrue told ↔ IsFileRun c.args.shape.now sent I J)
    (λ told h. file_run_by c.args.shape.now sent I J c.lane_count.result told c.lane_count.ensures.value (c.adds.ensures.0 c.if-not-adds.false)
    (c.are_idle.ensures.0 c.if-not-are_idle.false) h) c.are_prepared_below.ensures
