use Rattle.std.proofs.Common.{subst}
use Rattle.std.proofs.lemmas.Result.{on_ok_weaker}
use Rattle.plain_check.specs.Stages.{IsFileStage}
use Rattle.plain_check.proofs.Staging.{more_stages}
use Rattle.plain_check.proofs.waves.+add_stages.Goals as goal

pub returns : goal.returns
returns g t c =
    on_ok_weaker c.add_stages.result
    (λ later. more_stages c.args.shape.now (g.V.Verifier.verdict_of c.args.verifier.now) c.args.files.now c.in-Some.file.now c.in-Some.rest.now
    c.in_ok-stage_of.field-0
    c.args.out.now.items c.put.new.out.items c.add_stages.new.out.items c.in-Some.ensures.cases.0
    (λ sound tells. subst (λ f. IsFileStage c.args.shape.now sound f c.in_ok-stage_of.field-0) c.as_slice.ensures
    (c.in_ok-stage_of.ensures sound tells))
    c.in_ok-put.ensures later)
    c.add_stages.ensures
