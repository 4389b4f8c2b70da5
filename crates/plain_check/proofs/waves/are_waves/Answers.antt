use Rattle.std.proofs.Common.{◌≡◌, ◌↔◌, Bool, [], ◌∷◌, ◌++◌, ◌∙◌, ap, subst}
use Rattle.std.proofs.lemmas.Result.{IfOk-weaker}
use Rattle.std.specs.Prelude.{IsTrue}
use Rattle.cbdc_model.specs.Coins.{FullTx}
use Rattle.cbdc_model.specs.Waves.{Waves}
use Rattle.plain_check.specs.Journals.{journals_in}
use Rattle.submissions.specs.Checks.{TellsSound}
use Rattle.plain_check.specs.Stages.{RunsBy}
use Rattle.plain_check.specs.declared.stages.Stage.TheVariants.{Resume}
use Rattle.plain_check.proofs.Staging.{waves_by}
use Rattle.plain_check.proofs.waves.are_waves.Goals as goal

pub returns : goal.returns
returns g c =
    let added = c.in_ok-add_stages.ensures in
    let E = journals_in c.args.entry.now in
    let X = journals_in c.args.exit.now in
    let first : c.put.new.out.items ≡ Resume ∷ [] = c.in_ok-put.ensures ∙ ap (λ l. l ++ Resume ∷ []) c.new-stages.ensures.items in
    let all : c.as_slice.result.now ≡ Resume ∷ added.0 = c.as_slice.ensures.value ∙ added.1 ∙ ap (λ l. l ++ added.0) first in
    IfOk-weaker c.are_stages.result (λ told. IsTrue told ↔ RunsBy c.args.shape.now c.as_slice.result.now E X)
    (λ told. (sound : FullTx → Bool) → TellsSound (g.V.Verifier.verdict_of c.args.verifier.now) sound
    → IsTrue told ↔ Waves c.args.shape.now sound c.args.files.now E X)
    (λ told h sound tells.
    let here : IsTrue told ↔ RunsBy c.args.shape.now (Resume ∷ added.0) E X = subst (λ l. IsTrue told ↔ RunsBy c.args.shape.now l E X) all h in
    let both = waves_by c.args.shape.now sound c.args.files.now added.0 E X (added.2 sound tells) in
    (λ t. both.0 (here.0 t), λ w. here.1 (both.1 w)))
    c.are_stages.ensures
