use Rattle.std.proofs.Common.{◌≡◌, ◌↔◌, ℕ, ◌∙◌, List, ap, subst}
use Rattle.std.specs.Prelude.{IsTrue, IfOk}
use Rattle.cbdc_model.specs.Records.{Record}
use Rattle.cbdc_model.specs.Causes.{IsCaused}
use Rattle.cbdc_model.specs.World.{journals}
use Rattle.plain_check.specs.Journals.{journals_in}
use Rattle.plain_check.proofs.WorldSteps.{journals_copied}
use Rattle.plain_check.proofs.event_causes.is_caused_in.Goals as goal

pub returns : goal.returns
returns c =
    let e : journals_in c.as_slice.result.now ≡ journals c.args.nodes.now =
    ap journals_in (c.as_slice.ensures ∙ c.in_ok-all.ensures) ∙ journals_copied c.args.nodes.now in
    let P : (ℕ → List Record) → Type 0 = λ J. IfOk c.is_caused.result (λ yes. IsTrue yes ↔ IsCaused c.args.shape.now J c.args.node c.args.r.now) in
    subst P e c.is_caused.ensures
