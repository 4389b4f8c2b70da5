use Rattle.std.proofs.Common.{◌≡◌, ◌↔◌, ℕ, ◌+◌, ◌∙◌, List, ap, subst}
use Rattle.std.specs.Prelude.{IsTrue, IfOk}
use Rattle.cbdc_model.specs.Records.{Record, journal}
use Rattle.cbdc_model.specs.Causes.{IsCaused}
use Rattle.plain_check.specs.Journals.{journals_in}
use Rattle.plain_check.proofs.Placing.{all_journals}
use Rattle.plain_check.proofs.standing.is_caused_at.Goals as goal

pub returns : goal.returns
returns c =
    let e : journals_in c.as_slice.result.now ≡ (λ n. journal n c.args.past.now) =
    ap journals_in (c.as_slice.ensures ∙ c.in_ok-all.ensures)
    ∙ all_journals c.args.past.now (c.args.shape.now.coordinators + c.args.shape.now.shards) c.requires in
    let P : (ℕ → List Record) → Type 0 = λ J. IfOk c.is_caused.result
    (λ yes. IsTrue yes ↔ IsCaused c.args.shape.now J c.args.row.now.node c.args.row.now.what) in
    subst P e (rw (← c.row.view_is) c.is_caused.ensures)
