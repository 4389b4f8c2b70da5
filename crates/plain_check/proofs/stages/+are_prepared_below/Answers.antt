use Rattle.std.proofs.Common.{◌≡◌, ◌↔◌, ℕ, ◌<◌, ◌-◌, ap, ◌∙◌, arith}
use Rattle.std.proofs.lemmas.Grind.{common_steps}
use Rattle.std.proofs.lemmas.Result.{IfOk-weaker}
use Rattle.std.specs.Prelude.{IsTrue}
use Rattle.cbdc_model.specs.Ranges.{home_of}
use Rattle.plain_check.specs.Journals.{journals_in}
use Rattle.plain_check.specs.Adding.{PreparesInPieces}
use Rattle.plain_check.specs.Stages.{sent_in}
use Rattle.plain_check.proofs.Below.{next_below}
use Rattle.plain_check.proofs.Cutting.{prepared_alike}
use Rattle.plain_check.proofs.stages.+are_prepared_below.Goals as goal

pub returns : goal.returns
returns t c =
    let P : ℕ → Type 0 = λ lane. PreparesInPieces c.args.shape.now lane (sent_in c.args.lists.now lane)
    (journals_in c.args.old.now (home_of c.args.shape.now lane)) (journals_in c.args.new.now (home_of c.args.shape.now lane)) in
    let home : c.home.inside.0 ≡ home_of c.args.shape.now (c.args.n - 1) = grind (arith, common_steps, c.home_of.ensures, c.home.view_is) in
    let last : P (c.args.n - 1) = prepared_alike c.args.shape.now (c.args.n - 1) c.sent_to.result.now (sent_in c.args.lists.now (c.args.n - 1))
    c.journal_at-before.result.now (journals_in c.args.old.now (home_of c.args.shape.now (c.args.n - 1))) c.journal_at-after.result.now
    (journals_in c.args.new.now (home_of c.args.shape.now (c.args.n - 1)))
    c.sent_to.ensures (c.journal_at-before.ensures ∙ ap (journals_in c.args.old.now) home)
    (c.journal_at-after.ensures ∙ ap (journals_in c.args.new.now) home)
    (c.in_ok-is_prepared.ensures.0 c.if-not-branch.false) in
    IfOk-weaker c.are_prepared_below.result (λ told. IsTrue told ↔ ((lane : ℕ) → lane < c.args.n - 1 → P lane))
    (λ told. IsTrue told ↔ ((lane : ℕ) → lane < c.args.n → P lane))
    (λ told h. next_below P c.args.n told (omega arith) last h) c.are_prepared_below.ensures
