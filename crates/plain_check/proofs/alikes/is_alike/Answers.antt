use Rattle.std.proofs.Common.{◌≡◌, ◌↔◌, ℕ, ◌<◌, ap, sym, ◌∙◌, subst, arith}
use Rattle.std.specs.Prelude.{IsTrue}
use Rattle.std.proofs.lemmas.Grind.{common_steps}
use Rattle.cbdc_model.specs.World.{count_of}
use Rattle.plain_check.specs.Journals.{journals_in}
use Rattle.plain_check.specs.Alikes.{IsAlikeAt}
use Rattle.plain_check.proofs.Finished.{alike_by}
use Rattle.plain_check.proofs.alikes.is_alike.Goals as goal

pub returns-then-count_of-eq1 : goal.returns-then-count_of-eq1
returns-then-count_of-eq1 c =
    let one : c.count_of.result ≡ 1 = grind (arith, common_steps, c.if-count_of-eq1.true) in
    alike_by c.args.shape.now (journals_in c.args.journals.now) c.args.batch.now c.are_alike_below.result
    (ap (λ l. count_of 7 l c.args.batch.now) (sym c.home_journal.ensures) ∙ sym c.count_of.ensures.count ∙ one)
    (subst (λ n. IsTrue c.are_alike_below.result ↔
    ((s : ℕ) → s < n → IsAlikeAt c.args.shape.now (journals_in c.args.journals.now) c.args.batch.now s)) c.shards.ensures.value
    c.are_alike_below.ensures)
