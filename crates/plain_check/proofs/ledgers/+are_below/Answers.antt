use Rattle.std.proofs.Common.{◌<◌, nat_lt, false, ◌≡◌, [], ℕ, ◌≤◌, ◌↔◌, sym, subst, arith}
use Rattle.std.specs.Prelude.{IsTrue}
use Rattle.std.proofs.lemmas.Grind.{common_steps}
use Rattle.cbdc_model.specs.Records.{journal}
use Rattle.plain_check.proofs.Belows.{below_more, below_not}
use Rattle.plain_check.proofs.ledgers.+are_below.Goals as goal

pub returns-then-number_of-n : goal.returns-then-number_of-n
returns-then-number_of-n t c =
    let less : c.in-Some.row.now.node < c.args.n = grind (arith, common_steps, c.if-number_of-n.true, c.number_of.ensures) in
    below_more c.args.rows.now c.in-Some.past.now c.in-Some.row.now c.args.n c.are_below.result c.in-Some.ensures.cases.0 less c.are_below.ensures

pub returns-else-number_of-n : goal.returns-else-number_of-n
returns-else-number_of-n t c =
    let most : c.args.n ≤ c.in-Some.row.now.node = grind (arith, common_steps, c.if-number_of-n.false, c.number_of.ensures) in
    let told : nat_lt c.number_of.result c.args.n ≡ false = grind (arith, common_steps, c.if-number_of-n.false) in
    subst (λ b. IsTrue b ↔ ((k : ℕ) → c.args.n ≤ k → journal k c.args.rows.now ≡ [])) (sym told)
    (below_not c.args.rows.now c.in-Some.past.now c.in-Some.row.now c.args.n c.in-Some.ensures.cases.0 most)
