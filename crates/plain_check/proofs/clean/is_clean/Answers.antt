use Rattle.std.proofs.Common.{◌≡◌, ◌↔◌, ◌++◌, subst, arith}
use Rattle.std.specs.Prelude.{IsTrue}
use Rattle.std.specs.List.{AllByRecursion}
use Rattle.std.proofs.lemmas.Grind.{common_steps}
use Rattle.cbdc_model.specs.Coins.{genesis_tx, tx_coins}
use Rattle.plain_check.specs.Agreeing.{CoinsAgree, coins_in}
use Rattle.plain_check.proofs.Members.{no_lie, clean_by, first_agrees, each_agrees, coins_agree}
use Rattle.plain_check.proofs.clean.is_clean.Goals as goal

pub returns-then-not-branch : goal.returns-then-not-branch
returns-then-not-branch c = (
  λ f. absurd (no_lie f),
  λ clean. absurd (no_lie (subst IsTrue c.if-not-branch.true
      (c.in_ok-does_mint_agree.ensures.1 (first_agrees c.args.mint.now c.args.submissions.now clean)))),
)

pub returns-then-not-all_agree : goal.returns-then-not-all_agree
returns-then-not-all_agree c = (
  λ f. absurd (no_lie f),
  λ clean.
      let t : IsTrue c.all_agree.result = c.all_agree.ensures.1 (each_agrees c.args.mint.now c.args.submissions.now clean) in
      grind (arith, common_steps, t, c.if-not-all_agree.true),
)

pub returns : goal.returns
returns c =
    let each : IsTrue c.all_agree.result = grind (arith, common_steps, c.if-not-all_agree.false) in
    let named : c.as_slice-named.result.now ≡ tx_coins (genesis_tx c.args.mint.now) ++ coins_in c.args.submissions.now = grind (arith, common_steps)
    in
    let told = subst (λ xs. IsTrue c.all_coins_agree.result ↔ AllByRecursion (λ x. AllByRecursion (CoinsAgree x) xs) xs) named
    c.all_coins_agree.ensures in (
      λ t. clean_by c.args.mint.now c.args.submissions.now (c.in_ok-does_mint_agree.ensures.0 c.if-not-branch.false) (c.all_agree.ensures.0 each)
          (told.0 t),
      λ clean. told.1 (coins_agree c.args.mint.now c.args.submissions.now clean),
    )
