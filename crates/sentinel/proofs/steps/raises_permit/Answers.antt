use Rattle.std.proofs.Common.{◌≡◌, ◌<◌, ap, sym, ◌∙◌, arith, refl}
use Rattle.cbdc_model.specs.Money.{issuable_of, sum_in, sum_out}
use Rattle.sentinel.specs.FirstRefusal.{issuable_in, issuable_out}
use Rattle.sentinel.proofs.PermitSums.{one_each}
use Rattle.sentinel.proofs.Ranks.{no_raised_permit}
use Rattle.sentinel.proofs.steps.raises_permit.Goals as goal

pub returns : goal.returns
returns c =
    let t = c.args.tx.now in
    let was : issuable_in t ≡ c.worth_claimed-was.result = ap (sum_in issuable_of) (sym c.as_slice.ensures) ∙ sym c.worth_claimed-was.ensures in
    let now : issuable_out t ≡ c.worth_among-now.result = ap (sum_out issuable_of) (sym c.as_slice-2.ensures) ∙ sym c.worth_among-now.ensures in
    λ v. no_raised_permit t v (omega (arith, was, now, c.if-was-now.false))

pub returns-then-was-now : goal.returns-then-was-now
returns-then-was-now c =
    let t = c.args.tx.now in
    let was : issuable_in t ≡ c.worth_claimed-was.result = ap (sum_in issuable_of) (sym c.as_slice.ensures) ∙ sym c.worth_claimed-was.ensures in
    let now : issuable_out t ≡ c.worth_among-now.result = ap (sum_out issuable_of) (sym c.as_slice-2.ensures) ∙ sym c.worth_among-now.ensures in
    let raised : issuable_in t < issuable_out t = omega (arith, was, now, c.if-was-now.true) in
    let one = one_each t c.requires.paired raised in
    λ v. (refl, (one.0, one.1, sym was, sym now, c.if-was-now.true))
