use Rattle.std.proofs.Common.{◌≡◌, ap, sym, ◌∙◌, arith}
use Rattle.cbdc_model.specs.Money.{permits_of, sum_in, sum_out}
use Rattle.sentinel.specs.FirstRefusal.{permits_in, permits_out}
use Rattle.sentinel.proofs.PermitSums.{pair_of}
use Rattle.sentinel.proofs.Ranks.{paired_permits}
use Rattle.sentinel.proofs.steps.pairs_permits.Goals as goal

pub returns : goal.returns
returns c =
    let t = c.args.tx.now in
    let ins : permits_in t ≡ c.permits_claimed-ins.result = ap (sum_in permits_of) (sym c.as_slice.ensures) ∙ sym c.permits_claimed-ins.ensures in
    let outs : permits_out t ≡ c.permits_among-outs.result = ap (sum_out permits_of) (sym c.as_slice-2.ensures) ∙ sym c.permits_among-outs.ensures in
    λ v. paired_permits t v (pair_of (permits_in t) (permits_out t) (omega (arith, ins, outs, c.if-ins-outs.false))
    (omega (arith, ins, c.if-ins-gt1.false)))
