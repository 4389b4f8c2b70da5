use Rattle.std.proofs.Common.{rules, ◌≡◌, ◌<◌, ◌≤◌, ◌^◌, refl, arith, inl, inr, subst}
use Rattle.std.proofs.lemmas.Bool.{cases_lt}
use Rattle.std.proofs.lemmas.Result.{err_from_is_err_and}
use Rattle.base_types.specs.declared.faults.Refusal.TheVariants.{InputOverflow, OutputOverflow, PermitCount}
use Rattle.cbdc_model.specs.Money.{ArePaired}
use Rattle.sentinel.specs.FirstRefusal.{input_sum, output_sum, permits_in, permits_out}
use Rattle.sentinel.proofs.Ranks.{below_first, below_next, first_refusal_at, last_at}
use Rattle.sentinel.proofs.PermitSums.{claimed_below, among_below, paired_or_not}
use Rattle.sentinel.proofs.check.Goals as goal

pub returns-in_err-has_inputs : goal.returns-in_err-has_inputs
returns-in_err-has_inputs g c =
    let t = c.args.tx.now in
    let v = g.V.Verifier.verdict_of c.args.verifier.now c.args.id.now in
    let p = err_from_is_err_and c.from_residual.result c.from_residual.ensures.1 in
    rw (p.1, p.2) (first_refusal_at t v 0 c.in_err-has_inputs.field-0.0 (below_first t v) (c.in_err-has_inputs.ensures v))

pub returns-in_err-has_outputs : goal.returns-in_err-has_outputs
returns-in_err-has_outputs g c =
    let t = c.args.tx.now in
    let v = g.V.Verifier.verdict_of c.args.verifier.now c.args.id.now in
    let p = err_from_is_err_and c.from_residual-in_err-has_outputs.result c.from_residual-in_err-has_outputs.ensures.1 in
    rw (p.1, p.2) (first_refusal_at t v 1 c.in_err-has_outputs.field-0.0 (below_next t v 0 (below_first t v) (c.in_ok-has_inputs.ensures v))
    (c.in_err-has_outputs.ensures v))

pub returns-in_err-has_witnesses : goal.returns-in_err-has_witnesses
returns-in_err-has_witnesses g c =
    let t = c.args.tx.now in
    let v = g.V.Verifier.verdict_of c.args.verifier.now c.args.id.now in
    let p = err_from_is_err_and c.from_residual-in_err-has_witnesses.result c.from_residual-in_err-has_witnesses.ensures.1 in
    rw (p.1, p.2) (first_refusal_at t v 2 c.in_err-has_witnesses.field-0.0
    (below_next t v 1 (below_next t v 0 (below_first t v) (c.in_ok-has_inputs.ensures v)) (c.in_ok-has_outputs.ensures v))
    (c.in_err-has_witnesses.ensures v))

pub returns-in_err-repeats : goal.returns-in_err-repeats
returns-in_err-repeats g c =
    let t = c.args.tx.now in
    let v = g.V.Verifier.verdict_of c.args.verifier.now c.args.id.now in
    let p = err_from_is_err_and c.from_residual-in_err-repeats.result c.from_residual-in_err-repeats.ensures.1 in
    rw (p.1, p.2) (first_refusal_at t v 3 c.in_err-repeats.field-0.0
    (below_next t v 2 (below_next t v 1 (below_next t v 0 (below_first t v) (c.in_ok-has_inputs.ensures v)) (c.in_ok-has_outputs.ensures v))
    (c.in_ok-has_witnesses.ensures v)) (c.in_err-repeats.ensures v))

pub returns-in_err-has_zero_input : goal.returns-in_err-has_zero_input
returns-in_err-has_zero_input g c =
    let t = c.args.tx.now in
    let v = g.V.Verifier.verdict_of c.args.verifier.now c.args.id.now in
    let p = err_from_is_err_and c.from_residual-in_err-has_zero_input.result c.from_residual-in_err-has_zero_input.ensures.1 in
    rw (p.1, p.2) (first_refusal_at t v 4 c.in_err-has_zero_input.field-0.0
    (below_next t v 3 (below_next t v 2 (below_next t v 1 (below_next t v 0 (below_first t v) (c.in_ok-has_inputs.ensures v))
    (c.in_ok-has_outputs.ensures v)) (c.in_ok-has_witnesses.ensures v)) (c.in_ok-repeats.ensures v)) (c.in_err-has_zero_input.ensures v))

pub returns-in_err-has_zero_output : goal.returns-in_err-has_zero_output
returns-in_err-has_zero_output g c =
    let t = c.args.tx.now in
    let v = g.V.Verifier.verdict_of c.args.verifier.now c.args.id.now in
    let p = err_from_is_err_and c.from_residual-in_err-has_zero_output.result c.from_residual-in_err-has_zero_output.ensures.1 in
    rw (p.1, p.2) (first_refusal_at t v 5 c.in_err-has_zero_output.field-0.0
    (below_next t v 4 (below_next t v 3 (below_next t v 2
    (below_next t v 1 (below_next t v 0 (below_first t v) (c.in_ok-has_inputs.ensures v)) (c.in_ok-has_outputs.ensures v))
    (c.in_ok-has_witnesses.ensures v)) (c.in_ok-repeats.ensures v)) (c.in_ok-has_zero_input.ensures v)) (c.in_err-has_zero_output.ensures v))

pub returns-in_err-fits_inputs : goal.returns-in_err-fits_inputs
returns-in_err-fits_inputs g c =
    let t = c.args.tx.now in
    let v = g.V.Verifier.verdict_of c.args.verifier.now c.args.id.now in
    let p = err_from_is_err_and c.from_residual-in_err-fits_inputs.result c.from_residual-in_err-fits_inputs.ensures.1 in
    rw (p.1, p.2) (first_refusal_at t v 6 c.in_err-fits_inputs.field-0.0
    (below_next t v 5 (below_next t v 4 (below_next t v 3
    (below_next t v 2 (below_next t v 1 (below_next t v 0 (below_first t v) (c.in_ok-has_inputs.ensures v)) (c.in_ok-has_outputs.ensures v))
    (c.in_ok-has_witnesses.ensures v)) (c.in_ok-repeats.ensures v)) (c.in_ok-has_zero_input.ensures v)) (c.in_ok-has_zero_output.ensures v))
    (c.in_err-fits_inputs.ensures v))

pub returns-in_err-fits_outputs : goal.returns-in_err-fits_outputs
returns-in_err-fits_outputs g c =
    let t = c.args.tx.now in
    let v = g.V.Verifier.verdict_of c.args.verifier.now c.args.id.now in
    let p = err_from_is_err_and c.from_residual-in_err-fits_outputs.result c.from_residual-in_err-fits_outputs.ensures.1 in
    rw (p.1, p.2) (first_refusal_at t v 7 c.in_err-fits_outputs.field-0.0
    (below_next t v 6 (below_next t v 5 (below_next t v 4
    (below_next t v 3 (below_next t v 2 (below_next t v 1 (below_next t v 0 (below_first t v) (c.in_ok-has_inputs.ensures v))
    (c.in_ok-has_outputs.ensures v)) (c.in_ok-has_witnesses.ensures v)) (c.in_ok-repeats.ensures v)) (c.in_ok-has_zero_input.ensures v))
    (c.in_ok-has_zero_output.ensures v)) (c.in_ok-fits_inputs.ensures v)) (c.in_err-fits_outputs.ensures v))

pub returns-in_err-balances : goal.returns-in_err-balances
returns-in_err-balances g c =
    let t = c.args.tx.now in
    let v = g.V.Verifier.verdict_of c.args.verifier.now c.args.id.now in
    let p = err_from_is_err_and c.from_residual-in_err-balances.result c.from_residual-in_err-balances.ensures.1 in
    rw (p.1, p.2) (first_refusal_at t v 8 c.in_err-balances.field-0.0
    (below_next t v 7 (below_next t v 6 (below_next t v 5
    (below_next t v 4 (below_next t v 3 (below_next t v 2
    (below_next t v 1 (below_next t v 0 (below_first t v) (c.in_ok-has_inputs.ensures v)) (c.in_ok-has_outputs.ensures v))
    (c.in_ok-has_witnesses.ensures v)) (c.in_ok-repeats.ensures v)) (c.in_ok-has_zero_input.ensures v)) (c.in_ok-has_zero_output.ensures v))
    (c.in_ok-fits_inputs.ensures v)) (c.in_ok-fits_outputs.ensures v)) (c.in_err-balances.ensures v))

pub returns-in_err-spends_burned : goal.returns-in_err-spends_burned
returns-in_err-spends_burned g c =
    let t = c.args.tx.now in
    let v = g.V.Verifier.verdict_of c.args.verifier.now c.args.id.now in
    let p = err_from_is_err_and c.from_residual-in_err-spends_burned.result c.from_residual-in_err-spends_burned.ensures.1 in
    rw (p.1, p.2) (first_refusal_at t v 9 c.in_err-spends_burned.field-0.0
    (below_next t v 8 (below_next t v 7 (below_next t v 6
    (below_next t v 5 (below_next t v 4 (below_next t v 3
    (below_next t v 2 (below_next t v 1 (below_next t v 0 (below_first t v) (c.in_ok-has_inputs.ensures v)) (c.in_ok-has_outputs.ensures v))
    (c.in_ok-has_witnesses.ensures v)) (c.in_ok-repeats.ensures v)) (c.in_ok-has_zero_input.ensures v)) (c.in_ok-has_zero_output.ensures v))
    (c.in_ok-fits_inputs.ensures v)) (c.in_ok-fits_outputs.ensures v)) (c.in_ok-balances.ensures v)) (c.in_err-spends_burned.ensures v))

pub returns-in_err-pairs_permits : goal.returns-in_err-pairs_permits
returns-in_err-pairs_permits g c =
    let t = c.args.tx.now in
    let v = g.V.Verifier.verdict_of c.args.verifier.now c.args.id.now in
    let p = err_from_is_err_and c.from_residual-in_err-pairs_permits.result c.from_residual-in_err-pairs_permits.ensures.1 in
    rw (p.1, p.2) (first_refusal_at t v 10 c.in_err-pairs_permits.field-0.0
    (below_next t v 9 (below_next t v 8 (below_next t v 7
    (below_next t v 6 (below_next t v 5 (below_next t v 4
    (below_next t v 3 (below_next t v 2 (below_next t v 1 (below_next t v 0 (below_first t v) (c.in_ok-has_inputs.ensures v))
    (c.in_ok-has_outputs.ensures v)) (c.in_ok-has_witnesses.ensures v)) (c.in_ok-repeats.ensures v)) (c.in_ok-has_zero_input.ensures v))
    (c.in_ok-has_zero_output.ensures v)) (c.in_ok-fits_inputs.ensures v)) (c.in_ok-fits_outputs.ensures v)) (c.in_ok-balances.ensures v))
    (c.in_ok-spends_burned.ensures v)) (c.in_err-pairs_permits.ensures v))

pub returns-in_err-raises_permit : goal.returns-in_err-raises_permit
returns-in_err-raises_permit g c =
    let t = c.args.tx.now in
    let v = g.V.Verifier.verdict_of c.args.verifier.now c.args.id.now in
    let p = err_from_is_err_and c.from_residual-in_err-raises_permit.result c.from_residual-in_err-raises_permit.ensures.1 in
    rw (p.1, p.2) (first_refusal_at t v 11 c.in_err-raises_permit.field-0.0
    (below_next t v 10 (below_next t v 9 (below_next t v 8
    (below_next t v 7 (below_next t v 6 (below_next t v 5
    (below_next t v 4 (below_next t v 3 (below_next t v 2
    (below_next t v 1 (below_next t v 0 (below_first t v) (c.in_ok-has_inputs.ensures v)) (c.in_ok-has_outputs.ensures v))
    (c.in_ok-has_witnesses.ensures v)) (c.in_ok-repeats.ensures v)) (c.in_ok-has_zero_input.ensures v)) (c.in_ok-has_zero_output.ensures v))
    (c.in_ok-fits_inputs.ensures v)) (c.in_ok-fits_outputs.ensures v)) (c.in_ok-balances.ensures v)) (c.in_ok-spends_burned.ensures v))
    (c.in_ok-pairs_permits.ensures v)) (c.in_err-raises_permit.ensures v))

pub returns-in_err-has_bad : goal.returns-in_err-has_bad
returns-in_err-has_bad g c =
    let t = c.args.tx.now in
    let v = g.V.Verifier.verdict_of c.args.verifier.now c.args.id.now in
    let p = err_from_is_err_and c.from_residual-in_err-has_bad.result c.from_residual-in_err-has_bad.ensures.1 in
    rw (p.1, p.2) (first_refusal_at t v 12 c.in_err-has_bad.field-0.0
    (below_next t v 11 (below_next t v 10 (below_next t v 9
    (below_next t v 8 (below_next t v 7 (below_next t v 6
    (below_next t v 5 (below_next t v 4 (below_next t v 3
    (below_next t v 2 (below_next t v 1 (below_next t v 0 (below_first t v) (c.in_ok-has_inputs.ensures v)) (c.in_ok-has_outputs.ensures v))
    (c.in_ok-has_witnesses.ensures v)) (c.in_ok-repeats.ensures v)) (c.in_ok-has_zero_input.ensures v)) (c.in_ok-has_zero_output.ensures v))
    (c.in_ok-fits_inputs.ensures v)) (c.in_ok-fits_outputs.ensures v)) (c.in_ok-balances.ensures v)) (c.in_ok-spends_burned.ensures v))
    (c.in_ok-pairs_permits.ensures v)) (c.in_ok-raises_permit.ensures v)) (c.in_err-has_bad.ensures))

pub balances-requires-clause-ins : goal.balances-requires-clause-ins
balances-requires-clause-ins g c =
    let t = c.args.tx.now in
    let v = g.V.Verifier.verdict_of c.args.verifier.now c.args.id.now in
    elim (cases_lt (input_sum t) (2 ^ 64)) [
      | inl lt ↦ lt
      | inr past ↦ absurd (c.in_ok-fits_inputs.ensures v InputOverflow refl past)
    ]

pub balances-requires-clause-outs : goal.balances-requires-clause-outs
balances-requires-clause-outs g c =
    let t = c.args.tx.now in
    let v = g.V.Verifier.verdict_of c.args.verifier.now c.args.id.now in
    elim (cases_lt (output_sum t) (2 ^ 64)) [
      | inl lt ↦ lt
      | inr past ↦ absurd (c.in_ok-fits_outputs.ensures v OutputOverflow refl past)
    ]

pub raises_permit-requires-clause-ins : goal.raises_permit-requires-clause-ins
raises_permit-requires-clause-ins g c =
    let t = c.args.tx.now in
    let v = g.V.Verifier.verdict_of c.args.verifier.now c.args.id.now in
    elim (cases_lt (input_sum t) (2 ^ 64)) [
      | inl lt ↦ omega (arith, lt, claimed_below t.inputs)
      | inr past ↦ absurd (c.in_ok-fits_inputs.ensures v InputOverflow refl past)
    ]

pub raises_permit-requires-clause-outs : goal.raises_permit-requires-clause-outs
raises_permit-requires-clause-outs g c =
    let t = c.args.tx.now in
    let v = g.V.Verifier.verdict_of c.args.verifier.now c.args.id.now in
    elim (cases_lt (output_sum t) (2 ^ 64)) [
      | inl lt ↦ omega (arith, lt, among_below t.outputs)
      | inr past ↦ absurd (c.in_ok-fits_outputs.ensures v OutputOverflow refl past)
    ]

pub raises_permit-requires-clause-paired : goal.raises_permit-requires-clause-paired
raises_permit-requires-clause-paired g c =
    let t = c.args.tx.now in
    let v = g.V.Verifier.verdict_of c.args.verifier.now c.args.id.now in
    elim (paired_or_not (permits_in t) (permits_out t)) [
      | inl paired ↦ paired
      | inr other ↦ absurd (c.in_ok-pairs_permits.ensures v (PermitCount (permits_in t) (permits_out t)) refl (refl, refl, other))
    ]

pub returns : goal.returns
returns g c =
    let t = c.args.tx.now in
    let v = g.V.Verifier.verdict_of c.args.verifier.now c.args.id.now in
    last_at t v c.has_unverified.result (below_next t v 12
    (below_next t v 11 (below_next t v 10 (below_next t v 9
    (below_next t v 8 (below_next t v 7 (below_next t v 6
    (below_next t v 5 (below_next t v 4 (below_next t v 3
    (below_next t v 2 (below_next t v 1 (below_next t v 0 (below_first t v) (c.in_ok-has_inputs.ensures v)) (c.in_ok-has_outputs.ensures v))
    (c.in_ok-has_witnesses.ensures v)) (c.in_ok-repeats.ensures v)) (c.in_ok-has_zero_input.ensures v)) (c.in_ok-has_zero_output.ensures v))
    (c.in_ok-fits_inputs.ensures v)) (c.in_ok-fits_outputs.ensures v)) (c.in_ok-balances.ensures v)) (c.in_ok-spends_burned.ensures v))
    (c.in_ok-pairs_permits.ensures v)) (c.in_ok-raises_permit.ensures v)) (c.in_ok-has_bad.ensures)) c.has_unverified.ensures
