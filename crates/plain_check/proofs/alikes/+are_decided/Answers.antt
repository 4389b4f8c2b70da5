use mathlib.Core.Bool.{beq}
use Rattle.std.proofs.Common.{◌≡◌, ◌&&◌, Bool, true, false, List, ◌∷◌, sym, subst, arith}
use Rattle.std.proofs.lemmas.Grind.{common_steps}
use Rattle.cbdc_model.specs.Ranges.{on_shard, is_empty}
use Rattle.cbdc_model.specs.Outcomes.{won_at}
use Rattle.plain_check.proofs.Finished.{TellsDecisions, decides_elsewhere, decides_here, decides_not}
use Rattle.plain_check.proofs.alikes.+are_decided.Goals.{else-are_elsewhere-via-then-are_elsewhere+else-are_elsewhere-2}
use Rattle.plain_check.proofs.alikes.+are_decided.Goals.{else-are_elsewhere-via-else-are_elsewhere}
use Rattle.plain_check.proofs.alikes.+are_decided.Goals as goal

pub returns-then-are_elsewhere-2 : goal.returns-then-are_elsewhere-2
returns-then-are_elsewhere-2 t c =
    let none_in : is_empty (on_shard c.args.shape.now c.args.shard c.in-Some.t.now.inputs) ≡ true =
    grind (arith, common_steps, c.if-are_elsewhere.true, c.are_elsewhere.ensures, c.as_slice.ensures) in
    let none_out : is_empty (on_shard c.args.shape.now c.args.shard c.in-Some.t.now.outputs) ≡ true =
    grind (arith, common_steps, c.if-are_elsewhere-2.true, c.are_elsewhere-then-are_elsewhere.ensures, c.as_slice-then-are_elsewhere.ensures) in
    decides_elsewhere c.args.shape.now c.args.shard c.args.txs.now c.in-Some.t.now c.in-Some.others.now c.args.outcomes.now c.behind.result.now
    c.args.ds.now c.are_decided.result
    c.in-Some.ensures.cases.0 none_in none_out c.behind.ensures c.are_decided.ensures

pub returns-then-d-won_at : goal.returns-then-d-won_at
returns-then-d-won_at t c =
    let some : (is_empty (on_shard c.args.shape.now c.args.shard c.in-Some.t.now.inputs)
    && is_empty (on_shard c.args.shape.now c.args.shard c.in-Some.t.now.outputs))
    ≡ false = elim c.else-are_elsewhere.branch [
      | else-are_elsewhere-via-then-are_elsewhere+else-are_elsewhere-2 w ↦
          grind (arith, common_steps, w.if-are_elsewhere-2.false, w.are_elsewhere-then-are_elsewhere.ensures, w.as_slice-then-are_elsewhere.ensures)
      | else-are_elsewhere-via-else-are_elsewhere w ↦
          grind (arith, common_steps, w.if-are_elsewhere.false, c.are_elsewhere.ensures, c.as_slice.ensures)
    ] in
    let same : c.in-Some-split_first.d.now ≡ won_at c.args.outcomes.now 0 = grind (arith, common_steps, c.if-d-won_at.true, c.won_at.ensures) in
    decides_here c.args.shape.now c.args.shard c.args.txs.now c.in-Some.t.now c.in-Some.others.now c.args.outcomes.now
    c.behind-then-d-won_at.result.now
    c.args.ds.now
    c.in-Some-split_first.d.now c.in-Some-split_first.rest.now c.are_decided-then-d-won_at.result c.in-Some.ensures.cases.0
    c.in-Some-split_first.ensures.cases.0 some c.behind-then-d-won_at.ensures same
    c.are_decided-then-d-won_at.ensures

pub returns-else-d-won_at : goal.returns-else-d-won_at
returns-else-d-won_at t c =
    let some : (is_empty (on_shard c.args.shape.now c.args.shard c.in-Some.t.now.inputs)
    && is_empty (on_shard c.args.shape.now c.args.shard c.in-Some.t.now.outputs))
    ≡ false = elim c.else-are_elsewhere.branch [
      | else-are_elsewhere-via-then-are_elsewhere+else-are_elsewhere-2 w ↦
          grind (arith, common_steps, w.if-are_elsewhere-2.false, w.are_elsewhere-then-are_elsewhere.ensures, w.as_slice-then-are_elsewhere.ensures)
      | else-are_elsewhere-via-else-are_elsewhere w ↦
          grind (arith, common_steps, w.if-are_elsewhere.false, c.are_elsewhere.ensures, c.as_slice.ensures)
    ] in
    subst (λ told. TellsDecisions c.args.shape.now c.args.shard c.args.txs.now c.args.outcomes.now c.args.ds.now told) (sym c.if-d-won_at.false)
    (decides_not c.args.shape.now c.args.shard c.args.txs.now c.in-Some.t.now c.in-Some.others.now c.args.outcomes.now c.args.ds.now
    c.in-Some.ensures.cases.0 some
    (λ d rest is same. differ d rest is same c.in-Some-split_first.ensures.cases.0 c.if-d-won_at.false c.won_at.ensures))
  where
    differ : (d : Bool) (rest : List Bool) {all more : List Bool} {own told won : Bool} → all ≡ d ∷ rest → d ≡ won → all ≡ own ∷ more
        → beq own told ≡ false → told ≡ won → ⊥
    differ d rest is same list other told_is = grind (arith, common_steps)
