use Rattle.std.proofs.Common.{◌≡◌, ◌∙◌, None, refl, sym, ap, arith}
use Rattle.std.proofs.lemmas.Option.{slice_get_read, slice_get_within}
use Rattle.ledger_runs.proofs.Finding.{up_to}
use Rattle.ledger_runs.proofs.lanes.first_fault.Goals as goal

pub returns-in-Some : goal.returns-in-Some
returns-in-Some g c = (
  c.lanes.work-index,
  c.work-item.result,
  slice_get_read c.args.lanes.now _ c.lanes.work-index c.work-item.result refl c.lanes-test.true c.work-item.is,
  ap (λ x. x.fault) (sym c.work.view_is) ∙ c.in-Some.is,
  c.lanes.invariant,
)

pub lanes-preserved : goal.lanes-preserved
lanes-preserved g c = up_to (λ x. x.fault ≡ None) c.args.lanes.now c.lanes.work-index c.work-item.result c.work-item.is
    (ap (λ x. x.fault) (sym c.work.view_is) ∙ c.in_default.is) c.lanes.invariant

pub returns : goal.returns
returns g c lane x there = c.lanes.invariant lane x (omega (arith, slice_get_within c.args.lanes.now lane x there, c.lanes-test.false)) there
