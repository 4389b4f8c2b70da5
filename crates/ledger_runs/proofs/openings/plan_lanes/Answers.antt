use Rattle.std.proofs.Common.{◌∙◌, ◌+◌, ap, sym, subst, take}
use Rattle.std.specs.List.{AllZip}
use Rattle.ledger_runs.specs.Planning.{IsPlanOf}
use Rattle.ledger_runs.proofs.Plans.{one_more}
use Rattle.ledger_runs.proofs.openings.plan_lanes.Goals as goal

pub loop-one-preserved : goal.loop-one-preserved
loop-one-preserved c =
    let so = c.loop-one.invariant in
    let i = c.loop-one.one-index in
    record {
      each = subst (λ ps. AllZip (IsPlanOf c.args.shape.now) (take (i + 1) c.args.found.now) ps) (sym c.push_reserved.ensures.items)
          (one_more (IsPlanOf c.args.shape.now) c.args.found.now i c.one-item.result c.loop-one-test.true c.one-item.is c.loop-one.plans.items
          c.in_ok-plan_lane.field-0 so.each c.in_ok-plan_lane.ensures);
      len = c.push_reserved.ensures.len ∙ ap (λ n. n + 1) so.len;
      room = c.push_reserved.ensures.capacity ∙ so.room;
    }
