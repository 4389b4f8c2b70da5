use Rattle.std.proofs.Common.{arith}
use Rattle.run_command.proofs.Recovered.{won_next, won_one}
use Rattle.run_command.proofs.recovering.confirmed_of.Goals as goal

pub outcomes-preserved : goal.outcomes-preserved
outcomes-preserved c =
    let next = won_next c.args.outcomes.now c.outcomes.outcome-index c.outcome-item.result c.outcomes-test.true c.outcome-item.is in
    let one = won_one c.outcome-item.result in
    record {
      count = omega (
        arith,
        c.saturating_add-confirmed.ensures,
        c.one_if_held.ensures,
        c.outcomes.invariant.count,
        c.outcomes.invariant.bound,
        next,
        one,
      );
      bound = omega (arith, c.saturating_add-confirmed.ensures, c.one_if_held.ensures, c.outcomes.invariant.bound, one);
    }
