use Rattle.std.proofs.Common.{get_or, subst}
use Rattle.lane_waves.specs.Held.{RunEnds}
use Rattle.lane_waves.proofs.runs.run_all.Goals as goal

pub returns : goal.returns
returns g c =
    record {
      end = record {
        each = λ i d lt.
            let one = (c.for_each_mut.ensures i d lt).1 in
            subst (λ r. RunEnds g.S.Shard.sight g.B.Locks.tables c.args.shape.now r (get_or c.for_each_mut.new.s i d)) one.argument_is
            (subst (λ r. RunEnds g.S.Shard.sight g.B.Locks.tables c.args.shape.now one.argument.now r) one.left one.call);
      };
    }
