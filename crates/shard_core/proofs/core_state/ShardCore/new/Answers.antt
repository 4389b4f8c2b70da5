use Rattle.std.proofs.Common.{◌≡◌, arith, refl, sym, ap, ◌∙◌}
use Rattle.shard_core.specs.Memory.{locked_entries}
use Rattle.shard_core.specs.declared.slots.LaneSlot.TheVariants.{Idle as Free}
use Rattle.shard_core.proofs.Applies.{replicate_get, replicate_length, replicate_owed, idle_stand, agrees_genesis}
use Rattle.shard_core.proofs.core_state.ShardCore.new.Goals as goal

pub invariant_of-result : goal.invariant_of-result
invariant_of-result c =
    let e = c.in_ok-slots.ensures in
    let n = c.lane_count-lanes.ensures.value in
    let d = c.in_ok-decisions.ensures in
    record {
      lanes = rw e (replicate_length c.lane_count-lanes.result (Free 0 0) ∙ n);
      memories = d ∙ n;
      clock = omega arith;
      memory = λ i s m h k.
          let same = replicate_get c.lane_count-lanes.result i (Free 0 0) s (rw e at h) in
          let none : locked_entries s ≡ 0 = ap locked_entries same in omega (arith, none);
      paired = λ i s h. let same = replicate_get c.lane_count-lanes.result i (Free 0 0) s (rw e at h) in rw same;
      owes = rw e (sym (replicate_owed c.lane_count-lanes.result 0 0));
      room = omega arith;
    }

pub returns-clause-stands : goal.returns-clause-stands
returns-clause-stands c =
    let e = c.in_ok-slots.ensures in
    record {
      lanes = rw e (idle_stand c.lane_count-lanes.result c.args.header.now c.args.hashes.now);
      last = refl;
      hashes = rw c.new-2.ensures.held (agrees_genesis c.args.header.now c.args.hashes.now c.in_ok-unspent.unspent.hashes c.in_ok-unspent.ensures);
    }
