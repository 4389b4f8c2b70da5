use Rattle.std.proofs.Common.{◌≡◌, ◌<◌, length, set, arith, refl, ◌∙◌}
use Rattle.shard_core.specs.declared.slots.LaneSlot.TheVariants.{Idle as Free}
use Rattle.shard_core.proofs.Lanes.{forget_stands}
use Rattle.shard_core.proofs.Applies.{set_set, set_length, past_owed, owed_free, memory_slot, paired_set, agrees_forget}
use Rattle.shard_core.proofs.core_state.ShardCore.apply_forget.Goals as goal

pub invariant_of-self : goal.invariant_of-self
invariant_of-self c =
    let self = c.args.self.now in
    let q = rw c.in-Forget.is at c.requires in
    let lane : c.in-Forget.batch.lane < length self.slots = let l = q.0.0 in let n = self.lanes in omega (arith, l, n) in
    let slots : c.put.new.self ≡ set self.slots c.in-Forget.batch.lane (Free c.in-Forget.batch.number c.in-Forget.stamp) =
    rw c.take-forgotten.ensures.after at c.put.ensures ∙ set_set self.slots c.in-Forget.batch.lane (Free 0 0) _ in
    record {
      lanes = rw slots (set_length self.slots c.in-Forget.batch.lane _ ∙ self.lanes);
      memories = self.memories;
      clock = q.0.1;
      memory = rw slots (memory_slot self.slots self.decisions.items c.in-Forget.batch.lane _ self.memory refl);
      paired = rw slots (paired_set self.slots c.in-Forget.batch.lane _ self.paired refl);
      owes =
          let n = self.owes in
          let more = owed_free self.slots c.in-Forget.batch.lane (Free c.in-Forget.batch.number c.in-Forget.stamp) lane
          (λ s h. past_owed s (q.1 s h)) in
          rw slots (omega (arith, n, more));
      room = self.room;
    }

pub returns-clause-stands : goal.returns-clause-stands
returns-clause-stands c = λ J old.
    let self = c.args.self.now in
    let slots : c.put.new.self ≡ set self.slots c.in-Forget.batch.lane (Free c.in-Forget.batch.number c.in-Forget.stamp) =
    rw c.take-forgotten.ensures.after at c.put.ensures ∙ set_set self.slots c.in-Forget.batch.lane (Free 0 0) _ in
    rw c.in-Forget.is
    (record {
      lanes = rw slots (forget_stands self.slots J c.in-Forget.stamp c.in-Forget.batch old.lanes);
      last = refl;
      hashes = agrees_forget J c.in-Forget.stamp c.in-Forget.batch self.unspent.hashes self.locks.held old.hashes;
    })
