use Rattle.std.proofs.Common.{◌<◌, length, arith, refl, ap, sym, ◌∙◌}
use Rattle.shard_core.specs.Moves.{hashes_in}
use Rattle.shard_core.specs.declared.slots.LaneSlot.TheVariants.{Locked as Taken}
use Rattle.shard_core.proofs.Lanes.{lock_stands}
use Rattle.shard_core.proofs.Applies.{set_length, held_few, idle_owed, owed_free, memory_both, paired_set, same_count, agrees_lock}
use Rattle.shard_core.proofs.core_state.ShardCore.apply_lock.Goals as goal

pub lock_held-requires : goal.lock_held-requires
lock_held-requires c =
    let q = rw c.in-Lock.is at c.requires in
    let few = held_few c.in-Lock.entries in
    let room = q.2.locks in
    rw c.as_slice.ensures (omega (arith, few, room))

pub overflow_add-self : goal.overflow_add-self
overflow_add-self c =
    let q = rw c.in-Lock.is at c.requires in
    let k = rw (sym c.take.ensures.value ∙ c.unwrap-ready.ensures) at q.2.kept in
    let n = k.2 in
    let fits = q.2.fits in
    omega (arith, n, fits)

pub invariant_of-self : goal.invariant_of-self
invariant_of-self c =
    let self = c.args.self.now in
    let q = rw c.in-Lock.is at c.requires in
    let k = rw (sym c.take.ensures.value ∙ c.unwrap-ready.ensures) at q.2.kept in
    let lane : c.in-Lock.batch.lane < length self.slots = let l = q.0.0 in let n = self.lanes in omega (arith, l, n) in
    record {
      lanes = rw c.put.ensures (set_length self.slots c.in-Lock.batch.lane _ ∙ self.lanes);
      memories = rw c.swap_memory.ensures.after (set_length self.decisions.items c.in-Lock.batch.lane _ ∙ self.memories);
      clock = q.0.1;
      memory = rw (c.put.ensures, c.swap_memory.ensures.after)
          (memory_both self.slots self.decisions.items c.in-Lock.batch.lane _ _ self.memory (rw k.0 k.3));
      paired = rw c.put.ensures (paired_set self.slots c.in-Lock.batch.lane _ self.paired (rw (k.0, k.1) (same_count c.in-Lock.entries)));
      owes =
          let n = self.owes in let m = k.2 in
          let e = ap hashes_in k.0 in
          let more = owed_free self.slots c.in-Lock.batch.lane
          (Taken c.in-Lock.batch.number c.unwrap-ready.result.part c.unwrap-ready.result.replies c.in-Lock.stamp) lane
          (λ s h. idle_owed s (q.1 s h)) in
          rw c.put.ensures (omega (arith, n, m, e, more));
      room = let a = q.2.unspent in let b = c.lock_held.ensures.spare in let m = k.2 in omega (arith, a, b, m);
    }

pub returns-clause-stands : goal.returns-clause-stands
returns-clause-stands c = λ J old.
    let self = c.args.self.now in
    let q = rw c.in-Lock.is at c.requires in
    let k = rw (sym c.take.ensures.value ∙ c.unwrap-ready.ensures) at q.2.kept in
    let moved = rw c.as_slice.ensures at c.lock_held.ensures in
    rw c.in-Lock.is
    (record {
      lanes = rw c.put.ensures
          (lock_stands self.slots J c.in-Lock.stamp c.in-Lock.batch c.in-Lock.entries c.unwrap-ready.result.part c.unwrap-ready.result.replies
          old.lanes (sym k.0) (sym k.1));
      last = refl;
      hashes = agrees_lock J c.in-Lock.stamp c.in-Lock.batch c.in-Lock.entries self.unspent.hashes c.lock_held.new.unspent.hashes self.locks.held
          c.lock_held.new.locks.held
          old.hashes moved.unspent moved.locks;
    })
