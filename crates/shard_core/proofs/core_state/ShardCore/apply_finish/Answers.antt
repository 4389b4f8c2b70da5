use Rattle.std.proofs.Common.{◌≡◌, ℕ, Bool, List, length, Some, slice_get, set, arith, refl, sym, ap, ◌∙◌}
use Rattle.shard_core.specs.declared.slots.LaneSlot.TheVariants.{Idle as Free, Locked as Taken, Finished}
use Rattle.shard_core.specs.Slots.{SlotStands}
use Rattle.shard_core.proofs.Lanes.{finish_stands}
use Rattle.shard_core.proofs.Applies.{set_set, set_length, known, taken_part, taken_number, parts_few, owed_at, owed_set, memory_both, paired_set}
use Rattle.shard_core.proofs.Applies.{agrees_finish}
use Rattle.shard_core.proofs.core_state.ShardCore.apply_finish.Goals as goal

pub return_others-requires-clause-room : goal.return_others-requires-clause-room
return_others-requires-clause-room c =
    let self = c.args.self.now in
    let is : slice_get self.slots c.in-Finish.batch.lane
    ≡ Some (Taken c.in-Locked.number c.in-Locked.part c.in-Locked.replies c.in-Locked.locked_at) = c.take.ensures.value ∙ ap Some c.in-Locked.is
    in
    let owed = owed_at self.slots c.in-Finish.batch.lane _ is in
    let few = parts_few c.in-Locked.part in
    let room = self.room in let owes = self.owes in
    let more = c.take_committed.ensures.spare in
    rw c.as_slice-2.ensures (omega (arith, owed, few, room, owes, more))

pub make_committed-requires-clause-room : goal.make_committed-requires-clause-room
make_committed-requires-clause-room c =
    let self = c.args.self.now in
    let is : slice_get self.slots c.in-Finish.batch.lane
    ≡ Some (Taken c.in-Locked.number c.in-Locked.part c.in-Locked.replies c.in-Locked.locked_at) = c.take.ensures.value ∙ ap Some c.in-Locked.is
    in
    let owed = owed_at self.slots c.in-Finish.batch.lane _ is in
    let few = parts_few c.in-Locked.part in
    let room = self.room in let owes = self.owes in
    let more = c.take_committed.ensures.spare in
    let used = rw c.as_slice-2.ensures at c.return_others.ensures.spare in
    rw c.as_slice-4.ensures (omega (arith, owed, few, room, owes, more, used))

pub overflow_sub-self : goal.overflow_sub-self
overflow_sub-self c =
    let self = c.args.self.now in
    let is : slice_get self.slots c.in-Finish.batch.lane
    ≡ Some (Taken c.in-Locked.number c.in-Locked.part c.in-Locked.replies c.in-Locked.locked_at) = c.take.ensures.value ∙ ap Some c.in-Locked.is
    in
    let owed = owed_at self.slots c.in-Finish.batch.lane _ is in
    let owes = self.owes in
    let n = rw c.as_slice-5.ensures at c.hash_count.ensures in
    omega (arith, owed, owes, n)

pub decided-kept-requires : goal.decided-kept-requires
decided-kept-requires c =
    let self = c.args.self.now in
    let q = rw c.in-Finish.is at c.requires in
    let is : slice_get self.slots c.in-Finish.batch.lane
    ≡ Some (Taken c.in-Locked.number c.in-Locked.part c.in-Locked.replies c.in-Locked.locked_at) = c.take.ensures.value ∙ ap Some c.in-Locked.is
    in
    let same = taken_part _ _ _ _ _ _ _ _ (known self.slots c.in-Finish.batch.lane _ _ is q.1.slot) in
    let n : length c.in-Finish.decisions ≡ length c.in-Locked.part = q.1.decisions ∙ ap length (sym same) in
    let room = self.memory c.in-Finish.batch.lane _ _ is c.swap_memory-memory.ensures.value in
    rw c.as_slice-ds.ensures (omega (arith, n, room))

pub invariant_of-self : goal.invariant_of-self
invariant_of-self c =
    let self = c.args.self.now in
    let q = rw c.in-Finish.is at c.requires in
    let lane = c.in-Finish.batch.lane in
    let is : slice_get self.slots lane ≡ Some (Taken c.in-Locked.number c.in-Locked.part c.in-Locked.replies c.in-Locked.locked_at) =
    c.take.ensures.value ∙ ap Some c.in-Locked.is in
    let new = Finished c.in-Locked.number c.in-Locked.part c.in-Locked.replies c.decided-kept.result c.in-Locked.locked_at c.in-Finish.stamp in
    let slots : c.put.new.self ≡ set self.slots lane new = rw c.take.ensures.after at c.put.ensures ∙ set_set self.slots lane (Free 0 0) new in
    record {
      lanes = rw slots (set_length self.slots lane new ∙ self.lanes);
      memories = rw c.swap_memory-memory.ensures.after (set_length self.decisions.items lane _ ∙ self.memories);
      clock = q.0.1;
      memory = rw (slots, c.swap_memory-memory.ensures.after) (memory_both self.slots self.decisions.items lane new _ self.memory (omega arith));
      paired = rw slots (paired_set self.slots lane new self.paired refl);
      owes =
          let owes = self.owes in
          let owed = owed_at self.slots lane _ is in
          let n = rw c.as_slice-5.ensures at c.hash_count.ensures in
          let bound = c.hash_count.type_inv in
          let less = owed_set self.slots lane _ new is in
          rw slots (omega (arith, owes, owed, n, less, bound));
      room =
          let owes = self.owes in
          let room = self.room in
          let owed = owed_at self.slots lane _ is in
          let n = rw c.as_slice-5.ensures at c.hash_count.ensures in
          let few = parts_few c.in-Locked.part in
          let more = c.take_committed.ensures.spare in
          let used = rw c.as_slice-2.ensures at c.return_others.ensures.spare in
          let made = rw c.as_slice-4.ensures at c.make_committed.ensures.spare in
          omega (arith, owes, room, owed, n, few, more, used, made);
    }

pub returns-clause-stands : goal.returns-clause-stands
returns-clause-stands c = λ J old.
    let self = c.args.self.now in
    let q = rw c.in-Finish.is at c.requires in
    let b = c.in-Finish.batch in
    let ds = c.in-Finish.decisions in
    let part = c.in-Locked.part in
    let rs = c.in-Locked.replies in
    let is : slice_get self.slots b.lane ≡ Some (Taken c.in-Locked.number part rs c.in-Locked.locked_at) =
    c.take.ensures.value ∙ ap Some c.in-Locked.is in
    let num : c.in-Locked.number ≡ b.number = taken_number _ _ _ _ _ _ _ _ (known self.slots b.lane _ _ is q.1.slot) in
    let kept : c.decided-kept.result ≡ ds = c.decided-kept.ensures ∙ c.as_slice-ds.ensures in
    let here : SlotStands (Taken b.number part rs c.in-Locked.locked_at) J b.lane = rw num at (old.lanes b.lane _ is) in
    let slots : c.put.new.self ≡ set self.slots b.lane (Finished b.number part rs ds c.in-Locked.locked_at c.in-Finish.stamp) =
    rw c.take.ensures.after at c.put.ensures ∙ set_set self.slots b.lane (Free 0 0) _
    ∙ ap (λ (n : ℕ). set self.slots b.lane (Finished n part rs c.decided-kept.result c.in-Locked.locked_at c.in-Finish.stamp)) num
    ∙ ap (λ (k : List Bool). set self.slots b.lane (Finished b.number part rs k c.in-Locked.locked_at c.in-Finish.stamp)) kept in
    let gone = rw (c.as_slice.ensures, c.as_slice-ds.ensures) at c.take_committed.ensures in
    let back = rw (c.as_slice-2.ensures, c.as_slice-3.ensures, c.as_slice-ds.ensures) at c.return_others.ensures in
    let made = rw (c.as_slice-4.ensures, c.as_slice-ds.ensures) at c.make_committed.ensures in
    rw c.in-Finish.is
    (record {
      lanes = rw slots (finish_stands self.slots J c.in-Finish.stamp b ds part rs c.in-Locked.locked_at old.lanes here);
      last = refl;
      hashes = agrees_finish J c.in-Finish.stamp b ds part rs self.unspent.hashes c.take_committed.new.unspent.hashes
          c.return_others.new.unspent.hashes c.make_committed.new.unspent.hashes
          self.locks.held c.take_committed.new.locks.held c.return_others.new.locks.held c.make_committed.new.locks.held here.2 here.3 old.hashes
          gone.unspent gone.locks back.unspent back.locks made.unspent made.locks;
    })
