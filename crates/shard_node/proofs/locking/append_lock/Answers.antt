use Rattle.std.proofs.Common.{◌≡◌, true, None, Ok, Err, reverse, refl, arith, subst}
use Rattle.cbdc_model.specs.Due.{Writes, lock_due}
use Rattle.shard_node.proofs.Keeps.{failed, parts_stay}
use Rattle.shard_node.proofs.Locks.{HasTakenMemory, size_exact, kept_exact, lock_full_is, taken_shard, lock_comes, lock_memory, lock_need, lock_wrote}
use Rattle.shard_node.proofs.Locks.{lock_owes}
use Rattle.node_journal.specs.Answered.{HasAnswered}
use Rattle.node_journal.specs.Sound.{view_of}
use Rattle.node_journal.proofs.Leaving.{shown_same}
use Rattle.node_journal.proofs.Answered.{answered_still, by_write_ok, by_write_err}
use Rattle.shard_node.proofs.locking.append_lock.Goals as goal

pub overflow_add-later-2 : goal.overflow_add-later-2
overflow_add-later-2 g c =
    let kept = kept_exact c.args.parts.now c.args.call.now c.args.replied c.requires.shard c.requires.call c.requires.whole c.requires.next
    (omega arith) c.in-Ok.next c.in-Ok.ensures c.kept_room.result c.kept_room.ensures in
    omega (arith, kept.1, c.len.ensures, c.requires.call.size.1, c.requires.shard.node.limits.batch)

pub overflow_add-need : goal.overflow_add-need
overflow_add-need g c =
    let size = size_exact c.args.parts.now c.args.call.now c.args.replied c.requires.shard c.requires.call c.requires.whole c.requires.next
    (omega arith) c.in-Ok.next c.in-Ok.ensures c.size_of_record-size.result c.size_of_record-size.ensures in
    let kept = kept_exact c.args.parts.now c.args.call.now c.args.replied c.requires.shard c.requires.call c.requires.whole c.requires.next
    (omega arith) c.in-Ok.next c.in-Ok.ensures c.kept_room.result c.kept_room.ensures in
    omega (arith, size.1, kept.1, c.len.ensures, c.requires.call.size.1, c.requires.shard.node.limits.batch)

pub take_memory-requires-clause-bytes : goal.take_memory-requires-clause-bytes
take_memory-requires-clause-bytes g c =
    let size = size_exact c.args.parts.now c.args.call.now c.args.replied c.requires.shard c.requires.call c.requires.whole c.requires.next
    (omega arith) c.in-Ok.next c.in-Ok.ensures c.size_of_record-size.result c.size_of_record-size.ensures in
    let kept = kept_exact c.args.parts.now c.args.call.now c.args.replied c.requires.shard c.requires.call c.requires.whole c.requires.next
    (omega arith) c.in-Ok.next c.in-Ok.ensures c.kept_room.result c.kept_room.ensures in
    omega (arith, size.1, c.max.ensures)

pub returns-in-Err-clause-shard : goal.returns-in-Err-clause-shard
returns-in-Err-clause-shard g c =
    let taken : HasTakenMemory c.args.parts.now c.take_memory.new.log c.take_memory.new.memory c.args.call.now.batch.lane =
    record {
      lanes = c.take_memory.ensures.lanes;
      others = c.take_memory.ensures.others;
      keeps = c.take_memory.ensures.keeps;
      untouched = c.take_memory.ensures.untouched;
      records = c.take_memory.ensures.records;
      header = c.take_memory.ensures.header;
    } in
    taken_shard c.args.parts.now c.args.call.now c.args.replied c.requires.shard c.requires.call c.requires.whole c.requires.next
    c.take_memory.new.log c.take_memory.new.memory taken

pub write-requires-clause-node : goal.write-requires-clause-node
write-requires-clause-node g c =
    let taken : HasTakenMemory c.args.parts.now c.take_memory.new.log c.take_memory.new.memory c.args.call.now.batch.lane =
    record {
      lanes = c.take_memory.ensures.lanes;
      others = c.take_memory.ensures.others;
      keeps = c.take_memory.ensures.keeps;
      untouched = c.take_memory.ensures.untouched;
      records = c.take_memory.ensures.records;
      header = c.take_memory.ensures.header;
    } in
    (taken_shard c.args.parts.now c.args.call.now c.args.replied c.requires.shard c.requires.call c.requires.whole c.requires.next
    c.take_memory.new.log c.take_memory.new.memory taken).node

pub write-requires-clause-after : goal.write-requires-clause-after
write-requires-clause-after g c =
    let size = size_exact c.args.parts.now c.args.call.now c.args.replied c.requires.shard c.requires.call c.requires.whole c.requires.next
    (omega arith) c.in-Ok.next c.in-Ok.ensures c.size_of_record-size.result c.size_of_record-size.ensures in
    let kept = kept_exact c.args.parts.now c.args.call.now c.args.replied c.requires.shard c.requires.call c.requires.whole c.requires.next
    (omega arith) c.in-Ok.next c.in-Ok.ensures c.kept_room.result c.kept_room.ensures in
    let taken : HasTakenMemory c.args.parts.now c.take_memory.new.log c.take_memory.new.memory c.args.call.now.batch.lane =
    record {
      lanes = c.take_memory.ensures.lanes;
      others = c.take_memory.ensures.others;
      keeps = c.take_memory.ensures.keeps;
      untouched = c.take_memory.ensures.untouched;
      records = c.take_memory.ensures.records;
      header = c.take_memory.ensures.header;
    } in
    lock_comes c.args.parts.now c.args.call.now c.args.replied c.requires.shard c.requires.call c.requires.whole c.requires.next (omega arith)
    c.in-Ok.next c.in-Ok.ensures
    c.size_of_record-size.result c.len.result c.kept_room.result size.0 c.len.ensures kept.0 c.used-used.result c.capacity-capacity.result
    c.used-used.ensures c.capacity-capacity.ensures c.if-need-capacity.false
    c.take_memory.new.log c.take_memory.new.memory taken c.max.result (omega arith) (omega arith) c.in-Ok-take_memory.ensures.room
    (λ m get. omega (arith, c.in-Ok-take_memory.ensures.decisions m get, c.len-2.ensures, c.len.ensures))

pub write-requires-clause-memory : goal.write-requires-clause-memory
write-requires-clause-memory g c =
    let size = size_exact c.args.parts.now c.args.call.now c.args.replied c.requires.shard c.requires.call c.requires.whole c.requires.next
    (omega arith) c.in-Ok.next c.in-Ok.ensures c.size_of_record-size.result c.size_of_record-size.ensures in
    let kept = kept_exact c.args.parts.now c.args.call.now c.args.replied c.requires.shard c.requires.call c.requires.whole c.requires.next
    (omega arith) c.in-Ok.next c.in-Ok.ensures c.kept_room.result c.kept_room.ensures in
    let taken : HasTakenMemory c.args.parts.now c.take_memory.new.log c.take_memory.new.memory c.args.call.now.batch.lane =
    record {
      lanes = c.take_memory.ensures.lanes;
      others = c.take_memory.ensures.others;
      keeps = c.take_memory.ensures.keeps;
      untouched = c.take_memory.ensures.untouched;
      records = c.take_memory.ensures.records;
      header = c.take_memory.ensures.header;
    } in
    lock_memory c.args.parts.now c.args.call.now c.args.replied c.requires.shard c.requires.call c.requires.whole c.requires.next (omega arith)
    c.in-Ok.next c.in-Ok.ensures
    c.size_of_record-size.result c.len.result c.kept_room.result size.0 c.len.ensures kept.0 c.used-used.result c.capacity-capacity.result
    c.used-used.ensures c.capacity-capacity.ensures c.if-need-capacity.false
    c.take_memory.new.log c.take_memory.new.memory taken c.max.result (omega arith) (omega arith) c.in-Ok-take_memory.ensures.room
    (λ m get. omega (arith, c.in-Ok-take_memory.ensures.decisions m get, c.len-2.ensures, c.len.ensures))

pub write-requires-clause-need : goal.write-requires-clause-need
write-requires-clause-need g c =
    let size = size_exact c.args.parts.now c.args.call.now c.args.replied c.requires.shard c.requires.call c.requires.whole c.requires.next
    (omega arith) c.in-Ok.next c.in-Ok.ensures c.size_of_record-size.result c.size_of_record-size.ensures in
    let kept = kept_exact c.args.parts.now c.args.call.now c.args.replied c.requires.shard c.requires.call c.requires.whole c.requires.next
    (omega arith) c.in-Ok.next c.in-Ok.ensures c.kept_room.result c.kept_room.ensures in
    let taken : HasTakenMemory c.args.parts.now c.take_memory.new.log c.take_memory.new.memory c.args.call.now.batch.lane =
    record {
      lanes = c.take_memory.ensures.lanes;
      others = c.take_memory.ensures.others;
      keeps = c.take_memory.ensures.keeps;
      untouched = c.take_memory.ensures.untouched;
      records = c.take_memory.ensures.records;
      header = c.take_memory.ensures.header;
    } in
    lock_need c.args.parts.now c.args.call.now c.args.replied c.requires.shard c.requires.call c.requires.whole c.requires.next (omega arith)
    c.in-Ok.next c.in-Ok.ensures
    c.size_of_record-size.result c.len.result c.kept_room.result size.0 c.len.ensures kept.0 c.used-used.result c.capacity-capacity.result
    c.used-used.ensures c.capacity-capacity.ensures c.if-need-capacity.false
    c.take_memory.new.log c.take_memory.new.memory taken c.max.result (omega arith) (omega arith) c.in-Ok-take_memory.ensures.room
    (λ m get. omega (arith, c.in-Ok-take_memory.ensures.decisions m get, c.len-2.ensures, c.len.ensures))

pub returns-in-Err-write-clause-shard : goal.returns-in-Err-write-clause-shard
returns-in-Err-write-clause-shard g c =
    let taken : HasTakenMemory c.args.parts.now c.take_memory.new.log c.take_memory.new.memory c.args.call.now.batch.lane =
    record {
      lanes = c.take_memory.ensures.lanes;
      others = c.take_memory.ensures.others;
      keeps = c.take_memory.ensures.keeps;
      untouched = c.take_memory.ensures.untouched;
      records = c.take_memory.ensures.records;
      header = c.take_memory.ensures.header;
    } in
    let mid = taken_shard c.args.parts.now c.args.call.now c.args.replied c.requires.shard c.requires.call c.requires.whole c.requires.next
    c.take_memory.new.log c.take_memory.new.memory taken in
    failed (record { node = record c.args.parts.now.node { log = c.take_memory.new.log }; decisions = c.take_memory.new.memory })
    c.take_memory.new.memory c.write.new.node mid refl c.write.ensures.node c.in-Err-write.ensures.failed

pub returns-in-Ok-write-clause-shard : goal.returns-in-Ok-write-clause-shard
returns-in-Ok-write-clause-shard g c =
    let size = size_exact c.args.parts.now c.args.call.now c.args.replied c.requires.shard c.requires.call c.requires.whole c.requires.next
    (omega arith) c.in-Ok.next c.in-Ok.ensures c.size_of_record-size.result c.size_of_record-size.ensures in
    let kept = kept_exact c.args.parts.now c.args.call.now c.args.replied c.requires.shard c.requires.call c.requires.whole c.requires.next
    (omega arith) c.in-Ok.next c.in-Ok.ensures c.kept_room.result c.kept_room.ensures in
    let taken : HasTakenMemory c.args.parts.now c.take_memory.new.log c.take_memory.new.memory c.args.call.now.batch.lane =
    record {
      lanes = c.take_memory.ensures.lanes;
      others = c.take_memory.ensures.others;
      keeps = c.take_memory.ensures.keeps;
      untouched = c.take_memory.ensures.untouched;
      records = c.take_memory.ensures.records;
      header = c.take_memory.ensures.header;
    } in
    lock_wrote c.args.parts.now c.args.call.now c.args.replied c.requires.shard c.requires.call c.requires.whole c.requires.next (omega arith)
    c.in-Ok.next c.in-Ok.ensures
    c.size_of_record-size.result c.len.result c.kept_room.result size.0 c.len.ensures kept.0 c.used-used.result c.capacity-capacity.result
    c.used-used.ensures c.capacity-capacity.ensures c.if-need-capacity.false
    c.take_memory.new.log c.take_memory.new.memory taken c.max.result (omega arith) (omega arith) c.in-Ok-take_memory.ensures.room
    (λ m get. omega (arith, c.in-Ok-take_memory.ensures.decisions m get, c.len-2.ensures, c.len.ensures)) c.write.new.node c.write.ensures.node
    c.in-Ok-write.ensures.written

pub returns-then-need-capacity-clause-answered : goal.returns-then-need-capacity-clause-answered
returns-then-need-capacity-clause-answered g c =
    let size = size_exact c.args.parts.now c.args.call.now c.args.replied c.requires.shard c.requires.call c.requires.whole c.requires.next
    (omega arith) c.in-Ok.next c.in-Ok.ensures c.size_of_record-size.result c.size_of_record-size.ensures in
    let kept = kept_exact c.args.parts.now c.args.call.now c.args.replied c.requires.shard c.requires.call c.requires.whole c.requires.next
    (omega arith) c.in-Ok.next c.in-Ok.ensures c.kept_room.result c.kept_room.ensures in
    answered_still g.D.Disk true (lock_due c.args.parts.now.node.log.header.shape (g.D.Disk.limit c.args.parts.now.node.log.journal.disk)
    c.args.call.now None (reverse c.args.parts.now.node.log.records.items)) (view_of c.args.parts.now.node) _ (
      lock_full_is c.args.parts.now c.args.call.now c.args.replied c.requires.shard c.requires.call c.requires.whole c.requires.next (omega arith)
          c.in-Ok.next c.in-Ok.ensures c.size_of_record-size.result c.len.result c.kept_room.result size.0 c.len.ensures kept.0 c.used-used.result
          c.capacity-capacity.result c.used-used.ensures c.capacity-capacity.ensures c.if-need-capacity.true,
      parts_stay c.args.parts.now,
    )
    refl c.requires.shard.node.journal (g.met.D.Disk.only_now c.args.parts.now.node.log.journal.disk)

pub returns-in-Ok-write-clause-answered : goal.returns-in-Ok-write-clause-answered
returns-in-Ok-write-clause-answered g c =
    let size = size_exact c.args.parts.now c.args.call.now c.args.replied c.requires.shard c.requires.call c.requires.whole c.requires.next
    (omega arith) c.in-Ok.next c.in-Ok.ensures c.size_of_record-size.result c.size_of_record-size.ensures in
    let kept = kept_exact c.args.parts.now c.args.call.now c.args.replied c.requires.shard c.requires.call c.requires.whole c.requires.next
    (omega arith) c.in-Ok.next c.in-Ok.ensures c.kept_room.result c.kept_room.ensures in
    let taken : HasTakenMemory c.args.parts.now c.take_memory.new.log c.take_memory.new.memory c.args.call.now.batch.lane =
    record {
      lanes = c.take_memory.ensures.lanes;
      others = c.take_memory.ensures.others;
      keeps = c.take_memory.ensures.keeps;
      untouched = c.take_memory.ensures.untouched;
      records = c.take_memory.ensures.records;
      header = c.take_memory.ensures.header;
    } in
    let due = lock_due c.args.parts.now.node.log.header.shape (g.D.Disk.limit c.args.parts.now.node.log.journal.disk) c.args.call.now None
    (reverse c.args.parts.now.node.log.records.items) in
    let owes : lock_due c.args.parts.now.node.log.header.shape (g.D.Disk.limit c.args.parts.now.node.log.journal.disk) c.args.call.now None
    (reverse c.args.parts.now.node.log.records.items) ≡ Writes c.args.replied c.in-Ok.next =
    lock_owes c.args.parts.now c.args.call.now c.args.replied c.requires.shard c.requires.call c.requires.whole c.requires.next (omega arith)
    c.in-Ok.next c.in-Ok.ensures
    c.size_of_record-size.result c.len.result c.kept_room.result size.0 c.len.ensures kept.0 c.used-used.result c.capacity-capacity.result
    c.used-used.ensures c.capacity-capacity.ensures c.if-need-capacity.false
    c.take_memory.new.log c.take_memory.new.memory taken c.max.result (omega arith) (omega arith) c.in-Ok-take_memory.ensures.room
    (λ m get. omega (arith, c.in-Ok-take_memory.ensures.decisions m get, c.len-2.ensures, c.len.ensures)) in
    subst (λ v. HasAnswered g.D.Disk true due v (view_of c.write.new.node) (Ok c.args.replied))
    (shown_same c.args.parts.now.node.log c.take_memory.new.log c.args.parts.now.node.opened c.args.parts.now.node.flight
    c.take_memory.ensures.untouched c.take_memory.ensures.records c.take_memory.ensures.header)
    (by_write_ok g.D.Disk true due (view_of (record c.args.parts.now.node { log = c.take_memory.new.log })) (view_of c.write.new.node) c.args.replied
    c.in-Ok.next tt owes c.in-Ok-write.ensures.answered)

pub returns-in-Err-write-clause-answered : goal.returns-in-Err-write-clause-answered
returns-in-Err-write-clause-answered g c =
    let size = size_exact c.args.parts.now c.args.call.now c.args.replied c.requires.shard c.requires.call c.requires.whole c.requires.next
    (omega arith) c.in-Ok.next c.in-Ok.ensures c.size_of_record-size.result c.size_of_record-size.ensures in
    let kept = kept_exact c.args.parts.now c.args.call.now c.args.replied c.requires.shard c.requires.call c.requires.whole c.requires.next
    (omega arith) c.in-Ok.next c.in-Ok.ensures c.kept_room.result c.kept_room.ensures in
    let taken : HasTakenMemory c.args.parts.now c.take_memory.new.log c.take_memory.new.memory c.args.call.now.batch.lane =
    record {
      lanes = c.take_memory.ensures.lanes;
      others = c.take_memory.ensures.others;
      keeps = c.take_memory.ensures.keeps;
      untouched = c.take_memory.ensures.untouched;
      records = c.take_memory.ensures.records;
      header = c.take_memory.ensures.header;
    } in
    let due = lock_due c.args.parts.now.node.log.header.shape (g.D.Disk.limit c.args.parts.now.node.log.journal.disk) c.args.call.now None
    (reverse c.args.parts.now.node.log.records.items) in
    let owes : lock_due c.args.parts.now.node.log.header.shape (g.D.Disk.limit c.args.parts.now.node.log.journal.disk) c.args.call.now None
    (reverse c.args.parts.now.node.log.records.items) ≡ Writes c.args.replied c.in-Ok.next =
    lock_owes c.args.parts.now c.args.call.now c.args.replied c.requires.shard c.requires.call c.requires.whole c.requires.next (omega arith)
    c.in-Ok.next c.in-Ok.ensures
    c.size_of_record-size.result c.len.result c.kept_room.result size.0 c.len.ensures kept.0 c.used-used.result c.capacity-capacity.result
    c.used-used.ensures c.capacity-capacity.ensures c.if-need-capacity.false
    c.take_memory.new.log c.take_memory.new.memory taken c.max.result (omega arith) (omega arith) c.in-Ok-take_memory.ensures.room
    (λ m get. omega (arith, c.in-Ok-take_memory.ensures.decisions m get, c.len-2.ensures, c.len.ensures)) in
    subst (λ v. HasAnswered g.D.Disk true due v (view_of c.write.new.node) (Err c.in-Err-write.fault))
    (shown_same c.args.parts.now.node.log c.take_memory.new.log c.args.parts.now.node.opened c.args.parts.now.node.flight
    c.take_memory.ensures.untouched c.take_memory.ensures.records c.take_memory.ensures.header)
    (by_write_err g.D.Disk true due (view_of (record c.args.parts.now.node { log = c.take_memory.new.log })) (view_of c.write.new.node)
    c.args.replied c.in-Ok.next c.in-Err-write.fault owes c.in-Err-write.ensures.answered)
