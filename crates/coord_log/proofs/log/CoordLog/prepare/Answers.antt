use Rattle.std.proofs.Common.{◌≡◌, ◌≤◌, ◌+◌, ℕ, refl, ap, sym, ◌∙◌, subst, arith, reverse, length, None, Err, true}
use Rattle.gate_journal.specs.Shown.{broken_of, disk_of, gate_of}
use Rattle.cbdc_model.specs.Records.{Header, Batch, Prepare}
use Rattle.cbdc_model.specs.Room.{size_of, room_behind_prepare}
use Rattle.cbdc_model.specs.After.{IsJournal}
use Rattle.cbdc_types.specs.declared.calls.NodeFault.TheVariants.{Full}
use Rattle.cbdc_model.specs.Due.{Answers, Writes, last_early, prepare_due}
use Rattle.cbdc_model.specs.Sights.{Stays}
use Rattle.coord_core.specs.Lanes.{IsOwnLane, kept_of, next_core_batch}
use Rattle.node_journal.specs.Nodes.{NodeOf, sight, HoldsJournal}
use Rattle.node_journal.specs.Shown.{shown}
use Rattle.coord_log.proofs.Owed.{gave_ok, gave_err, own_lane}
use Rattle.coord_log.proofs.Preparing.{Prepares, sound_kept, room_refused, room_unbroken, exact_size, prepare_small, prepare_ready, prepare_owed}
use Rattle.coord_log.proofs.Preparing.{prepare_full}
use Rattle.node_journal.proofs.Leaving.{shown_same}
use Rattle.node_journal.proofs.Leaving.{leaves_as_seen}
use Rattle.node_journal.proofs.Answered.{answered}
use Rattle.coord_log.proofs.log.CoordLog.prepare.Goals as goal

pub make_room-requires-clause-size : goal.make_room-requires-clause-size
make_room-requires-clause-size g c =
    let shape : c.args.self.now.header ≡ c.self.inside.node.log.header = ap (λ x. x.header) (sym c.self.view_is) in
    let B : Header → Type 0 = λ h. length c.args.txs.now ≤ h.shape.batch in
    let count : length c.args.txs.now ≤ c.self.inside.node.log.header.shape.batch = subst B shape c.requires.limit in
    let small = prepare_small (c.self.inside.node.core.last + 1) (next_core_batch c.self.inside.node.core c.args.lane) c.args.txs.now
    c.requires.short (omega (arith, count, c.self.invariant.on.node.limits.batch)) in
    let is : size_of c.in-Ok.next ≡ size_of (Prepare (c.self.inside.node.core.last + 1) (next_core_batch c.self.inside.node.core c.args.lane)
    c.args.txs.now) = ap size_of c.in-Ok.ensures.«record» in
    omega (arith, small, is, c.size_of_record.ensures)

pub invariant_of-self-in-Err : goal.invariant_of-self-in-Err
invariant_of-self-in-Err g c =
    sound_kept c.self.inside.node c.make_room.new.log c.prepare.new.self c.make_room.ensures.untouched c.make_room.ensures.records
    c.make_room.ensures.header
    c.make_room.ensures.keeps c.prepare.ensures.same c.prepare.ensures.grown c.self.invariant

pub returns-in-Err : goal.returns-in-Err
returns-in-Err g c =
    let shape : c.args.self.now.header ≡ c.self.inside.node.log.header = ap (λ x. x.header) (sym c.self.view_is) in
    let B : Header → Type 0 = λ h. length c.args.txs.now ≤ h.shape.batch in
    let count : length c.args.txs.now ≤ c.self.inside.node.log.header.shape.batch = subst B shape c.requires.limit in
    let sound = c.self.invariant in
    let whole : broken_of c.self.inside.node.log.journal ≡ None = sym c.is_broken.ensures ∙ c.in-None.is in
    let own : IsOwnLane c.self.inside.node.core.header c.args.lane =
    own_lane c.self.inside.node c.args.self.now c.args.lane c.self.view_is sound.on.header c.requires.own in
    let size : c.size_of_record.result ≡ size_of c.in-Ok.next =
    exact_size c.self.inside.node.core c.args.lane c.size_of_record.result c.self.inside.node.log.header.shape.batch c.args.txs.now c.in-Ok.next
    c.in-Ok.ensures.«record» c.requires.short count sound.on.node.limits.batch c.size_of_record.ensures in
    let p : Prepares c.self.inside.node.core c.prepare.new.self c.args.self.now.header.shape (reverse c.self.inside.node.log.records.items)
    (broken_of c.self.inside.node.log.journal) c.args.lane c.size_of_record.result
    (gate_of c.self.inside.node.log.journal + 1) c.in-Prepare.stamp c.in-Prepare.batch c.args.txs.now c.in-Prepare.txs c.in-Ok.next = record {
      whole = c.make_room.ensures.whole;
      same = c.prepare.ensures.same;
      stands = sound.on.stands;
      journal = let Q : Header → Type 0 = λ h. IsJournal h (reverse c.self.inside.node.log.records.items) in
          subst Q (sym sound.on.header) sound.on.node.journal;
      shape = ap (λ h. h.shape) (shape ∙ sym sound.on.header);
      own = own;
      sound = whole;
      early = omega (arith, c.stamp.view_is, c.if-stamp-gt-LAST_PREPARE.false);
      record_is = c.in-Ok.ensures.«record»;
      answer = c.in-Prepare.is;
      size_is = size;
      used_is = sound.on.node.used whole;
    } in
    let limit : g.D.Disk.limit (disk_of c.self.inside.node.log.journal) ≡ c.args.self.now.capacity = ap (λ x. x.capacity) c.self.view_is in
    let now : shown c.make_room.new.log c.self.inside.node.opened c.self.inside.node.flight ≡ c.args.self.now =
    shown_same c.self.inside.node.log c.make_room.new.log c.self.inside.node.opened c.self.inside.node.flight c.make_room.ensures.untouched
    c.make_room.ensures.records c.make_room.ensures.header ∙ c.self.view_is in
    let S : NodeOf g.row.D.Denot → Type 0 = λ x. Stays (sight c.args.self.now) (sight x) c.args.self.now.journal in
    let stays = subst S (sym now) (record {
      node = record { header = refl; opened = refl; capacity = refl; later = omega arith };
      seen = refl;
      flight = refl;
    }) in
    let used = gate_of c.self.inside.node.log.journal + 1 in
    let need = c.size_of_record.result + room_behind_prepare (length c.args.txs.now) + kept_of c.prepare.new.self.lanes in
    let O : NodeOf g.row.D.Denot → Type 0 = λ x. prepare_due c.args.self.now.header.shape c.args.self.now.capacity c.args.lane c.args.txs.now
    x.broken x.journal
    ≡ Answers (Err (Full (gate_of c.self.inside.node.log.journal + 1)
    (c.size_of_record.result + room_behind_prepare (length c.args.txs.now) + kept_of c.prepare.new.self.lanes)
    (g.D.Disk.limit (disk_of c.self.inside.node.log.journal)))) in
    let meets = room_refused _ _ _ _ used need (g.D.Disk.limit (disk_of c.self.inside.node.log.journal)) c.in-Err.fault c.in-Err.ensures.refusal
    (λ lt. subst O c.self.view_is
    (prepare_full c.self.inside.node.core c.prepare.new.self c.args.self.now.header.shape _ _ c.args.self.now.capacity c.args.lane
    c.size_of_record.result used c.in-Prepare.stamp c.in-Prepare.batch c.args.txs.now c.in-Prepare.txs c.in-Ok.next p
    (omega (arith, lt, limit)) ∙ ap (λ x. Answers (Err (Full used need x))) (sym limit)))
    stays in
    let kept =
    sound_kept c.self.inside.node c.make_room.new.log c.prepare.new.self c.make_room.ensures.untouched c.make_room.ensures.records
    c.make_room.ensures.header
    c.make_room.ensures.keeps c.prepare.ensures.same c.prepare.ensures.grown c.self.invariant in
    let left = shown c.make_room.new.log c.self.inside.node.opened c.self.inside.node.flight in
    answered {A = Batch × ℕ} g.D.Disk true (prepare_due c.args.self.now.header.shape c.args.self.now.capacity c.args.lane c.args.txs.now
    c.args.self.now.broken c.args.self.now.journal) c.args.self.now left (Err c.in-Err.fault) meets
    (ap (λ x. x.broken) now ∙ room_unbroken (Batch × ℕ) used need (g.D.Disk.limit (disk_of c.self.inside.node.log.journal)) left.faults
    c.args.self.now.broken c.in-Err.fault c.in-Err.ensures.refusal)
    kept.on.node.journal (λ h. let H : NodeOf g.row.D.Denot → Type 0 = λ x. HoldsJournal g.D.Disk x in subst H (sym now) h)
    (leaves_as_seen g.D.Disk c.args.self.now left now (g.met.D.Disk.only_now c.args.self.now.disk))

pub write_due-requires : goal.write_due-requires
write_due-requires g c =
    let shape : c.args.self.now.header ≡ c.self.inside.node.log.header = ap (λ x. x.header) (sym c.self.view_is) in
    let B : Header → Type 0 = λ h. length c.args.txs.now ≤ h.shape.batch in
    let count : length c.args.txs.now ≤ c.self.inside.node.log.header.shape.batch = subst B shape c.requires.limit in
    let sound = c.self.invariant in
    let whole : broken_of c.self.inside.node.log.journal ≡ None = sym c.is_broken.ensures ∙ c.in-None.is in
    let own : IsOwnLane c.self.inside.node.core.header c.args.lane =
    own_lane c.self.inside.node c.args.self.now c.args.lane c.self.view_is sound.on.header c.requires.own in
    let size : c.size_of_record.result ≡ size_of c.in-Ok.next =
    exact_size c.self.inside.node.core c.args.lane c.size_of_record.result c.self.inside.node.log.header.shape.batch c.args.txs.now c.in-Ok.next
    c.in-Ok.ensures.«record» c.requires.short count sound.on.node.limits.batch c.size_of_record.ensures in
    let count' : length c.args.txs.now ≤ c.self.inside.node.core.header.shape.batch = subst B (sym sound.on.header) count in
    let both : Prepare c.in-Prepare.stamp c.in-Prepare.batch c.in-Prepare.txs
    ≡ Prepare (c.self.inside.node.core.last + 1) (next_core_batch c.self.inside.node.core c.args.lane) c.args.txs.now =
    sym c.in-Prepare.is ∙ c.in-Ok.ensures.«record» in
    let stamp : c.in-Prepare.stamp ≡ c.self.inside.node.core.last + 1 = cc in
    let early : c.self.inside.node.core.last + 1 ≤ last_early = omega (arith, stamp, c.stamp.view_is, c.if-stamp-gt-LAST_PREPARE.false) in
    prepare_ready c.self.inside.node c.make_room.new.log c.prepare.new.self c.args.lane c.size_of_record.result c.args.txs.now c.in-Ok.next
    c.make_room.ensures.whole c.prepare.ensures.same c.prepare.ensures.grown sound whole c.make_room.ensures.untouched c.make_room.ensures.records
    c.make_room.ensures.header
    own c.requires.some count' c.requires.short c.in-Ok.ensures.hashes early c.in-Ok.ensures.«record» (c.in-Ok.ensures.next (omega (arith, early)))
    size
    c.in-Ok-make_room.ensures.room.0 c.in-Ok-make_room.ensures.room.1 c.in-Ok-make_room.ensures.space

pub returns-in-Err-write_due : goal.returns-in-Err-write_due
returns-in-Err-write_due g c =
    let shape : c.args.self.now.header ≡ c.self.inside.node.log.header = ap (λ x. x.header) (sym c.self.view_is) in
    let B : Header → Type 0 = λ h. length c.args.txs.now ≤ h.shape.batch in
    let count : length c.args.txs.now ≤ c.self.inside.node.log.header.shape.batch = subst B shape c.requires.limit in
    let sound = c.self.invariant in
    let whole : broken_of c.self.inside.node.log.journal ≡ None = sym c.is_broken.ensures ∙ c.in-None.is in
    let own : IsOwnLane c.self.inside.node.core.header c.args.lane =
    own_lane c.self.inside.node c.args.self.now c.args.lane c.self.view_is sound.on.header c.requires.own in
    let size : c.size_of_record.result ≡ size_of c.in-Ok.next =
    exact_size c.self.inside.node.core c.args.lane c.size_of_record.result c.self.inside.node.log.header.shape.batch c.args.txs.now c.in-Ok.next
    c.in-Ok.ensures.«record» c.requires.short count sound.on.node.limits.batch c.size_of_record.ensures in
    let p : Prepares c.self.inside.node.core c.prepare.new.self c.args.self.now.header.shape (reverse c.self.inside.node.log.records.items)
    (broken_of c.self.inside.node.log.journal) c.args.lane c.size_of_record.result
    (gate_of c.self.inside.node.log.journal + 1) c.in-Prepare.stamp c.in-Prepare.batch c.args.txs.now c.in-Prepare.txs c.in-Ok.next = record {
      whole = c.make_room.ensures.whole;
      same = c.prepare.ensures.same;
      stands = sound.on.stands;
      journal = let Q : Header → Type 0 = λ h. IsJournal h (reverse c.self.inside.node.log.records.items) in
          subst Q (sym sound.on.header) sound.on.node.journal;
      shape = ap (λ h. h.shape) (shape ∙ sym sound.on.header);
      own = own;
      sound = whole;
      early = omega (arith, c.stamp.view_is, c.if-stamp-gt-LAST_PREPARE.false);
      record_is = c.in-Ok.ensures.«record»;
      answer = c.in-Prepare.is;
      size_is = size;
      used_is = sound.on.node.used whole;
    } in
    let limit : g.D.Disk.limit (disk_of c.self.inside.node.log.journal) ≡ c.args.self.now.capacity = ap (λ x. x.capacity) c.self.view_is in
    let now : shown c.make_room.new.log c.self.inside.node.opened c.self.inside.node.flight ≡ c.args.self.now =
    shown_same c.self.inside.node.log c.make_room.new.log c.self.inside.node.opened c.self.inside.node.flight c.make_room.ensures.untouched
    c.make_room.ensures.records c.make_room.ensures.header ∙ c.self.view_is in
    let owed = prepare_owed c.self.inside.node.core c.prepare.new.self c.args.self.now.header.shape (reverse c.self.inside.node.log.records.items)
    (broken_of c.self.inside.node.log.journal) c.args.self.now.capacity c.args.lane c.size_of_record.result
    (gate_of c.self.inside.node.log.journal + 1) c.in-Prepare.stamp c.in-Prepare.batch c.args.txs.now c.in-Prepare.txs c.in-Ok.next p
    (omega (arith, limit, c.in-Ok-make_room.ensures.space)) in
    let O : NodeOf g.row.D.Denot → Type 0 = λ x. prepare_due c.args.self.now.header.shape c.args.self.now.capacity c.args.lane c.args.txs.now
    x.broken x.journal ≡ Writes (c.in-Prepare.batch, c.in-Prepare.stamp) c.in-Ok.next in
    gave_err true (λ broken J. prepare_due c.args.self.now.header.shape c.args.self.now.capacity c.args.lane c.args.txs.now broken J)
    (record c.self.inside.node { log = c.make_room.new.log }) c.write_due.new.node
    c.args.self.now (c.in-Prepare.batch, c.in-Prepare.stamp) c.in-Ok.next c.in-Err-write_due.fault now (subst O (c.self.view_is ∙ sym now) owed)
    c.in-Err-write_due.ensures.answered

pub returns : goal.returns
returns g c =
    let shape : c.args.self.now.header ≡ c.self.inside.node.log.header = ap (λ x. x.header) (sym c.self.view_is) in
    let B : Header → Type 0 = λ h. length c.args.txs.now ≤ h.shape.batch in
    let count : length c.args.txs.now ≤ c.self.inside.node.log.header.shape.batch = subst B shape c.requires.limit in
    let sound = c.self.invariant in
    let whole : broken_of c.self.inside.node.log.journal ≡ None = sym c.is_broken.ensures ∙ c.in-None.is in
    let own : IsOwnLane c.self.inside.node.core.header c.args.lane =
    own_lane c.self.inside.node c.args.self.now c.args.lane c.self.view_is sound.on.header c.requires.own in
    let size : c.size_of_record.result ≡ size_of c.in-Ok.next =
    exact_size c.self.inside.node.core c.args.lane c.size_of_record.result c.self.inside.node.log.header.shape.batch c.args.txs.now c.in-Ok.next
    c.in-Ok.ensures.«record» c.requires.short count sound.on.node.limits.batch c.size_of_record.ensures in
    let p : Prepares c.self.inside.node.core c.prepare.new.self c.args.self.now.header.shape (reverse c.self.inside.node.log.records.items)
    (broken_of c.self.inside.node.log.journal) c.args.lane c.size_of_record.result
    (gate_of c.self.inside.node.log.journal + 1) c.in-Prepare.stamp c.in-Prepare.batch c.args.txs.now c.in-Prepare.txs c.in-Ok.next = record {
      whole = c.make_room.ensures.whole;
      same = c.prepare.ensures.same;
      stands = sound.on.stands;
      journal = let Q : Header → Type 0 = λ h. IsJournal h (reverse c.self.inside.node.log.records.items) in
          subst Q (sym sound.on.header) sound.on.node.journal;
      shape = ap (λ h. h.shape) (shape ∙ sym sound.on.header);
      own = own;
      sound = whole;
      early = omega (arith, c.stamp.view_is, c.if-stamp-gt-LAST_PREPARE.false);
      record_is = c.in-Ok.ensures.«record»;
      answer = c.in-Prepare.is;
      size_is = size;
      used_is = sound.on.node.used whole;
    } in
    let limit : g.D.Disk.limit (disk_of c.self.inside.node.log.journal) ≡ c.args.self.now.capacity = ap (λ x. x.capacity) c.self.view_is in
    let now : shown c.make_room.new.log c.self.inside.node.opened c.self.inside.node.flight ≡ c.args.self.now =
    shown_same c.self.inside.node.log c.make_room.new.log c.self.inside.node.opened c.self.inside.node.flight c.make_room.ensures.untouched
    c.make_room.ensures.records c.make_room.ensures.header ∙ c.self.view_is in
    let owed = prepare_owed c.self.inside.node.core c.prepare.new.self c.args.self.now.header.shape (reverse c.self.inside.node.log.records.items)
    (broken_of c.self.inside.node.log.journal) c.args.self.now.capacity c.args.lane c.size_of_record.result
    (gate_of c.self.inside.node.log.journal + 1) c.in-Prepare.stamp c.in-Prepare.batch c.args.txs.now c.in-Prepare.txs c.in-Ok.next p
    (omega (arith, limit, c.in-Ok-make_room.ensures.space)) in
    let O : NodeOf g.row.D.Denot → Type 0 = λ x. prepare_due c.args.self.now.header.shape c.args.self.now.capacity c.args.lane c.args.txs.now
    x.broken x.journal ≡ Writes (c.in-Prepare.batch, c.in-Prepare.stamp) c.in-Ok.next in
    gave_ok true (λ broken J. prepare_due c.args.self.now.header.shape c.args.self.now.capacity c.args.lane c.args.txs.now broken J)
    (record c.self.inside.node { log = c.make_room.new.log }) c.write_due.new.node
    c.args.self.now (c.in-Prepare.batch, c.in-Prepare.stamp) c.in-Ok.next tt now (subst O (c.self.view_is ∙ sym now) owed)
    c.in-Ok-write_due.ensures.answered
