-- What is owed to a call, and that its record has its place.
use Rattle.std.proofs.Common.{false, ◌≡◌, ℕ, suc, ◌+◌, ◌<◌, ◌≤◌, max, Bool, List, length, refl, ap, sym, ◌∙◌, subst, arith, inl, inr, None, Option}
use Rattle.std.proofs.Common.{Ok, Err}
use Rattle.std.proofs.lemmas.Bool.{le-ltb, lt-ltb}
use Rattle.outside.specs.declared.disk.Disk.{Ghosts}
use Rattle.gate_journal.specs.Shown.{broken_of}
use Rattle.cbdc_types.specs.declared.calls.NodeFault.{NodeFault}
use Rattle.cbdc_types.specs.declared.calls.NodeFault.TheVariants.{ClockEnd, DiskFault}
use Rattle.cbdc_model.specs.Records.{Header, Record, Batch, Discard, Done}
use Rattle.cbdc_model.specs.Slots.{Phase, slot, Idle, InCommit, InDiscard}
use Rattle.cbdc_model.specs.Grammar.{IsBatchOf}
use Rattle.cbdc_model.specs.After.{IsJournal}
use Rattle.cbdc_model.specs.Next.{next_stamp}
use Rattle.cbdc_model.specs.Due.{Due, Answers, Writes, unless_broken, if_early, last_late, open_batch, discard_due, done_due, discard_record}
use Rattle.cbdc_model.specs.Due.{done_record}
use Rattle.cbdc_model.specs.Room.{room_in}
use Rattle.cbdc_model.specs.Sights.{Sight, Appends, Fails, MeetsFault, Meets}
use Rattle.record_log.specs.Logs.{HasLogRoom}
use Rattle.record_log.specs.declared.log.RecordLog.{RecordLog}
use Rattle.coord_core.specs.Lanes.{CoordOf, IsCoordWhole, IsOwnLane, CoordAdmits, coord_lane, lane_kept, ahead_in, ahead_of, core_batch}
use Rattle.coord_core.specs.Stands.{CoordStands}
use Rattle.node_journal.specs.Nodes.{NodeOf, sight}
use Rattle.node_journal.specs.Answered.{HasAnswered, one_write}
use Rattle.node_journal.proofs.Answered.{by_write_ok, by_write_err}
use Rattle.node_journal.specs.Sound.{journal_of, view_of}
use Rattle.node_journal.specs.declared.nodes.Node.{Node}
use Rattle.coord_log.specs.Inside.{largest, IsCoordSound, IsDue}
use Rattle.coord_core.proofs.Rooms.{all_others}
use Rattle.coord_core.proofs.Journals.{SlotFacts, slot_facts}
use Rattle.coord_log.proofs.Places.{discard_place, done_place, next_fits, next_ahead}

-- the record was written, or the disk failed at it
pub meets_ok : {A : Type 0} (memory : Bool) (due : Due A) (a : A) (r : Record) (old new : Sight) (J : List Record) → due ≡ Writes a r
    → Appends old new J r → Meets memory due old new J (Ok a)
meets_ok memory due a r old new J is appends = inr (r, is, appends)

pub meets_err : {A : Type 0} (memory : Bool) (due : Due A) (a : A) (r : Record) (old new : Sight) (J : List Record) (e : NodeFault)
    → due ≡ Writes a r → e ≡ DiskFault → Fails old new J r → Meets memory due old new J (Err e)
meets_err memory due a r old new J e is fault fails = let P : NodeFault
    → Type 0 = λ x. MeetsFault memory due old new J x in subst P (sym fault) (a, r, is, fails)

-- within the bound
pub in_time : {A : Type 0} (broken : Option ℕ) (bound stamp : ℕ) (due : Due A) → broken ≡ None → stamp ≤ bound
    → unless_broken broken (if_early bound stamp due) ≡ due
in_time broken bound stamp due whole le = let f = le-ltb bound stamp le in rw whole (rw f refl)

pub too_late : {A : Type 0} (broken : Option ℕ) (bound stamp : ℕ) (due : Due A) → broken ≡ None → bound < stamp
    → unless_broken broken (if_early bound stamp due) ≡ Answers (Err (ClockEnd stamp))
too_late broken bound stamp due whole lt = let t = lt-ltb bound stamp lt in rw whole (rw t refl)

-- the stamp and the batch of the lanes are those of the journal
pub stamp_is : (c : CoordOf) (J : List Record) (cause : ℕ) → CoordStands c J → suc (max c.last cause) ≡ next_stamp J cause
stamp_is c J cause stands = ap (λ x. suc (max x cause)) stands.last

pub core_batch_is : (c : CoordOf) (J : List Record) (lane : ℕ) → CoordStands c J → IsOwnLane c.header lane → core_batch c lane ≡ open_batch J lane
core_batch_is c J lane stands own = ap (λ s. record { lane = lane; number = s.number }) (stands.slots lane own)

pub discard_owed : (c : CoordOf) (J : List Record) (broken : Option ℕ) (lane cause t : ℕ) (r : Record) → CoordStands c J → IsOwnLane c.header lane
    → broken ≡ None → t ≡ suc (max c.last cause) → t ≤ last_late
    → r ≡ Discard (suc (max c.last cause)) (core_batch c lane) → discard_due lane cause broken J ≡ Writes t r
discard_owed c J broken lane cause t r stands own whole t-is le r-is =
    let s : next_stamp J cause ≡ t = sym (stamp_is c J cause stands) ∙ sym t-is in
    let e : discard_record lane cause J ≡ r = ap (λ x. Discard x (open_batch J lane)) (sym (stamp_is c J cause stands))
    ∙ ap (λ b. Discard (suc (max c.last cause)) b) (sym (core_batch_is c J lane stands own)) ∙ sym r-is in
    in_time broken last_late (next_stamp J cause) (Writes (next_stamp J cause) (discard_record lane cause J)) whole (rw s le)
    ∙ ap (λ x. Writes x (discard_record lane cause J)) s ∙ ap (λ x. Writes t x) e

pub done_owed : (c : CoordOf) (J : List Record) (broken : Option ℕ) (lane cause t : ℕ) (r : Record) → CoordStands c J → IsOwnLane c.header lane
    → broken ≡ None → t ≡ suc (max c.last cause) → t ≤ last_late
    → r ≡ Done (suc (max c.last cause)) (core_batch c lane) → done_due lane cause broken J ≡ Writes t r
done_owed c J broken lane cause t r stands own whole t-is le r-is =
    let s : next_stamp J cause ≡ t = sym (stamp_is c J cause stands) ∙ sym t-is in
    let e : done_record lane cause J ≡ r = ap (λ x. Done x (open_batch J lane)) (sym (stamp_is c J cause stands))
    ∙ ap (λ b. Done (suc (max c.last cause)) b) (sym (core_batch_is c J lane stands own)) ∙ sym r-is in
    in_time broken last_late (next_stamp J cause) (Writes (next_stamp J cause) (done_record lane cause J)) whole (rw s le)
    ∙ ap (λ x. Writes x (done_record lane cause J)) s ∙ ap (λ x. Writes t x) e

-- a lane that is not Idle names a batch of the shape
pub named_batch : (h : Header) (J : List Record) (lane : ℕ) → h.node < h.shape.coordinators → IsJournal h J → ((slot J lane).phase ≡ Idle → ⊥)
    → IsBatchOf h.shape (open_batch J lane)
named_batch h J lane node j busy = go (slot_facts h J lane node j)
  where
    go : SlotFacts h lane (slot J lane) → IsBatchOf h.shape (open_batch J lane)
    go (inl e) = absurd (busy (ap (λ s. s.phase) e))
    go (inr f) = f.0

pub all_memory : {D : Type 0} {G : Ghosts D} (l : RecordLog D G) (n : ℕ) → HasLogRoom l (0 + n) largest → HasLogRoom l n largest
all_memory l n room = record { records = omega (arith, room.records); body = room.body; row = room.row }

pub memory_for : {D : Type 0} {G : Ghosts D} (l : RecordLog D G) (n size : ℕ) → 1 ≤ n → size ≤ largest → HasLogRoom l (0 + n) largest
    → HasLogRoom l 1 size
memory_for l n size some le room = record { records = omega (arith, room.records); body = omega (arith, room.body); row = omega (arith, room.row) }

pub discard_ready : {D : Type 0} {G : Ghosts D} (n : Node CoordOf D G) (lane stamp : ℕ) (r : Record)
    → IsCoordWhole n.core → IsCoordSound n → broken_of n.log.journal ≡ None → IsOwnLane n.core.header lane
    → (slot (journal_of n) lane).phase ≡ InCommit
    → 1 ≤ stamp → stamp ≤ last_late → r ≡ Discard stamp (core_batch n.core lane) → CoordAdmits n.core r → IsDue n r
discard_ready n lane stamp r whole sound unbroken own phase some le r-is next =
    let J : List Record = journal_of n in
    let c : CoordOf = n.core in
    let h : Header = n.log.header in
    let on = sound.on in
    let ready = sound.ready unbroken in
    let P : Record → Type 0 = λ x. IsDue n x in
    let next' : CoordAdmits n.core (Discard stamp (core_batch n.core lane)) = let Q : Record
    → Type 0 = λ x. CoordAdmits n.core x in subst Q r-is next in
    let at : (coord_lane n.core lane).slot.phase ≡ InCommit = ap (λ s. s.phase) (on.stands.slots lane own) ∙ phase in
    let kept : lane_kept (coord_lane n.core lane) ≡ 68 = ap (λ x. room_in x 0 (length (coord_lane n.core lane).masks)) at in
    let ahead : ahead_in (coord_lane n.core lane).slot.phase ≡ 2 = ap ahead_in at in
    let batch : IsBatchOf n.log.header.shape (open_batch (journal_of n) lane) =
    named_batch h J lane on.node.kind on.node.journal (λ e. (let w : InCommit ≡ Idle = sym phase ∙ e in cc)) in
    subst P (sym r-is) (record {
      on = on;
      whole = unbroken;
      next = next';
      grammar = (
        (some, le),
        (let Q : Batch → Type 0 = λ b. IsBatchOf n.log.header.shape b in subst Q (sym (core_batch_is c J lane on.stands own)) batch),
        on.node.kind,
      );
      size = memory_for n.log (ahead_of n.core.lanes) 34 (next_ahead c lane whole (omega arith)) (omega arith) ready.memory;
      needs = omega (arith, on.free, next_fits c lane 34 whole (omega arith));
      place = λ d takes. discard_place n.log c d stamp (core_batch n.core lane) whole next' takes (all_others c lane ready.rooms)
          (omega (arith, ready.space)) (all_memory n.log (ahead_of n.core.lanes) ready.memory);
    })

pub done_ready : {D : Type 0} {G : Ghosts D} (n : Node CoordOf D G) (lane stamp : ℕ) (r : Record)
    → IsCoordWhole n.core → IsCoordSound n → broken_of n.log.journal ≡ None → IsOwnLane n.core.header lane
    → (slot (journal_of n) lane).phase ≡ InDiscard
    → 1 ≤ stamp → stamp ≤ last_late → r ≡ Done stamp (core_batch n.core lane) → CoordAdmits n.core r → IsDue n r
done_ready n lane stamp r whole sound unbroken own phase some le r-is next =
    let J : List Record = journal_of n in
    let c : CoordOf = n.core in
    let h : Header = n.log.header in
    let on = sound.on in
    let ready = sound.ready unbroken in
    let P : Record → Type 0 = λ x. IsDue n x in
    let next' : CoordAdmits n.core (Done stamp (core_batch n.core lane)) = let Q : Record → Type 0 = λ x. CoordAdmits n.core x in subst Q r-is next in
    let at : (coord_lane n.core lane).slot.phase ≡ InDiscard = ap (λ s. s.phase) (on.stands.slots lane own) ∙ phase in
    let kept : lane_kept (coord_lane n.core lane) ≡ 34 = ap (λ x. room_in x 0 (length (coord_lane n.core lane).masks)) at in
    let ahead : ahead_in (coord_lane n.core lane).slot.phase ≡ 1 = ap ahead_in at in
    let batch : IsBatchOf n.log.header.shape (open_batch (journal_of n) lane) =
    named_batch h J lane on.node.kind on.node.journal (λ e. (let w : InDiscard ≡ Idle = sym phase ∙ e in cc)) in
    subst P (sym r-is) (record {
      on = on;
      whole = unbroken;
      next = next';
      grammar = (
        (some, le),
        (let Q : Batch → Type 0 = λ b. IsBatchOf n.log.header.shape b in subst Q (sym (core_batch_is c J lane on.stands own)) batch),
        on.node.kind,
      );
      size = memory_for n.log (ahead_of n.core.lanes) 34 (next_ahead c lane whole (omega arith)) (omega arith) ready.memory;
      needs = omega (arith, on.free, next_fits c lane 34 whole (omega arith));
      place = λ d takes. done_place n.log c d stamp (core_batch n.core lane) whole next' takes (all_others c lane ready.rooms)
          (omega (arith, ready.space)) (all_memory n.log (ahead_of n.core.lanes) ready.memory);
    })

-- the same of what contracts see
pub told_err : {A D : Type 0} {G : Ghosts D} (memory : Bool) (due : Option ℕ → List Record → Due A) (old new : Node CoordOf D G) (now : NodeOf D)
    (a : A) (r : Record) (e : NodeFault) → view_of old ≡ now
    → due (broken_of old.log.journal) (journal_of old) ≡ Writes a r
    → (e ≡ DiskFault) × Fails (sight (view_of old)) (sight (view_of new)) (journal_of old) r
    → MeetsFault memory (due now.broken now.journal) (sight now) (sight (view_of new)) now.journal e
told_err {A} {D} memory due old new now a r e is owed told =
    let P : NodeOf D → Type 0 = λ x. MeetsFault memory (due x.broken x.journal) (sight x) (sight (view_of new)) x.journal e in
    subst P is (meets_err memory (due (broken_of old.log.journal) (journal_of old)) a r (sight (view_of old)) (sight (view_of new)) (journal_of old)
    e owed told.0 told.1)

pub told_ok : {A D : Type 0} {G : Ghosts D} (memory : Bool) (due : Option ℕ → List Record → Due A) (old new : Node CoordOf D G) (now : NodeOf D)
    (a : A) (r : Record) → view_of old ≡ now
    → due (broken_of old.log.journal) (journal_of old) ≡ Writes a r → Appends (sight (view_of old)) (sight (view_of new)) (journal_of old) r
    → Meets memory (due now.broken now.journal) (sight now) (sight (view_of new)) now.journal (Ok a)
told_ok {A} {D} memory due old new now a r is owed told =
    let P : NodeOf D → Type 0 = λ x. Meets memory (due x.broken x.journal) (sight x) (sight (view_of new)) x.journal (Ok a) in
    subst P is (meets_ok memory (due (broken_of old.log.journal) (journal_of old)) a r (sight (view_of old)) (sight (view_of new)) (journal_of old)
    owed told)

-- a call that owed the record that was written, or at which the disk failed, on the coordinator as it was seen
pub gave_err : {A D : Type 0} {G : Ghosts D} (memory : Bool) (due : Option ℕ → List Record → Due A) (old new : Node CoordOf D G) (now : NodeOf D)
    (a : A) (r : Record) (e : NodeFault) → view_of old ≡ now
    → due (broken_of old.log.journal) (journal_of old) ≡ Writes a r → HasAnswered G false (one_write r) (view_of old) (view_of new) (Err e)
    → HasAnswered {A = A} G memory (due now.broken now.journal) now (view_of new) (Err e)
gave_err {A} {D} {G} memory due old new now a r e is owed had =
    let P : NodeOf D → Type 0 = λ x. HasAnswered {A = A} G memory (due x.broken x.journal) x (view_of new) (Err e) in
    subst P is (by_write_err G memory (due (broken_of old.log.journal) (journal_of old)) (view_of old) (view_of new) a r e owed had)

pub gave_ok : {A D : Type 0} {G : Ghosts D} (memory : Bool) (due : Option ℕ → List Record → Due A) (old new : Node CoordOf D G) (now : NodeOf D)
    (a : A) (r : Record) (u : Unit {0}) → view_of old ≡ now
    → due (broken_of old.log.journal) (journal_of old) ≡ Writes a r → HasAnswered G false (one_write r) (view_of old) (view_of new) (Ok u)
    → HasAnswered G memory (due now.broken now.journal) now (view_of new) (Ok a)
gave_ok {A} {D} {G} memory due old new now a r u is owed had =
    let P : NodeOf D → Type 0 = λ x. HasAnswered G memory (due x.broken x.journal) x (view_of new) (Ok a) in
    subst P is (by_write_ok G memory (due (broken_of old.log.journal) (journal_of old)) (view_of old) (view_of new) a r u owed had)

-- the lane is the lanes' own, and in the phase of the journal
pub own_lane : {D : Type 0} {G : Ghosts D} (n : Node CoordOf D G) (now : NodeOf D) (lane : ℕ) → view_of n ≡ now → n.core.header ≡ n.log.header
    → IsOwnLane now.header lane → IsOwnLane n.core.header lane
own_lane {D} n now lane is header own =
    let P : NodeOf D → Type 0 = λ x. IsOwnLane x.header lane in
    let Q : Header → Type 0 = λ h. IsOwnLane h lane in
    subst Q (sym header) (subst P (sym is) own)

pub own_phase : {D : Type 0} {G : Ghosts D} (n : Node CoordOf D G) (now : NodeOf D) (lane : ℕ) (p : Phase) → view_of n ≡ now
    → (slot now.journal lane).phase ≡ p → (slot (journal_of n) lane).phase ≡ p
own_phase {D} n now lane p is phase = let P : NodeOf D → Type 0 = λ x. (slot x.journal lane).phase ≡ p in subst P (sym is) phase
