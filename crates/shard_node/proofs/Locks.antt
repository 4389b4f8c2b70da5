-- Lock: the room and the memory for its batch are taken first.
use Rattle.std.proofs.Common.{◌≡◌, ◌≢◌, ℕ, ◌+◌, ◌-◌, ◌*◌, ◌/◌, ◌^◌, ◌≤◌, ◌<◌, min, Bool, List, [], ◌∷◌, length, reverse, vec_capacity, Some, None}
use Rattle.std.proofs.Common.{Err, refl, sym, ◌∙◌, ap, subst, arith}
use Rattle.std.specs.Global.{Vec}
use Rattle.std.specs.Prelude.{slice_get}
use Rattle.std.proofs.lemmas.List.Sums.{sum_by-cons}
use Rattle.cbdc_types.specs.declared.calls.LockCall.{LockCall}
use Rattle.cbdc_types.specs.declared.calls.Replied.{Replied}
use Rattle.cbdc_types.specs.declared.calls.NodeFault.TheVariants.{Full}
use Rattle.cbdc_model.specs.Records.{Header, Record, Answered, Lock}
use Rattle.cbdc_model.specs.Slots.{slot, Idle, InLock}
use Rattle.cbdc_model.specs.After.{After}
use Rattle.cbdc_model.specs.Replies.{answered, entries, replies}
use Rattle.cbdc_model.specs.Room.{kept_room, size_of, need_of}
use Rattle.cbdc_model.specs.Due.{lock_due, lock_record, used_of, Answers, Writes}
use Rattle.cbdc_model.specs.Next.{Append, next_lock, next_stamp}
use Rattle.outside.specs.declared.disk.Disk.{Ghosts}
use Rattle.gate_journal.specs.Shown.{disk_of, gate_of, broken_of}
use Rattle.record_log.specs.Bodies.{body_of}
use Rattle.record_log.specs.declared.log.RecordLog.{RecordLog}
use Rattle.record_log.specs.Logs.{HasLogRoom, KeepsRoom, IsUntouched}
use Rattle.record_log.proofs.LogSizes.{size_is, size_small}
use Rattle.shard_core.specs.Plans.{core_replies}
use Rattle.shard_core.specs.Stands.{ShardStands}
use Rattle.shard_core.proofs.Applies.{Yes, No, same_nat}
use Rattle.shard_core.proofs.Follow.{answered_same}
use Rattle.shard_node.specs.declared.parts.Parts.{Parts}
use Rattle.cbdc_model.specs.Calls.{IsLockCall}
use Rattle.record_grammar.specs.Kinds.{IsShardHeader}
use Rattle.shard_core.specs.declared.core_state.ShardCore.{ShardCore}
use Rattle.node_journal.specs.Sound.{IsNode, journal_of}
use Rattle.node_journal.specs.declared.nodes.Node.{Node}
use Rattle.shard_node.specs.Parts.{HaveDecisions, HasRecords, IsShardOf, IsLockOf}
use Rattle.shard_node.proofs.Lanes.{IsLockedWith, same_room, same_lock, past_lock, own_lock, locked_room, room_idle}
use Rattle.shard_node.proofs.Rooms.{kept_moves}
use Rattle.shard_node.proofs.Follows.{LockFollows, lock_appends, lock_after, length_answered}
use Rattle.node_journal.proofs.Journals.{in_grammar}
use Rattle.node_journal.proofs.Kept.{kept_small}
use Rattle.node_journal.proofs.Sound.{reserved}
use Rattle.shard_node.proofs.Keeps.{HasWritten, wrote}
use Rattle.shard_node.proofs.Owed.{lock_writes, lock_full}

-- the Lock that was made is the one that is owed
lock_is : (J : List Record) (c : LockCall) (r : Replied) (next : Record) → IsLockOf next c r → LockFollows J c.batch c.part c.cause (core_replies r)
    → next ≡ lock_record J c
lock_is J c r (Lock stamp b es) of is =
    let given : r.replies ≡ replies (answered J c.batch [] c.part) = ap (λ a. a.given) is.is in
    let at : stamp ≡ next_stamp J c.cause = of.0 ∙ ap (λ a. a.at) is.is in
    let same : es ≡ answered J c.batch [] (entries es) =
    answered_same J c.batch es (ap (λ x. replies (answered J c.batch [] x)) of.2 ∙ sym given ∙ sym of.3) in
    let entries_are : es ≡ answered J c.batch [] c.part = same ∙ ap (λ x. answered J c.batch [] x) of.2 in
    let batch : b ≡ c.batch = of.1 in
    cc
lock_is J c r other of is = absurd of

lock_keeps : (h : Header) (J : List Record) (c : LockCall) → IsLockCall h c → (slot J c.batch.lane).phase ≡ Idle
    → kept_room h.shape (lock_record J c ∷ J) ≡ kept_room h.shape J + (76 + length c.part)
lock_keeps h J c call idle =
    let es : List Answered = answered J c.batch [] c.part in
    let t = next_stamp J c.cause in
    let moves = kept_moves J (lock_record J c ∷ J) c.batch.lane (h.shape.coordinators * h.shape.lanes)
    (λ l apart. same_room J (lock_record J c ∷ J) l (past_lock J t c.batch es l apart)) call.batch.0 in
    omega (arith, moves, room_idle J c.batch.lane idle, locked_room J t c.batch es, length_answered J c.batch c.part)

module _ {D : Type 0} {G : Ghosts D} where
  -- memory was taken, and nothing else changed
  pub record HasTakenMemory (p : Parts D G) (log : RecordLog D G) (memory : Vec (Vec Bool)) (lane : ℕ) : Type 0 where
    pub lanes : length memory.items ≡ length p.decisions.items
    pub others : (l : ℕ) (m : Vec Bool) → l ≢ lane → slice_get memory.items l ≡ Some m → slice_get p.decisions.items l ≡ Some m
    pub keeps : KeepsRoom p.node.log log
    pub untouched : IsUntouched p.node.log log
    pub records : log.records.items ≡ p.node.log.records.items
    pub header : log.header ≡ p.node.log.header

  module _ (p : Parts D G) (c : LockCall) (r : Replied) (is : IsShardOf p) (call : IsLockCall p.node.log.header c)
      (whole : broken_of p.node.log.journal ≡ None) (planned : next_lock (journal_of p.node) c.batch c.part c.cause ≡ Append (core_replies r)) where
    lock_next : LockFollows (journal_of p.node) c.batch c.part c.cause (core_replies r)
    lock_next = lock_appends (journal_of p.node) c.batch c.part c.cause (core_replies r) planned

    pub taken_shard : (log : RecordLog D G) (memory : Vec (Vec Bool)) → HasTakenMemory p log memory c.batch.lane
        → IsShardOf {D = D} {G = G} (record { node = record p.node { log = log }; decisions = memory })
    taken_shard log memory t =
        let J : List Record = reverse log.records.items in
        let same : J ≡ journal_of p.node = ap reverse t.records in
        let kept : kept_room log.header.shape J ≡ kept_room p.node.log.header.shape (journal_of p.node) =
        ap (λ (l : List Record). kept_room log.header.shape l) same ∙ ap (λ (h : Header). kept_room h.shape (journal_of p.node)) t.header in
        record {
          node = reserved IsShardHeader p.node log p.node.core is.node t.untouched t.records t.header;
          header = is.header ∙ sym t.header;
          stands = subst (λ (l : List Record). ShardStands p.node.core l) (sym same) is.stands;
          lanes = t.lanes ∙ is.lanes ∙ ap (λ (h : Header). h.shape.coordinators * h.shape.lanes) (sym t.header);
          room = omega (arith, is.room, kept, ap used_of same, ap G.limit t.untouched.disk);
          memory = λ none.
              let old = is.memory whole in
              record {
                decisions = subst (λ (l : List Record). HaveDecisions l memory.items) (sym same) (λ lane m get. elim (same_nat lane c.batch.lane) [
                  | Yes e ↦ λ phase. absurd (not_idle lane e phase)
                  | No apart ↦ old.decisions lane m (t.others lane m apart get)
                ]);
                records = subst (λ (n : ℕ). HasRecords log n) (sym kept)
                    (record { count = old.records.count; room = t.keeps old.records.count 1057 old.records.room; enough = old.records.enough });
              };
        }
      where
        not_idle : (lane : ℕ) → lane ≡ c.batch.lane → (slot (journal_of p.node) lane).phase ≡ InLock → ⊥
        not_idle lane e phase =
            let idle : (slot (journal_of p.node) lane).phase ≡ Idle =
            subst (λ (l : ℕ). (slot (journal_of p.node) l).phase ≡ Idle) (sym e) lock_next.idle in
            cc

    module _ (early : r.stamp ≤ 2 ^ 62) (next : Record) (of : IsLockOf next c r) where
      next_is : next ≡ lock_record (journal_of p.node) c
      next_is = lock_is (journal_of p.node) c r next of lock_next

      lock_fits : After p.node.log.header (journal_of p.node) (lock_record (journal_of p.node) c)
      lock_fits = lock_after p.node.log.header (journal_of p.node) c is.node.journal is.node.kind call lock_next.idle lock_next.number
          (let at : r.stamp ≡ next_stamp (journal_of p.node) c.cause = ap (λ a. a.at) lock_next.is in omega (arith, at, early))

      lock_size : 9 + length (body_of next) ≡ size_of (lock_record (journal_of p.node) c)
      lock_size = ap (λ (x : Record). 9 + length (body_of x)) next_is
          ∙ size_is p.node.log.header (lock_record (journal_of p.node) c) is.node.limits lock_fits.0

      pub size_exact : (size : ℕ) → size ≡ min (size_of next) 18446744073709551615
          → (size ≡ size_of (lock_record (journal_of p.node) c)) × (size < 2 ^ 25)
      size_exact size e =
          let small = size_small p.node.log.header (lock_record (journal_of p.node) c) is.node.limits lock_fits.0 in
          let same : size_of next ≡ size_of (lock_record (journal_of p.node) c) = ap size_of next_is in
          (omega (arith, e, small, same), omega (arith, e, small, same))

      pub kept_exact : (kept : ℕ) → ((J : List Record) → ShardStands p.node.core J
          → kept ≡ min (kept_room p.node.core.header.shape J) 18446744073709551615)
          → (kept ≡ kept_room p.node.log.header.shape (journal_of p.node)) × (kept < 2 ^ 25)
      kept_exact kept e =
          let small = kept_small p.node.log.header (journal_of p.node) is.node.limits
          (in_grammar p.node.log.header (journal_of p.node) is.node.journal) in
          let same : kept_room p.node.core.header.shape (journal_of p.node) ≡ kept_room p.node.log.header.shape (journal_of p.node) =
          ap (λ (h : Header). kept_room h.shape (journal_of p.node)) is.header in
          (omega (arith, e (journal_of p.node) is.stands, small, same), omega (arith, e (journal_of p.node) is.stands, small, same))

      module _ (size len kept : ℕ) (size_is : size ≡ size_of (lock_record (journal_of p.node) c)) (len_is : len ≡ length c.part)
          (kept_is : kept ≡ kept_room p.node.log.header.shape (journal_of p.node)) where
        need_is : size + (76 + len + kept) ≡ need_of p.node.log.header.shape (journal_of p.node) (lock_record (journal_of p.node) c)
        need_is = omega (arith, size_is, len_is, kept_is, length_answered (journal_of p.node) c.batch c.part)

        pub lock_full_is : (used capacity : ℕ) → used ≡ gate_of p.node.log.journal + 1 → capacity ≡ G.limit (disk_of p.node.log.journal)
            → capacity - used < size + (76 + len + kept)
            → lock_due p.node.log.header.shape (G.limit (disk_of p.node.log.journal)) c None (journal_of p.node)
            ≡ Answers (Err (Full used (size + (76 + len + kept)) capacity))
        lock_full_is used capacity used_is capacity_is over =
            let u : used ≡ used_of (journal_of p.node) = used_is ∙ is.node.used whole in
            rw (u, need_is, capacity_is) (lock_full p.node.log.header.shape (G.limit (disk_of p.node.log.journal)) c (journal_of p.node) r planned
            early (omega (arith, over, u, capacity_is, need_is)))

        module _ (used capacity : ℕ) (used_is : used ≡ gate_of p.node.log.journal + 1)
            (capacity_is : capacity ≡ G.limit (disk_of p.node.log.journal)) (within : size + (76 + len + kept) ≤ capacity - used)
            (log : RecordLog D G) (memory : Vec (Vec Bool)) (t : HasTakenMemory p log memory c.batch.lane) (bytes : ℕ) (large : size ≤ bytes)
            (enough : 1057 ≤ bytes) (room : HasLogRoom log ((76 + len + kept) / 34 + 2) bytes)
            (own : (m : Vec Bool) → slice_get memory.items c.batch.lane ≡ Some m → len ≤ vec_capacity m) where
          total : used_of (journal_of p.node) + (size + (76 + len + kept)) ≤ G.limit (disk_of p.node.log.journal)
          total = omega (arith, within, used_is, capacity_is, is.node.used whole, is.room, size_is)

          pub lock_memory : HasLogRoom log 1 (length (body_of next))
          lock_memory = record {
            records = omega (arith, room.records);
            body = omega (arith, room.body, lock_size, size_is, large);
            row = omega (arith, room.row, lock_size, size_is, large);
          }

          pub lock_comes : After log.header (reverse log.records.items) next
          lock_comes =
              subst (λ (x : Record). After log.header (reverse log.records.items) x) (sym next_is)
              (subst (λ (h : Header). After h (reverse log.records.items) (lock_record (journal_of p.node) c)) (sym t.header)
              (subst (λ (l : List Record). After p.node.log.header l (lock_record (journal_of p.node) c)) (sym (ap reverse t.records)) lock_fits))

          pub lock_need : used_of (reverse log.records.items) + need_of log.header.shape (reverse log.records.items) next
              ≤ G.limit (disk_of log.journal)
          lock_need =
              let same : reverse log.records.items ≡ journal_of p.node = ap reverse t.records in
              let needed : need_of log.header.shape (reverse log.records.items) next
              ≡ need_of p.node.log.header.shape (journal_of p.node) (lock_record (journal_of p.node) c) =
              ap (λ (x : Record). need_of log.header.shape (reverse log.records.items) x) next_is
              ∙ ap (λ (l : List Record). need_of log.header.shape l (lock_record (journal_of p.node) c)) same
              ∙ ap (λ (h : Header). need_of h.shape (journal_of p.node) (lock_record (journal_of p.node) c)) t.header in
              omega (arith, total, need_is, needed, ap used_of same, ap G.limit t.untouched.disk)

          pub lock_owes : lock_due p.node.log.header.shape (G.limit (disk_of p.node.log.journal)) c None (journal_of p.node) ≡ Writes r next
          lock_owes = lock_writes p.node.log.header.shape (G.limit (disk_of p.node.log.journal)) c (journal_of p.node) r planned early
              (omega (arith, total, need_is)) ∙ ap (λ (x : Record). Writes r x) (sym next_is)

          pub lock_wrote : (node : Node ShardCore D G) → IsNode IsShardHeader node
              → HasWritten {D = D} {G = G} (record p.node { log = log }) node next
              → IsShardOf {D = D} {G = G} (record { node = node; decisions = memory })
          lock_wrote node is_now w =
              let mid : Parts D G = record { node = record p.node { log = log }; decisions = memory } in
              let N : Record = lock_record (journal_of p.node) c in
              let same : reverse log.records.items ≡ journal_of p.node = ap reverse t.records in
              let old = is.memory whole in
              let keeps = lock_keeps p.node.log.header (journal_of p.node) c call lock_next.idle in
              let kept_now : kept_room log.header.shape (N ∷ reverse log.records.items) ≡ kept_room p.node.log.header.shape (N ∷ journal_of p.node) =
              ap (λ (l : List Record). kept_room log.header.shape (N ∷ l)) same
              ∙ ap (λ (h : Header). kept_room h.shape (N ∷ journal_of p.node)) t.header in
              let used_now : used_of (N ∷ reverse log.records.items) ≡ used_of (N ∷ journal_of p.node) =
              ap (λ (l : List Record). used_of (N ∷ l)) same in
              let grown : used_of (N ∷ journal_of p.node) ≡ used_of (journal_of p.node) + size_of N =
              omega (arith, sum_by-cons size_of N (journal_of p.node)) in
              let decisions : HaveDecisions (N ∷ journal_of p.node) memory.items = λ lane m get. elim (same_nat c.batch.lane lane) [
                | Yes e ↦
                    let here : slice_get memory.items c.batch.lane ≡ Some m = subst (λ (l : ℕ). slice_get memory.items l ≡ Some m) (sym e) get in
                    subst (λ (l : ℕ). IsLockedWith (N ∷ journal_of p.node) l (vec_capacity m)) e
                    (own_lock (journal_of p.node) (next_stamp (journal_of p.node) c.cause) c.batch (answered (journal_of p.node) c.batch [] c.part)
                    (vec_capacity m) (omega (arith, own m here, len_is, length_answered (journal_of p.node) c.batch c.part)))
                | No apart ↦
                    same_lock (journal_of p.node) (N ∷ journal_of p.node) lane (vec_capacity m)
                    (past_lock (journal_of p.node) (next_stamp (journal_of p.node) c.cause) c.batch
                    (answered (journal_of p.node) c.batch [] c.part) lane apart)
                    (old.decisions lane m (t.others lane m (λ e. apart (sym e)) get))
              ] in
              wrote mid memory node N (taken_shard log memory t) refl is_now
              (subst (λ (x : Record). HasWritten {D = D} {G = G} (record p.node { log = log }) node x) next_is w)
              (omega (arith, total, keeps, size_is, len_is, kept_is, kept_now, used_now, grown, ap G.limit t.untouched.disk))
              (subst (λ (l : List Record). HaveDecisions (N ∷ l) memory.items) (sym same) decisions) ((76 + len + kept) / 34 + 1)
              (record { records = omega (arith, room.records); body = omega (arith, room.body, enough); row = omega (arith, room.row, enough) })
              (omega (arith, keeps, len_is, kept_is, kept_now))
