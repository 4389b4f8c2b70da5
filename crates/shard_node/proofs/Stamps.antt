-- Finish and Forget: the room and the memory that the Lock took are there.
use Rattle.std.proofs.Common.{◌≡◌, ◌≢◌, ℕ, ◌+◌, ◌-◌, ◌*◌, ◌^◌, ◌≤◌, Bool, List, ◌∷◌, length, vec_capacity, Some, None, refl, sym, ap, subst, arith}
use Rattle.std.specs.Global.{Vec}
use Rattle.std.specs.Prelude.{slice_get}
use Rattle.std.proofs.lemmas.List.Sums.{sum_by-cons}
use Rattle.cbdc_types.specs.declared.calls.FinishCall.{FinishCall}
use Rattle.cbdc_types.specs.declared.calls.ForgetCall.{ForgetCall}
use Rattle.cbdc_model.specs.Records.{Header, Record, lock_of, Finish, Forget}
use Rattle.cbdc_model.specs.After.{After}
use Rattle.cbdc_model.specs.Room.{kept_room, size_of, need_of}
use Rattle.cbdc_model.specs.Due.{Writes, used_of, finish_due, forget_due}
use Rattle.cbdc_model.specs.Next.{Append, next_finish, next_forget}
use Rattle.outside.specs.declared.disk.Disk.{Ghosts}
use Rattle.gate_journal.specs.Shown.{disk_of, broken_of}
use Rattle.record_log.specs.Bodies.{body_of}
use Rattle.record_log.specs.declared.log.RecordLog.{RecordLog}
use Rattle.record_log.specs.Logs.{HasLogRoom}
use Rattle.record_log.proofs.LogSizes.{size_is}
use Rattle.shard_core.proofs.Applies.{Yes, No, same_nat}
use Rattle.shard_node.specs.declared.parts.Parts.{Parts}
use Rattle.cbdc_model.specs.Calls.{IsFinishCall, IsForgetCall}
use Rattle.record_grammar.specs.Kinds.{IsShardHeader}
use Rattle.shard_core.specs.declared.core_state.ShardCore.{ShardCore}
use Rattle.node_journal.specs.Sound.{IsNode, journal_of}
use Rattle.node_journal.specs.declared.nodes.Node.{Node}
use Rattle.shard_node.specs.Parts.{HasRecords, IsShardOf}
use Rattle.shard_node.proofs.Lanes.{IsLockedWith, same_room, same_lock, past_finish, past_forget, own_finish, own_forget, room_locked, room_finished}
use Rattle.shard_node.proofs.Lanes.{finished_room, forgotten_room}
use Rattle.shard_node.proofs.Rooms.{kept_moves}
use Rattle.shard_node.proofs.Follows.{FinishFollows, ForgetFollows, finish_appends, finish_after, fits_length, forget_appends, forget_after}
use Rattle.shard_node.proofs.Keeps.{HasWritten, wrote}
use Rattle.shard_node.proofs.Owed.{finish_writes, forget_writes}

-- what a Finish and a Forget leave to be kept
pub finish_keeps : (h : Header) (J : List Record) (c : FinishCall) (t : ℕ) → IsFinishCall h c → FinishFollows J c.batch c.decisions c.cause t
    → kept_room h.shape (Finish t c.batch c.decisions ∷ J) + (42 + length c.decisions) ≡ kept_room h.shape J
finish_keeps h J c t call next =
    let N : List Record = Finish t c.batch c.decisions ∷ J in
    let moves = kept_moves J N c.batch.lane (h.shape.coordinators * h.shape.lanes)
    (λ l apart. same_room J N l (past_finish J t c.batch c.decisions l apart)) call.batch.0 in
    omega (
      arith,
      moves,
      room_locked J c.batch next.locked next.number,
      finished_room J t c.batch c.decisions,
      fits_length (lock_of J c.batch) c.decisions next.fits,
    )

pub forget_keeps : (h : Header) (J : List Record) (c : ForgetCall) (t : ℕ) → IsForgetCall h c → ForgetFollows J c.batch c.cause t
    → kept_room h.shape (Forget t c.batch ∷ J) + 34 ≡ kept_room h.shape J
forget_keeps h J c t call next =
    let N : List Record = Forget t c.batch ∷ J in
    let moves = kept_moves J N c.batch.lane (h.shape.coordinators * h.shape.lanes) (λ l apart. same_room J N l (past_forget J t c.batch l apart))
    call.batch.0 in
    omega (arith, moves, room_finished J c.batch.lane next.finished, forgotten_room J t c.batch)

module _ {D : Type 0} {G : Ghosts D} where
  -- where room is kept there is memory for a record
  room_for : (log : RecordLog D G) (kept n : ℕ) → HasRecords log kept → 34 ≤ kept → n ≤ 1057 → HasLogRoom log 1 n
  room_for log kept n has some small = record {
    records = omega (arith, has.room.records, has.enough, some);
    body = omega (arith, has.room.body, small);
    row = omega (arith, has.room.row, small);
  }

  one_less : (log : RecordLog D G) (kept : ℕ) (has : HasRecords log kept) → 34 ≤ kept → HasLogRoom log ((has.count - 1) + 1) 1057
  one_less log kept has some = let same : (has.count - 1) + 1 ≡ has.count = omega (arith, has.enough, some) in
      subst (λ (n : ℕ). HasLogRoom log n 1057) (sym same) has.room

  -- ---- Finish

  module _ (p : Parts D G) (c : FinishCall) (t : ℕ) (is : IsShardOf p) (call : IsFinishCall p.node.log.header c)
      (whole : broken_of p.node.log.journal ≡ None) (planned : next_finish (journal_of p.node) c.batch c.decisions c.cause ≡ Append t)
      (early : t ≤ 2 ^ 62 + 2 ^ 20) where
    finish_next : FinishFollows (journal_of p.node) c.batch c.decisions c.cause t
    finish_next = finish_appends (journal_of p.node) c.batch c.decisions c.cause t planned

    pub finish_fits : After p.node.log.header (journal_of p.node) (Finish t c.batch c.decisions)
    finish_fits = finish_after p.node.log.header (journal_of p.node) c t is.node.kind call finish_next early

    finish_size : 9 + length (body_of (Finish t c.batch c.decisions)) ≡ 42 + length c.decisions
    finish_size = size_is p.node.log.header (Finish t c.batch c.decisions) is.node.limits finish_fits.0

    finish_kept : kept_room p.node.log.header.shape (Finish t c.batch c.decisions ∷ journal_of p.node) + (42 + length c.decisions)
        ≡ kept_room p.node.log.header.shape (journal_of p.node)
    finish_kept = finish_keeps p.node.log.header (journal_of p.node) c t call finish_next

    pub finish_decisions : (m : Vec Bool) → slice_get p.decisions.items c.batch.lane ≡ Some m → length c.decisions ≤ vec_capacity m
    finish_decisions m get =
        let next = finish_next in
        let old = (is.memory whole).decisions c.batch.lane m get next.locked in
        let batch : lock_of (journal_of p.node) (record { lane = c.batch.lane; number = _ }) ≡ lock_of (journal_of p.node) c.batch =
        ap (λ (n : ℕ). lock_of (journal_of p.node) (record { lane = c.batch.lane; number = n })) next.number in
        omega (arith, old, ap length batch, fits_length (lock_of (journal_of p.node) c.batch) c.decisions next.fits)

    pub finish_memory : HasLogRoom p.node.log 1 (length (body_of (Finish t c.batch c.decisions)))
    finish_memory =
        room_for p.node.log (kept_room p.node.log.header.shape (journal_of p.node)) (length (body_of (Finish t c.batch c.decisions)))
        (is.memory whole).records (omega (arith, finish_kept)) (omega (arith, finish_size, call.size.1, is.node.limits.batch))

    pub finish_need : used_of (journal_of p.node) + need_of p.node.log.header.shape (journal_of p.node) (Finish t c.batch c.decisions)
        ≤ G.limit (disk_of p.node.log.journal)
    finish_need = omega (arith, is.room, finish_kept)

    pub finish_wrote : (memory : Vec (Vec Bool)) (node : Node ShardCore D G) → IsNode IsShardHeader node
        → HasWritten p.node node (Finish t c.batch c.decisions) → length memory.items ≡ length p.decisions.items
        → ((l : ℕ) (m : Vec Bool) → l ≢ c.batch.lane → slice_get memory.items l ≡ Some m → slice_get p.decisions.items l ≡ Some m)
        → IsShardOf (record { node = node; decisions = memory })
    finish_wrote memory node now w len others =
        let old = is.memory whole in
        let J = journal_of p.node in
        let r : Record = Finish t c.batch c.decisions in
        let kept = finish_kept in
        wrote p memory node r is len now w (omega (arith, is.room, kept, sum_by-cons size_of r J)) (λ lane m get. elim (same_nat c.batch.lane lane) [
          | Yes e ↦ subst (λ (l : ℕ). IsLockedWith (r ∷ J) l (vec_capacity m)) e (own_finish J t c.batch c.decisions (vec_capacity m))
          | No apart ↦ same_lock J (r ∷ J) lane (vec_capacity m) (past_finish J t c.batch c.decisions lane apart)
              (old.decisions lane m (others lane m (λ e. apart (sym e)) get))
        ]) (old.records.count - 1) (one_less p.node.log (kept_room p.node.log.header.shape J) old.records (omega (arith, kept)))
        (omega (arith, old.records.enough, kept))

    pub finish_owes : finish_due c None (journal_of p.node) ≡ Writes t (Finish t c.batch c.decisions)
    finish_owes = finish_writes c (journal_of p.node) t planned finish_next.is early

  -- ---- Forget

  module _ (p : Parts D G) (c : ForgetCall) (t : ℕ) (is : IsShardOf p) (call : IsForgetCall p.node.log.header c)
      (whole : broken_of p.node.log.journal ≡ None) (planned : next_forget (journal_of p.node) c.batch c.cause ≡ Append t)
      (early : t ≤ 2 ^ 62 + 2 ^ 20) where
    forget_next : ForgetFollows (journal_of p.node) c.batch c.cause t
    forget_next = forget_appends (journal_of p.node) c.batch c.cause t planned

    pub forget_fits : After p.node.log.header (journal_of p.node) (Forget t c.batch)
    forget_fits = forget_after p.node.log.header (journal_of p.node) c t is.node.kind call forget_next early

    forget_size : 9 + length (body_of (Forget t c.batch)) ≡ 34
    forget_size = size_is p.node.log.header (Forget t c.batch) is.node.limits forget_fits.0

    forget_kept : kept_room p.node.log.header.shape (Forget t c.batch ∷ journal_of p.node) + 34
        ≡ kept_room p.node.log.header.shape (journal_of p.node)
    forget_kept = forget_keeps p.node.log.header (journal_of p.node) c t call forget_next

    pub forget_memory : HasLogRoom p.node.log 1 (length (body_of (Forget t c.batch)))
    forget_memory = room_for p.node.log (kept_room p.node.log.header.shape (journal_of p.node)) (length (body_of (Forget t c.batch)))
        (is.memory whole).records (omega (arith, forget_kept)) (omega (arith, forget_size))

    pub forget_need : used_of (journal_of p.node) + need_of p.node.log.header.shape (journal_of p.node) (Forget t c.batch)
        ≤ G.limit (disk_of p.node.log.journal)
    forget_need = omega (arith, is.room, forget_kept)

    pub forget_wrote : (node : Node ShardCore D G) → IsNode IsShardHeader node → HasWritten p.node node (Forget t c.batch)
        → IsShardOf (record { node = node; decisions = p.decisions })
    forget_wrote node now w =
        let old = is.memory whole in
        let J = journal_of p.node in
        let r : Record = Forget t c.batch in
        let kept = forget_kept in
        wrote p p.decisions node r is refl now w (omega (arith, is.room, kept, sum_by-cons size_of r J))
        (λ lane m get. elim (same_nat c.batch.lane lane) [
          | Yes e ↦ subst (λ (l : ℕ). IsLockedWith (r ∷ J) l (vec_capacity m)) e (own_forget J t c.batch (vec_capacity m))
          | No apart ↦ same_lock J (r ∷ J) lane (vec_capacity m) (past_forget J t c.batch lane apart) (old.decisions lane m get)
        ]) (old.records.count - 1) (one_less p.node.log (kept_room p.node.log.header.shape J) old.records (omega (arith, kept)))
        (omega (arith, old.records.enough, kept))

    pub forget_owes : forget_due c None (journal_of p.node) ≡ Writes t (Forget t c.batch)
    forget_owes = forget_writes c (journal_of p.node) t planned forget_next.is early
