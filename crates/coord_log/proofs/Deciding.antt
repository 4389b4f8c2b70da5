-- What is owed to a call that decides, and that its Commit has its place.
use Rattle.std.proofs.Common.{◌≡◌, ℕ, suc, ◌+◌, ◌*◌, ◌<◌, ◌≤◌, max, List, length, refl, ap, sym, ◌∙◌, subst, arith, Some, None, Option, Err}
use Rattle.std.specs.Prelude.{All}
use Rattle.std.proofs.lemmas.List.{length-map}
use Rattle.outside.specs.declared.disk.Disk.{Ghosts}
use Rattle.gate_journal.specs.Shown.{broken_of}
use Rattle.cbdc_types.specs.declared.batch.ShardReplies.{ShardReplies}
use Rattle.cbdc_types.specs.declared.calls.NodeFault.TheVariants.{ClockEnd}
use Rattle.cbdc_model.specs.Records.{Shape, Record, Batch, Compact, Outcome, txs_of, outcomes_in, Commit}
use Rattle.cbdc_model.specs.Slots.{slot, Idle, InPrepare}
use Rattle.cbdc_model.specs.Grammar.{IsBatchOf, IsOutcome, HasSize}
use Rattle.cbdc_model.specs.Next.{next_stamp}
use Rattle.cbdc_model.specs.Deciding.{decided, reply_cause}
use Rattle.cbdc_model.specs.Due.{Answers, Writes, last_late, open_batch, decide_due, commit_record}
use Rattle.cbdc_model.specs.Room.{size_of, room_in}
use Rattle.record_log.specs.Logs.{HasLogRoom}
use Rattle.node_journal.specs.Sound.{journal_of}
use Rattle.node_journal.specs.declared.nodes.Node.{Node}
use Rattle.coord_core.specs.Masks.{mask_of, masks_of}
use Rattle.coord_core.specs.Decided.{latest_reply, ShardsRise, AreRepliesTo}
use Rattle.coord_core.specs.Lanes.{CoordOf, IsCoordWhole, IsOwnLane, CoordAdmits, coord_lane, lane_kept, ahead_in, ahead_of, IsSameButRoom}
use Rattle.coord_core.specs.Lanes.{KeepsOtherRooms, core_batch}
use Rattle.coord_core.specs.Stands.{CoordStands}
use Rattle.coord_core.proofs.Deciding.{latest_is}
use Rattle.coord_log.specs.Logs.{commit_due}
use Rattle.coord_log.specs.Inside.{largest, IsCoordSound, IsDue}
use Rattle.coord_core.proofs.Rooms.{others_roomed}
use Rattle.coord_log.proofs.Written.{stands_on}
use Rattle.coord_core.proofs.Journals.{prepared_size}
use Rattle.coord_log.proofs.Places.{commit_place, next_fits, next_ahead, commit_size}
use Rattle.coord_log.proofs.Owed.{core_batch_is, named_batch, in_time, too_late, memory_for, all_memory}

-- the stamp of a Commit by these replies
pub commit_stamp_is : (c : CoordOf) (K : Shape) (J : List Record) (replies : List ShardReplies) → CoordStands c J → ShardsRise 0 K.shards replies
    → suc (latest_reply c.last replies) ≡ next_stamp J (reply_cause K replies)
commit_stamp_is c K J replies stands rising = ap suc (latest_is K c.last replies rising) ∙ ap (λ x. suc (max x (reply_cause K replies))) stands.last

-- what is owed whatever the shards replied: this record, or that its stamp is past its bound
pub commit_owed : (c : CoordOf) (K : Shape) (J : List Record) (broken : Option ℕ) (t : ℕ) (r : Record) (replies : List ShardReplies)
    → CoordStands c J → broken ≡ None → ShardsRise 0 K.shards replies
    → t ≡ suc (latest_reply c.last replies) → t ≤ last_late → commit_due K replies r broken J ≡ Writes t r
commit_owed c K J broken t r replies stands whole rising t-is le =
    let s : next_stamp J (reply_cause K replies) ≡ t = sym (commit_stamp_is c K J replies stands rising) ∙ sym t-is in
    in_time broken last_late (next_stamp J (reply_cause K replies)) (Writes (next_stamp J (reply_cause K replies)) r) whole (rw s le)
    ∙ ap (λ x. Writes x r) s

pub commit_late : (c : CoordOf) (K : Shape) (J : List Record) (broken : Option ℕ) (t : ℕ) (r : Record) (replies : List ShardReplies)
    → CoordStands c J → broken ≡ None → ShardsRise 0 K.shards replies
    → t ≡ suc (latest_reply c.last replies) → last_late < t → commit_due K replies r broken J ≡ Answers (Err (ClockEnd t))
commit_late c K J broken t r replies stands whole rising t-is late =
    let s : next_stamp J (reply_cause K replies) ≡ t = sym (commit_stamp_is c K J replies stands rising) ∙ sym t-is in
    too_late broken last_late (next_stamp J (reply_cause K replies)) (Writes (next_stamp J (reply_cause K replies)) r) whole (rw s late)
    ∙ ap (λ x. Answers (Err (ClockEnd x))) s

-- what the lanes make of the replies
abbrev pub IsDecided : CoordOf → ℕ → List ShardReplies → Record → Type 0
IsDecided c lane replies r = (txs : List Compact) → (coord_lane c lane).masks ≡ masks_of c.header.shape txs
    → AreRepliesTo c.header.shape txs replies
    → r ≡ Commit (suc (max c.last (reply_cause c.header.shape replies))) (core_batch c lane) (decided c.header.shape txs replies)

pub decide_owed : (c : CoordOf) (K : Shape) (J : List Record) (broken : Option ℕ) (lane t : ℕ) (r : Record) (replies : List ShardReplies)
    → K ≡ c.header.shape → CoordStands c J → IsOwnLane c.header lane
    → broken ≡ None → (slot J lane).phase ≡ InPrepare → t ≡ suc (latest_reply c.last replies) → t ≤ last_late → IsDecided c lane replies r
    → AreRepliesTo K (txs_of J (open_batch J lane)) replies
    → decide_due K lane replies broken J ≡ Writes t r
decide_owed c K J broken lane t r replies shape stands own whole phase t-is le is are =
    let txs : List Compact = txs_of J (open_batch J lane) in
    let P : Shape → Type 0 = λ k. AreRepliesTo k (txs_of J (open_batch J lane)) replies in
    let are' : AreRepliesTo c.header.shape (txs_of J (open_batch J lane)) replies = subst P shape are in
    let s : next_stamp J (reply_cause K replies) ≡ t = sym (commit_stamp_is c K J replies stands are.rising) ∙ sym t-is in
    let record_is : r ≡ Commit (suc (max c.last (reply_cause c.header.shape replies))) (core_batch c lane) (decided c.header.shape txs replies) =
    is txs (stands.masks lane own phase) are' in
    let e : commit_record K lane replies J ≡ r =
    ap (λ k. commit_record k lane replies J) shape
    ∙ ap (λ x. Commit (suc (max x (reply_cause c.header.shape replies))) (open_batch J lane) (decided c.header.shape txs replies)) (sym stands.last)
    ∙ ap (λ b. Commit (suc (max c.last (reply_cause c.header.shape replies))) b (decided c.header.shape txs replies))
    (sym (core_batch_is c J lane stands own))
    ∙ sym record_is in
    in_time broken last_late (next_stamp J (reply_cause K replies)) (Writes (next_stamp J (reply_cause K replies)) (commit_record K lane replies J))
    whole (rw s le)
    ∙ ap (λ x. Writes x (commit_record K lane replies J)) s ∙ ap (λ x. Writes t x) e

pub decide_late : (c : CoordOf) (K : Shape) (J : List Record) (broken : Option ℕ) (lane t : ℕ) (txs : List Compact) (replies : List ShardReplies)
    → CoordStands c J → broken ≡ None → t ≡ suc (latest_reply c.last replies) → last_late < t
    → AreRepliesTo K txs replies → decide_due K lane replies broken J ≡ Answers (Err (ClockEnd t))
decide_late c K J broken lane t txs replies stands whole t-is late are =
    let s : next_stamp J (reply_cause K replies) ≡ t = sym (commit_stamp_is c K J replies stands are.rising) ∙ sym t-is in
    too_late broken last_late (next_stamp J (reply_cause K replies)) (Writes (next_stamp J (reply_cause K replies)) (commit_record K lane replies J))
    whole (rw s late)
    ∙ ap (λ x. Answers (Err (ClockEnd x))) s

pub decide_ready : {D : Type 0} {G : Ghosts D} (n : Node CoordOf D G) (c : CoordOf) (lane stamp : ℕ) (os : List Outcome) (r : Record)
    → IsCoordWhole c → IsSameButRoom n.core c → KeepsOtherRooms n.core c lane → IsCoordSound n → broken_of n.log.journal ≡ None
    → IsOwnLane n.core.header lane → (slot (journal_of n) lane).phase ≡ InPrepare
    → 1 ≤ stamp → stamp ≤ last_late → r ≡ Commit stamp (core_batch n.core lane) os → All (λ o. IsOutcome n.log.header.shape o) os → CoordAdmits c r
    → IsDue {D = D} {G = G} (record { log = n.log; core = c; opened = n.opened; flight = n.flight }) r
decide_ready {D} {G} n c lane stamp os r whole same keeps sound unbroken own phase some le r-is outcomes next =
    let l = n.log in
    let b : CoordOf = n.core in
    let J : List Record = journal_of n in
    let on = sound.on in
    let ready = sound.ready unbroken in
    let P : Record → Type 0 = λ x. IsDue {D = D} {G = G} (record { log = n.log; core = c; opened = n.opened; flight = n.flight }) x in
    let next' : CoordAdmits c (Commit stamp (core_batch n.core lane) os) = let Q : Record → Type 0 = λ x. CoordAdmits c x in subst Q r-is next in
    let at : (coord_lane c lane).slot.phase ≡ InPrepare = ap (λ s. s.phase) next'.1 in
    let kept : lane_kept (coord_lane c lane) ≡ 110 + 57 * length (coord_lane c lane).masks =
    ap (λ x. room_in x 0 (length (coord_lane c lane).masks)) at in
    let ahead : ahead_in (coord_lane c lane).slot.phase ≡ 3 = ap ahead_in at in
    let batch : IsBatchOf n.log.header.shape (open_batch (journal_of n) lane) =
    named_batch n.log.header J lane on.node.kind on.node.journal (λ e. (let w : InPrepare ≡ Idle = sym phase ∙ e in cc)) in
    let size : HasSize n.log.header.shape (txs_of (journal_of n) (open_batch (journal_of n) lane)) =
    prepared_size n.log.header J lane on.node.journal phase in
    let count : length os ≡ length (txs_of (journal_of n) (open_batch (journal_of n) lane)) =
    sym next'.2 ∙ ap length (same.masks lane ∙ on.stands.masks lane own phase)
    ∙ length-map (txs_of J (open_batch J lane)) (λ t. mask_of b.header.shape t) in
    let rooms = others_roomed b c lane same keeps ready.rooms in
    let memory : HasLogRoom n.log (0 + ahead_of c.lanes) largest = let Q : ℕ
    → Type 0 = λ k. HasLogRoom n.log (0 + k) largest in subst Q (sym same.ahead) ready.memory in
    let fits = next_fits c lane (size_of (Commit stamp (core_batch n.core lane) os)) whole (omega (arith, kept, commit_size os, next'.2)) in
    subst P (sym r-is) (record {
      on = stands_on n l c (record { disk = refl; gate = refl; broken = refl }) refl refl same on;
      whole = unbroken;
      next = next';
      grammar = (
        (some, le),
        (let Q : Batch → Type 0 = λ x. IsBatchOf n.log.header.shape x in subst Q (sym (core_batch_is b J lane on.stands own)) batch),
        on.node.kind,
        ((omega (arith, size.0, count)), (omega (arith, size.1, count))),
        outcomes,
      );
      size = memory_for l (ahead_of c.lanes) (size_of (Commit stamp (core_batch n.core lane) os)) (next_ahead c lane whole (omega arith))
          (omega (arith, commit_size os, size.1, count, on.node.limits.batch)) memory;
      needs = omega (arith, on.free, same.kept, fits);
      place = λ d takes. commit_place l c d stamp (core_batch n.core lane) os whole next' takes rooms (omega (arith, ready.space, same.kept))
          (all_memory l (ahead_of c.lanes) memory);
    })

-- the outcomes that were told are those of the record
pub told_is : (r : Record) (t : ℕ) (b b' : Batch) (os out : List Outcome) → r ≡ Commit t b os → b ≡ b' → out ≡ outcomes_in (Some r)
    → r ≡ Commit t b' out
told_is r t b b' os out r-is batch out-is =
    let o : out ≡ os = out-is ∙ ap (λ x. outcomes_in (Some x)) r-is in
    r-is ∙ ap (λ x. Commit t x os) batch ∙ ap (λ x. Commit t b' x) (sym o)
