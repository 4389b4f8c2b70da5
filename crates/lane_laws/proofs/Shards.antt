-- A phase in which all went well, shard by shard: new answers and stored ones alike.
use Rattle.std.proofs.Common.{◌≡◌, ◌⊎◌, inl, inr, ℕ, ◌<◌, Bool, true, false, ◌&&◌, ◌==◌, not, nat_lt, List, [], ◌∷◌, length, Option, Some, None}
use Rattle.std.proofs.Common.{is_some, Result, Ok, IsOk, refl, sym, ap, ◌∙◌, subst, arith}
use Rattle.cbdc_types.specs.declared.calls.LockCall.{LockCall}
use Rattle.cbdc_types.specs.declared.calls.FinishCall.{FinishCall}
use Rattle.cbdc_types.specs.declared.calls.ForgetCall.{ForgetCall}
use Rattle.std.specs.List.{All}
use Rattle.cbdc_types.specs.declared.calls.Replied.{Replied}
use Rattle.cbdc_types.specs.declared.calls.NodeFault.{NodeFault}
use Rattle.cbdc_types.specs.declared.batch.ShardReplies.{ShardReplies}
use Rattle.cbdc_model.specs.Records.{Batch, same_batch, Compact, Answered, Entry, Outcome, Record, Shape, record_of, lock_of, stamp_in, entries_in}
use Rattle.cbdc_model.specs.Records.{decisions_in, Lock, Finish, Forget}
use Rattle.cbdc_model.specs.Slots.{Phase, slot, slot_stamp, Idle, InLock, InFinish}
use Rattle.cbdc_model.specs.Replies.{entries, replies, answered}
use Rattle.cbdc_model.specs.Outcomes.{decisions}
use Rattle.cbdc_model.specs.Ranges.{part, is_no_part}
use Rattle.cbdc_model.specs.Deciding.{replies_at, replies_in, reply_stamp, answered_with}
use Rattle.cbdc_model.specs.Next.{next_lock, next_finish, next_forget, next_stamp, same_entry, same_decision}
use Rattle.cbdc_model.specs.Due.{Due, lock_by, stamp_by}
use Rattle.cbdc_model.specs.Sights.{Sight, Finds}
use Rattle.ledger_laws.proofs.Slots.{same_batch_self}
use Rattle.lane_laws.specs.Batches.{own}
use Rattle.lane_laws.specs.Calls.{shard, is_concerned, IsPartLock, IsPartFinish, IsPartForget, AreLocks, AreFinishes, AreForgets}
use Rattle.lane_laws.specs.Gathering.{Gathered, stamp_at, gathered_reply}
use Rattle.lane_laws.specs.Answers.{EachTold, Others, LockAnswer, FinishAnswer, ForgetAnswer}
use Rattle.lane_laws.proofs.Own.{own_in, finds_own, finds_slot, finds_stamp, finds_record}
use Rattle.lane_laws.proofs.Sameness.{no_difference, entry_same, decision_same}
use Rattle.lane_laws.proofs.Dues.{lock_wrote, lock_kept, lock_new, lock_stored, stamp_wrote, stamp_kept, finish_new, finish_stored, forget_new}
use Rattle.lane_laws.proofs.Dues.{forget_stored}
use Rattle.lane_laws.proofs.Tellings.{Wrote, Stood, told_ok}
use Rattle.lane_laws.proofs.ByShard.{LockedAt, no_lock, one_lock, locked_at, StampedAt, no_stamp, one_stamp, stamped_at, every_fine}
use Rattle.lane_laws.proofs.Asked.{entries_answered}
use Rattle.lane_laws.proofs.LogCalls.{LooksLock}

pub answered_with-nil : (p : List Entry) → answered_with p [] ≡ []
answered_with-nil [] = refl
answered_with-nil (e ∷ es) = refl

pub answered_with-self : (es : List Answered) → answered_with (entries es) (replies es) ≡ es
answered_with-self [] = refl
answered_with-self (a ∷ es) = ap (λ rest. a ∷ rest) (answered_with-self es)

pub not_true : (a : Bool) → (a ≡ true → ⊥) → a ≡ false
not_true a h = grind arith

-- a concerned shard's part has an entry
pub has_part : (K : Shape) (txs : List Compact) (s : ℕ) → is_concerned K txs s ≡ true → is_no_part (part K s 0 txs) ≡ false
has_part K txs s c = tests (nat_lt s K.shards) (is_no_part (part K s 0 txs)) c
  where
    tests : (a b : Bool) → (a && not b) ≡ true → b ≡ false
    tests a b h = grind (arith, h)

-- and another shard's has none
no_entries : (K : Shape) (txs : List Compact) (s : ℕ) → s < K.shards → is_concerned K txs s ≡ false → part K s 0 txs ≡ []
no_entries K txs s lt c = go (part K s 0 txs) (tests (nat_lt s K.shards) (is_no_part (part K s 0 txs)) (below s K.shards lt) c)
  where
    below : (s n : ℕ) → s < n → nat_lt s n ≡ true
    below s n lt = grind (arith, lt)

    tests : (a b : Bool) → a ≡ true → (a && not b) ≡ false → b ≡ true
    tests a b t h = grind (arith, t, h)

    go : (p : List Entry) → is_no_part p ≡ true → p ≡ []
    go [] h = refl
    go (e ∷ p) h = absurd (let z : false ≡ true = h in cc)

as_many : (es : List Answered) → length (replies es) ≡ length (entries es)
as_many [] = refl
as_many (a ∷ es) = let e = as_many es in omega arith

-- what answers to a part is there
some_entries : (o : Option Record) (p : List Entry) → entries (entries_in o) ≡ p → is_no_part p ≡ false → is_some o ≡ true
some_entries (Some r) p e n = refl
some_entries None p e n = absurd (let z : is_no_part [] ≡ false = ap is_no_part e ∙ n in let y : true ≡ false = z in cc)

some_decisions : (o : Option Record) (os : List Outcome) (p : List Entry) → decisions_in o ≡ decisions os p → is_no_part p ≡ false → is_some o ≡ true
some_decisions (Some r) os p e n = refl
some_decisions None os [] e n = absurd (let z : true ≡ false = n in cc)
some_decisions None os (a ∷ p) e n = absurd (let z : [] ≡ decisions os (a ∷ p) = e in cc)

numbers_same : (a b : ℕ) → (a == b) ≡ true → b ≡ a
numbers_same a b h = grind (arith, h)

module _ (K : Shape) (alone : Bool) (lane number : ℕ) (txs : List Compact) where
  abbrev B : Batch
  B = record { lane = lane; number = number }

  self : same_batch B B ≡ true
  self = same_batch_self B

  itself : (lane == lane) ≡ true
  itself = same lane
    where
      same : (n : ℕ) → (n == n) ≡ true
      same n = grind arith

  no_way : {X : Type 0} (s : ℕ) → is_concerned K txs s ≡ true → is_concerned K txs s ≡ false → X
  no_way s c n = absurd (let z : true ≡ false = sym c ∙ n in cc)

  -- behind an Ok answer a shard has the record of its call
  pub lock_has : (s t : ℕ) (old new : Sight) (a : Replied) → is_concerned K txs s ≡ true
      → LockAnswer alone (s, record { batch = B; part = part K s 0 txs; cause = t }) old new (Ok a)
      → is_some (record_of 2 new.seen B) ≡ true
  lock_has s t old new a c told = elim (told_ok alone lane true by old new a told) [
    | inl w ↦ (
        let e = lock_kept old.header.shape old.capacity w.found call (next_lock w.found B (part K s 0 txs) t) a w.answers in
        let k = lock_stored w.found B (part K s 0 txs) t e.0 e.1 in
        some_entries (record_of 2 new.seen B) (part K s 0 txs)
        (ap (λ L. entries (lock_of L B)) w.seen ∙ no_difference same_entry entry_same (entries (lock_of w.found B)) (part K s 0 txs) k.2)
        (has_part K txs s c))
    | inr w ↦ (
        let e = lock_wrote old.header.shape old.capacity w.found call (next_lock w.found B (part K s 0 txs) t) a w.what w.writes in
        ap (λ L. is_some (record_of 2 L B)) (w.seen ∙ ap (λ q. q ∷ w.found) e.3) ∙ (let z : same_batch B B ≡ true = self in rw z))
  ]
    where
      call : LockCall
      call = record { batch = B; part = part K s 0 txs; cause = t }

      by : List Record → Due Replied
      by L = lock_by (next_lock L B (part K s 0 txs) t) old.header.shape old.capacity L call

  pub finish_has : (os : List Outcome) (s t : ℕ) (old new : Sight) (n : ℕ) → is_concerned K txs s ≡ true
      → FinishAnswer alone (s, record { batch = B; decisions = decisions os (part K s 0 txs); cause = t }) old new (Ok n)
      → is_some (record_of 3 new.seen B) ≡ true
  finish_has os s t old new n c told = elim (told_ok alone lane false by old new n told) [
    | inl w ↦ (
        let k = finish_stored w.found B (decisions os (part K s 0 txs)) t n
        (stamp_kept (next_finish w.found B (decisions os (part K s 0 txs)) t) (Finish (next_stamp w.found t) B (decisions os (part K s 0 txs))) n
        w.answers) in
        some_decisions (record_of 3 new.seen B) os (part K s 0 txs)
        (ap (λ L. decisions_in (record_of 3 L B)) w.seen
        ∙ no_difference same_decision decision_same (decisions_in (record_of 3 w.found B)) (decisions os (part K s 0 txs)) k.same)
        (has_part K txs s c))
    | inr w ↦ (
        let e = stamp_wrote (next_finish w.found B (decisions os (part K s 0 txs)) t)
        (Finish (next_stamp w.found t) B (decisions os (part K s 0 txs))) n w.what w.writes in
        ap (λ L. is_some (record_of 3 L B)) (w.seen ∙ ap (λ q. q ∷ w.found) e.1) ∙ (let z : same_batch B B ≡ true = self in rw z))
  ]
    where
      by : List Record → Due ℕ
      by L = stamp_by (next_finish L B (decisions os (part K s 0 txs)) t) (Finish (next_stamp L t) B (decisions os (part K s 0 txs)))

  -- Lock: what the shard has then
  pub record LockedShard (rs : List ShardReplies) (I J : ℕ → Sight) (s : ℕ) : Type 0 where
    pub looks : LooksLock K lane number txs rs J s
    pub number_is : is_concerned K txs s ≡ true → (slot (J s).seen lane).number ≡ number
    pub slot_is : is_concerned K txs s ≡ true → ((slot (J s).seen lane).phase ≡ InLock) ⊎ (slot (J s).seen lane ≡ slot (I s).seen lane)
    pub others : is_concerned K txs s ≡ false → J s ≡ I s
    pub adds : is_concerned K txs s ≡ true
        → (own lane (J s).seen ≡ Lock (reply_stamp (replies_at rs s)) B (answered_with (part K s 0 txs) (replies_in (replies_at rs s)))
        ∷ own lane (I s).seen) ⊎ ((slot (I s).seen lane).number ≡ number)

  pub locked_shard : (t : ℕ) (I J : ℕ → Sight) (rs : List ShardReplies) (cs : List (ℕ × LockCall)) (answers : List (Result Replied NodeFault))
      → ((s : ℕ) → is_concerned K txs s ≡ false → record_of 2 (I s).seen B ≡ None)
      → AreLocks K txs B t cs → EachTold (LockAnswer alone) cs answers I J → Others cs I J → Gathered cs answers rs → (s : ℕ) → LockedShard rs I J s
  locked_shard t I J rs cs answers none calls each others g s =
      go (locked_at alone (IsPartLock K txs B t) I J s cs answers rs each g.shards g.replies calls.every)
    where
      -- from what the journal has of Lock
      looks_by : (c : is_concerned K txs s ≡ true) (rep : ShardReplies) → replies_at rs s ≡ Some rep → (es : List Answered)
          → entries_in (record_of 2 (J s).seen B) ≡ es → stamp_in (record_of 2 (J s).seen B) ≡ rep.stamp
          → entries es ≡ part K s 0 txs → rep.replies ≡ replies es → LooksLock K lane number txs rs J s
      looks_by c rep r es is stamp parts reps = record {
        entries_are = is ∙ sym (answered_with-self es) ∙ (λ i. answered_with (parts i) (sym reps i))
            ∙ ap (λ o. answered_with (part K s 0 txs) (replies_in o)) (sym r);
        stamp_is = stamp ∙ ap reply_stamp (sym r);
        some = λ y. some_entries (record_of 2 (J s).seen B) (part K s 0 txs) (ap entries is ∙ parts) (has_part K txs s c);
        part_is = λ y. ap entries is ∙ parts;
        replied = λ lt. ap (λ o. length (replies_in o)) r ∙ ap length reps ∙ as_many es ∙ ap length parts;
      }

      made : (c : is_concerned K txs s ≡ true) (rep : ShardReplies) → replies_at rs s ≡ Some rep
          → Wrote alone lane (λ L. lock_by (next_lock L B (part K s 0 txs) t) (I s).header.shape (I s).capacity L
          (record { batch = B; part = part K s 0 txs; cause = t })) (I s) (J s) (gathered_reply rep) → LockedShard rs I J s
      made c rep r w =
          let e = lock_wrote (I s).header.shape (I s).capacity w.found (record { batch = B; part = part K s 0 txs; cause = t })
          (next_lock w.found B (part K s 0 txs) t) (gathered_reply rep) w.what w.writes in
          let n = lock_new w.found B (part K s 0 txs) t e.0 e.1 in
          go w.found w.finds w.seen e.3 (ap (λ a. a.replies) e.2 ∙ ap (λ a. a.given) n.1) (ap (λ a. a.stamp) e.2 ∙ ap (λ a. a.at) n.1)
        where
          go : (found : List Record) → Finds alone lane (I s).seen found → (J s).seen ≡ w.what ∷ found
              → w.what ≡ Lock (next_stamp found t) B (answered found B [] (part K s 0 txs))
              → rep.replies ≡ replies (answered found B [] (part K s 0 txs)) → rep.stamp ≡ next_stamp found t → LockedShard rs I J s
          go found f seen what reps stamp =
              let at_end : (J s).seen ≡ Lock (next_stamp found t) B (answered found B [] (part K s 0 txs)) ∷ found = seen ∙ ap (λ q. q ∷ found) what
              in
              let one : record_of 2 (J s).seen B ≡ Some (Lock (next_stamp found t) B (answered found B [] (part K s 0 txs))) =
              ap (λ L. record_of 2 L B) at_end ∙ (let z : same_batch B B ≡ true = self in rw z) in
              let parts : entries (answered found B [] (part K s 0 txs)) ≡ part K s 0 txs = entries_answered found B (part K s 0 txs) [] in
              let es : answered found B [] (part K s 0 txs) ≡ answered_with (part K s 0 txs) (replies_in (replies_at rs s))
              = sym (answered_with-self (answered found B [] (part K s 0 txs))) ∙ (λ i. answered_with (parts i) (sym reps i))
              ∙ ap (λ o. answered_with (part K s 0 txs) (replies_in o)) (sym r) in
              let st : next_stamp found t ≡ reply_stamp (replies_at rs s) = sym stamp ∙ ap reply_stamp (sym r) in
              record {
                looks = looks_by c rep r (answered found B [] (part K s 0 txs)) (ap entries_in one) (ap stamp_in one ∙ sym stamp) parts reps;
                number_is = λ y. ap (λ L. (slot L lane).number) at_end ∙ (let z : (lane == lane) ≡ true = itself in rw z);
                slot_is = λ y. inl (ap (λ L. (slot L lane).phase) at_end ∙ (let z : (lane == lane) ≡ true = itself in rw z));
                others = λ n. no_way s c n;
                adds = λ y. inl (ap (λ L. own lane L) at_end
                    ∙ own_in lane (Lock (next_stamp found t) B (answered found B [] (part K s 0 txs))) found itself
                    ∙ (λ i. Lock (st i) B (es i) ∷ finds_own alone lane (I s).seen found f i));
              }

      stood : (c : is_concerned K txs s ≡ true) (rep : ShardReplies) → replies_at rs s ≡ Some rep
          → Stood alone lane (λ L. lock_by (next_lock L B (part K s 0 txs) t) (I s).header.shape (I s).capacity L
          (record { batch = B; part = part K s 0 txs; cause = t })) (I s) (J s) (gathered_reply rep) → LockedShard rs I J s
      stood c rep r w =
          let e = lock_kept (I s).header.shape (I s).capacity w.found (record { batch = B; part = part K s 0 txs; cause = t })
          (next_lock w.found B (part K s 0 txs) t) (gathered_reply rep) w.answers in
          let k = lock_stored w.found B (part K s 0 txs) t e.0 e.1 in
          let parts : entries (lock_of w.found B) ≡ part K s 0 txs =
          no_difference same_entry entry_same (entries (lock_of w.found B)) (part K s 0 txs) k.2 in
          let n : (slot w.found lane).number ≡ number = numbers_same number (slot w.found lane).number k.0 in
          record {
            looks = looks_by c rep r (lock_of w.found B) (ap (λ L. lock_of L B) w.seen)
                (ap (λ L. stamp_in (record_of 2 L B)) w.seen ∙ sym (ap (λ a. a.stamp) e.2 ∙ ap (λ a. a.at) k.3)) parts
                (ap (λ a. a.replies) e.2 ∙ ap (λ a. a.given) k.3);
            number_is = λ y. ap (λ L. (slot L lane).number) w.seen ∙ n;
            slot_is = λ y. inr (ap (λ L. slot L lane) w.seen ∙ finds_slot alone lane (I s).seen w.found w.finds);
            others = λ n. no_way s c n;
            adds = λ y. inr (ap (λ q. q.number) (sym (finds_slot alone lane (I s).seen w.found w.finds)) ∙ n);
          }

      both : (c : is_concerned K txs s ≡ true) (rep : ShardReplies) → replies_at rs s ≡ Some rep
          → LockAnswer alone (s, record { batch = B; part = part K s 0 txs; cause = t }) (I s) (J s) (Ok (gathered_reply rep)) → LockedShard rs I J s
      both c rep r told = elim (told_ok alone lane true
          (λ L. lock_by (next_lock L B (part K s 0 txs) t) (I s).header.shape (I s).capacity L
          (record { batch = B; part = part K s 0 txs; cause = t })) (I s) (J s) (gathered_reply rep) told) [
            | inl w ↦ stood c rep r w
            | inr w ↦ made c rep r w
          ]

      go : LockedAt alone (IsPartLock K txs B t) cs rs I J s → LockedShard rs I J s
      go (no_lock n e) =
          let no : record_of 2 (J s).seen B ≡ None =
          ap (λ v. record_of 2 v.seen B) (others s n) ∙ none s (not_true (is_concerned K txs s) (λ c. calls.covers s c n)) in
          record {
            looks = record {
              entries_are = ap entries_in no ∙ sym (answered_with-nil (part K s 0 txs))
                  ∙ ap (λ o. answered_with (part K s 0 txs) (replies_in o)) (sym e);
              stamp_is = ap stamp_in no ∙ ap reply_stamp (sym e);
              some = λ c. absurd (calls.covers s c n);
              part_is = λ c. absurd (calls.covers s c n);
              replied = λ lt. ap (λ o. length (replies_in o)) e
                  ∙ sym (ap length (no_entries K txs s lt (not_true (is_concerned K txs s) (λ c. calls.covers s c n))));
            };
            number_is = λ c. absurd (calls.covers s c n);
            slot_is = λ c. absurd (calls.covers s c n);
            others = λ c. others s n;
            adds = λ c. absurd (calls.covers s c n);
          }
      go (one_lock c h e rep r told) = both (subst (λ n. is_concerned K txs n ≡ true) e h.0) rep r
          (subst (λ (d : ℕ × LockCall). LockAnswer alone d (I s) (J s) (Ok (gathered_reply rep)))
          (λ i. (e i, (h.1 ∙ ap (λ (n : ℕ). let d : LockCall = record { batch = B; part = part K n 0 txs; cause = t } in d) e) i)) told)

  -- Finish and Forget: what the shard has of the kind, and its slot
  pub record StampedShard (kind : ℕ) (phase before : Phase) (stamps : ℕ → ℕ) (what : ℕ → Record) (I J : ℕ → Sight) (s : ℕ) : Type 0 where
    pub some : is_concerned K txs s ≡ true → is_some (record_of kind (J s).seen B) ≡ true
    pub stamp : stamp_in (record_of kind (J s).seen B) ≡ stamps s
    pub slot_is : is_concerned K txs s ≡ true → ((slot (J s).seen lane).number ≡ number) × ((slot (J s).seen lane).phase ≡ phase)
    pub others : is_concerned K txs s ≡ false → J s ≡ I s
    pub adds : is_concerned K txs s ≡ true → (own lane (J s).seen ≡ what s ∷ own lane (I s).seen) ⊎ ((slot (I s).seen lane).phase ≡ before)

  -- no call was made there
  uncalled : (kind : ℕ) (phase before : Phase) (stamps : ℕ → ℕ) (what : ℕ → Record) (I J : ℕ → Sight) (s : ℕ) → (is_concerned K txs s ≡ true → ⊥)
      → stamps s ≡ 0 → J s ≡ I s → record_of kind (I s).seen B ≡ None
      → StampedShard kind phase before stamps what I J s
  uncalled kind phase before stamps what I J s not e same none =
      let no : record_of kind (J s).seen B ≡ None = ap (λ v. record_of kind v.seen B) same ∙ none in
      record {
        some = λ c. absurd (not c);
        stamp = ap stamp_in no ∙ sym e;
        slot_is = λ c. absurd (not c);
        others = λ c. same;
        adds = λ c. absurd (not c);
      }

  -- a Finish
  pub finished_shard : (os : List Outcome) (t : ℕ) (I J : ℕ → Sight) (cs : List (ℕ × FinishCall)) (answers : List (Result ℕ NodeFault))
      → ((s : ℕ) → is_concerned K txs s ≡ false → record_of 3 (I s).seen B ≡ None)
      → AreFinishes K txs os B t cs → EachTold (FinishAnswer alone) cs answers I J → Others cs I J → All IsOk answers → (s : ℕ)
      → StampedShard 3 InFinish InFinish (stamp_at shard cs answers) (λ s. Finish (stamp_at shard cs answers s) B (decisions os (part K s 0 txs))) I
      J s
  finished_shard os t I J cs answers none calls each others ok s =
      go (stamped_at (FinishAnswer alone) (IsPartFinish K txs os B t) I J s cs answers each (every_fine answers ok) calls.every)
    where
      made : (c : is_concerned K txs s ≡ true) (n : ℕ) → stamp_at shard cs answers s ≡ n
          → Wrote alone lane (λ L. stamp_by (next_finish L B (decisions os (part K s 0 txs)) t)
          (Finish (next_stamp L t) B (decisions os (part K s 0 txs)))) (I s) (J s) n
          → StampedShard 3 InFinish InFinish (stamp_at shard cs answers)
          (λ s. Finish (stamp_at shard cs answers s) B (decisions os (part K s 0 txs))) I J s
      made c n is w =
          let e = stamp_wrote (next_finish w.found B (decisions os (part K s 0 txs)) t)
          (Finish (next_stamp w.found t) B (decisions os (part K s 0 txs))) n w.what w.writes in
          let st : next_stamp w.found t ≡ stamp_at shard cs answers s = sym (finish_new w.found B (decisions os (part K s 0 txs)) t n e.0).1 ∙ sym is
          in
          let at_end : (J s).seen ≡ Finish (stamp_at shard cs answers s) B (decisions os (part K s 0 txs)) ∷ w.found =
          w.seen ∙ ap (λ q. q ∷ w.found) (e.1 ∙ ap (λ m. Finish m B (decisions os (part K s 0 txs))) st) in
          let one : record_of 3 (J s).seen B ≡ Some (Finish (stamp_at shard cs answers s) B (decisions os (part K s 0 txs))) =
          ap (λ L. record_of 3 L B) at_end ∙ (let z : same_batch B B ≡ true = self in rw z) in
          record {
            some = λ y. ap is_some one;
            stamp = ap stamp_in one;
            slot_is = λ y. (
              ap (λ L. (slot L lane).number) at_end ∙ (let z : (lane == lane) ≡ true = itself in rw z),
              ap (λ L. (slot L lane).phase) at_end ∙ (let z : (lane == lane) ≡ true = itself in rw z),
            );
            others = λ n. no_way s c n;
            adds = λ y. inl (ap (λ L. own lane L) at_end
                ∙ own_in lane (Finish (stamp_at shard cs answers s) B (decisions os (part K s 0 txs))) w.found itself
                ∙ ap (λ L. Finish (stamp_at shard cs answers s) B (decisions os (part K s 0 txs)) ∷ L)
                (finds_own alone lane (I s).seen w.found w.finds));
          }

      stood : (c : is_concerned K txs s ≡ true) (n : ℕ) → stamp_at shard cs answers s ≡ n
          → Stood alone lane (λ L. stamp_by (next_finish L B (decisions os (part K s 0 txs)) t)
          (Finish (next_stamp L t) B (decisions os (part K s 0 txs)))) (I s) (J s) n
          → StampedShard 3 InFinish InFinish (stamp_at shard cs answers)
          (λ s. Finish (stamp_at shard cs answers s) B (decisions os (part K s 0 txs))) I J s
      stood c n is w =
          let k = finish_stored w.found B (decisions os (part K s 0 txs)) t n
          (stamp_kept (next_finish w.found B (decisions os (part K s 0 txs)) t) (Finish (next_stamp w.found t) B (decisions os (part K s 0 txs)))
          n w.answers) in
          let ds : decisions_in (record_of 3 (J s).seen B) ≡ decisions os (part K s 0 txs) = ap (λ L. decisions_in (record_of 3 L B)) w.seen
          ∙ no_difference same_decision decision_same (decisions_in (record_of 3 w.found B)) (decisions os (part K s 0 txs)) k.same in
          record {
            some = λ y. some_decisions (record_of 3 (J s).seen B) os (part K s 0 txs) ds (has_part K txs s c);
            stamp = ap (λ L. stamp_in (record_of 3 L B)) w.seen ∙ sym k.stamp ∙ sym is;
            slot_is = λ y. (ap (λ L. (slot L lane).number) w.seen ∙ k.number, ap (λ L. (slot L lane).phase) w.seen ∙ k.phase);
            others = λ n. no_way s c n;
            adds = λ y. inr (ap (λ q. q.phase) (sym (finds_slot alone lane (I s).seen w.found w.finds)) ∙ k.phase);
          }

      both : (c : is_concerned K txs s ≡ true) (n : ℕ) → stamp_at shard cs answers s ≡ n
          → FinishAnswer alone (s, record { batch = B; decisions = decisions os (part K s 0 txs); cause = t }) (I s) (J s) (Ok n)
          → StampedShard 3 InFinish InFinish (stamp_at shard cs answers)
          (λ s. Finish (stamp_at shard cs answers s) B (decisions os (part K s 0 txs))) I J s
      both c n is told = elim (told_ok alone lane false
          (λ L. stamp_by (next_finish L B (decisions os (part K s 0 txs)) t) (Finish (next_stamp L t) B (decisions os (part K s 0 txs)))) (I s) (J s)
          n told) [
            | inl w ↦ stood c n is w
            | inr w ↦ made c n is w
          ]

      go : StampedAt (FinishAnswer alone) (IsPartFinish K txs os B t) cs answers I J s
          → StampedShard 3 InFinish InFinish (stamp_at shard cs answers)
          (λ s. Finish (stamp_at shard cs answers s) B (decisions os (part K s 0 txs))) I J s
      go (no_stamp n e) = uncalled 3 InFinish InFinish (stamp_at shard cs answers)
          (λ s. Finish (stamp_at shard cs answers s) B (decisions os (part K s 0 txs))) I J s (λ c. calls.covers s c n) e (others s n)
          (none s (not_true (is_concerned K txs s) (λ c. calls.covers s c n)))
      go (one_stamp c h e n is told) = both (subst (λ m. is_concerned K txs m ≡ true) e h.0) n is
          (subst (λ (d : ℕ × FinishCall). FinishAnswer alone d (I s) (J s) (Ok n))
          (λ i. (
            e i,
            (h.1 ∙ ap (λ (n : ℕ). let d : FinishCall = record { batch = B; decisions = decisions os (part K n 0 txs); cause = t } in d) e) i,
          )) told)

  -- where a lane is idle with the batch's number, its last record there is the batch's Forget
  abbrev pub IsForgot : (ℕ → Sight) → Type 0
  IsForgot I = (s : ℕ) → is_concerned K txs s ≡ true → (slot (I s).seen lane).number ≡ number → (slot (I s).seen lane).phase ≡ Idle
      → (is_some (record_of 4 (I s).seen B) ≡ true) × (stamp_in (record_of 4 (I s).seen B) ≡ slot_stamp (I s).seen lane)

  pub forget_has : (s t : ℕ) (I J : ℕ → Sight) (n : ℕ) → IsForgot I → is_concerned K txs s ≡ true
      → ForgetAnswer alone (s, record { batch = B; cause = t }) (I s) (J s) (Ok n) → is_some (record_of 4 (J s).seen B) ≡ true
  forget_has s t I J n forgot c told = elim (told_ok alone lane false by (I s) (J s) n told) [
    | inl w ↦ (
        let k = forget_stored w.found B t n (stamp_kept (next_forget w.found B t) (Forget (next_stamp w.found t) B) n w.answers) in
        let sl = finds_slot alone lane (I s).seen w.found w.finds in
        ap (λ L. is_some (record_of 4 L B)) w.seen ∙ ap is_some (finds_record alone 4 B (I s).seen w.found w.finds)
        ∙ (forgot s c (ap (λ q. q.number) (sym sl) ∙ k.number) (ap (λ q. q.phase) (sym sl) ∙ k.phase)).0)
    | inr w ↦ (
        let e = stamp_wrote (next_forget w.found B t) (Forget (next_stamp w.found t) B) n w.what w.writes in
        ap (λ L. is_some (record_of 4 L B)) (w.seen ∙ ap (λ q. q ∷ w.found) e.1) ∙ (let z : same_batch B B ≡ true = self in rw z))
  ]
    where
      by : List Record → Due ℕ
      by L = stamp_by (next_forget L B t) (Forget (next_stamp L t) B)

  -- a Forget
  pub forgotten_shard : (t : ℕ) (I J : ℕ → Sight) (cs : List (ℕ × ForgetCall)) (answers : List (Result ℕ NodeFault))
      → ((s : ℕ) → is_concerned K txs s ≡ false → record_of 4 (I s).seen B ≡ None) → IsForgot I
      → AreForgets K txs B t cs → EachTold (ForgetAnswer alone) cs answers I J → Others cs I J → All IsOk answers → (s : ℕ)
      → StampedShard 4 Idle Idle (stamp_at shard cs answers) (λ s. Forget (stamp_at shard cs answers s) B) I J s
  forgotten_shard t I J cs answers none forgot calls each others ok s =
      go (stamped_at (ForgetAnswer alone) (IsPartForget K txs B t) I J s cs answers each (every_fine answers ok) calls.every)
    where
      made : (c : is_concerned K txs s ≡ true) (n : ℕ) → stamp_at shard cs answers s ≡ n
          → Wrote alone lane (λ L. stamp_by (next_forget L B t) (Forget (next_stamp L t) B)) (I s) (J s) n
          → StampedShard 4 Idle Idle (stamp_at shard cs answers) (λ s. Forget (stamp_at shard cs answers s) B) I J s
      made c n is w =
          let e = stamp_wrote (next_forget w.found B t) (Forget (next_stamp w.found t) B) n w.what w.writes in
          let st : next_stamp w.found t ≡ stamp_at shard cs answers s = sym (forget_new w.found B t n e.0).1 ∙ sym is in
          let at_end : (J s).seen ≡ Forget (stamp_at shard cs answers s) B ∷ w.found = w.seen ∙ ap (λ q. q ∷ w.found) (e.1 ∙ ap (λ m. Forget m B) st)
          in
          let one : record_of 4 (J s).seen B ≡ Some (Forget (stamp_at shard cs answers s) B) =
          ap (λ L. record_of 4 L B) at_end ∙ (let z : same_batch B B ≡ true = self in rw z) in
          record {
            some = λ y. ap is_some one;
            stamp = ap stamp_in one;
            slot_is = λ y. (
              ap (λ L. (slot L lane).number) at_end ∙ (let z : (lane == lane) ≡ true = itself in rw z),
              ap (λ L. (slot L lane).phase) at_end ∙ (let z : (lane == lane) ≡ true = itself in rw z),
            );
            others = λ n. no_way s c n;
            adds = λ y. inl (ap (λ L. own lane L) at_end ∙ own_in lane (Forget (stamp_at shard cs answers s) B) w.found itself
                ∙ ap (λ L. Forget (stamp_at shard cs answers s) B ∷ L) (finds_own alone lane (I s).seen w.found w.finds));
          }

      stood : (c : is_concerned K txs s ≡ true) (n : ℕ) → stamp_at shard cs answers s ≡ n
          → Stood alone lane (λ L. stamp_by (next_forget L B t) (Forget (next_stamp L t) B)) (I s) (J s) n
          → StampedShard 4 Idle Idle (stamp_at shard cs answers) (λ s. Forget (stamp_at shard cs answers s) B) I J s
      stood c n is w =
          let k = forget_stored w.found B t n (stamp_kept (next_forget w.found B t) (Forget (next_stamp w.found t) B) n w.answers) in
          let sl = finds_slot alone lane (I s).seen w.found w.finds in
          let p : (slot (I s).seen lane).phase ≡ Idle = ap (λ q. q.phase) (sym sl) ∙ k.phase in
          let q = forgot s c (ap (λ q. q.number) (sym sl) ∙ k.number) p in
          let same : record_of 4 (J s).seen B ≡ record_of 4 (I s).seen B =
          ap (λ L. record_of 4 L B) w.seen ∙ finds_record alone 4 B (I s).seen w.found w.finds in
          record {
            some = λ y. ap is_some same ∙ q.0;
            stamp = ap stamp_in same ∙ q.1 ∙ sym (finds_stamp alone lane (I s).seen w.found w.finds) ∙ sym k.stamp ∙ sym is;
            slot_is = λ y. (ap (λ L. (slot L lane).number) w.seen ∙ k.number, ap (λ L. (slot L lane).phase) w.seen ∙ k.phase);
            others = λ n. no_way s c n;
            adds = λ y. inr p;
          }

      both : (c : is_concerned K txs s ≡ true) (n : ℕ) → stamp_at shard cs answers s ≡ n
          → ForgetAnswer alone (s, record { batch = B; cause = t }) (I s) (J s) (Ok n)
          → StampedShard 4 Idle Idle (stamp_at shard cs answers) (λ s. Forget (stamp_at shard cs answers s) B) I J s
      both c n is told = elim (told_ok alone lane false (λ L. stamp_by (next_forget L B t) (Forget (next_stamp L t) B)) (I s) (J s) n told) [
        | inl w ↦ stood c n is w
        | inr w ↦ made c n is w
      ]

      go : StampedAt (ForgetAnswer alone) (IsPartForget K txs B t) cs answers I J s
          → StampedShard 4 Idle Idle (stamp_at shard cs answers) (λ s. Forget (stamp_at shard cs answers s) B) I J s
      go (no_stamp n e) = uncalled 4 Idle Idle (stamp_at shard cs answers) (λ s. Forget (stamp_at shard cs answers s) B) I J s
          (λ c. calls.covers s c n) e (others s n) (none s (not_true (is_concerned K txs s) (λ c. calls.covers s c n)))
      go (one_stamp c h e n is told) = both (subst (λ m. is_concerned K txs m ≡ true) e h.0) n is
          (subst (λ (d : ℕ × ForgetCall). ForgetAnswer alone d (I s) (J s) (Ok n)) (λ i. (e i, h.1 i)) told)
