-- The record that a call may append is next in the journal.
use Rattle.std.proofs.Common.{◌≡◌, ℕ, suc, ◌+◌, ◌^◌, ◌≤◌, ◌<◌, Bool, true, false, ◌==◌, ◌&&◌, ◌||◌, not, nat_lt, if◌then◌else◌, List, [], ◌∷◌, ◌++◌}
use Rattle.std.proofs.Common.{length, All, Option, Some, None, refl, sym, ◌∙◌, ap, subst, arith}
use Rattle.std.proofs.lemmas.Bool.Decides.{nat_tests}
use Rattle.std.proofs.lemmas.List.Elements.{All-head, All-tail, All-cons, All-nil}
use Rattle.cbdc_types.specs.declared.calls.Refused.{Refused}
use Rattle.cbdc_model.specs.Records.{Digest, Header, Batch, Entry, Reply, Answered, Record, is_held, lock_of, Genesis, Lock, Finish, Forget, Carry}
use Rattle.cbdc_model.specs.Slots.{Phase, slot, Idle, InLock, InFinish, InPrepare, InCommit, InDiscard}
use Rattle.cbdc_model.specs.Status.{Status, status, has, held_inputs, finished_status, made_outputs, returned_inputs, taken_inputs, Unspent, Locked}
use Rattle.cbdc_model.specs.Status.{Absent}
use Rattle.cbdc_model.specs.Replies.{answered, replies, reply_to, refusal, first_reply}
use Rattle.cbdc_model.specs.Next.{Plan, RepliesAt, Append, Refuse, next_lock, next_finish, next_forget, next_stamp, lock_again, finish_again}
use Rattle.cbdc_model.specs.Next.{finish_now, finish_in, forget_in, misfit, is_idle}
use Rattle.cbdc_model.specs.Grammar.{IsHash, IsBatchOf, IsShard, IsEntry, IsReply, IsInGrammar, RisesFrom}
use Rattle.cbdc_model.specs.After.{After, FitsReplies, IsJournal}
use Rattle.shard_core.proofs.Follow.{entries_answered, fits_all}
use Rattle.shard_core.proofs.Places.{misfit_is}
use Rattle.node_journal.proofs.Journals.{in_grammar}
use Rattle.cbdc_model.specs.Calls.{PlacesRise, IsPartEntry, IsLockCall, IsFinishCall, IsForgetCall}
use Rattle.cbdc_types.specs.declared.calls.LockCall.{LockCall}
use Rattle.cbdc_types.specs.declared.calls.FinishCall.{FinishCall}
use Rattle.cbdc_types.specs.declared.calls.ForgetCall.{ForgetCall}

-- ---- Lock

-- the lane is free for the batch
pub record LockFollows (J : List Record) (b : Batch) (part : List Entry) (cause : ℕ) (a : RepliesAt) : Type 0 where
  pub idle : (slot J b.lane).phase ≡ Idle
  pub number : (slot J b.lane).number < b.number
  pub is : a ≡ record { given = replies (answered J b [] part); at = next_stamp J cause }

idle_phase : (p : Phase) → not (is_idle p) ≡ false → p ≡ Idle
idle_phase Idle e = refl
idle_phase InLock e = cc
idle_phase InFinish e = cc
idle_phase InPrepare e = cc
idle_phase InCommit e = cc
idle_phase InDiscard e = cc

again_is_none : (o : Option ℕ) (J : List Record) (b : Batch) (a : RepliesAt) → lock_again o J b ≡ Append a → ⊥
again_is_none (Some at) J b a e = cc
again_is_none None J b a e = cc

append_is : {A : Type 0} (x y : A) → Append x ≡ Append y → y ≡ x
append_is x y e = cc

-- the first of several refusals
fourth : (p q r s : Bool) (x z w : Refused) (y : Plan RepliesAt) (v a : RepliesAt) → (y ≡ Append a → ⊥)
    → (if p then Refuse x else if q then y else if r then Refuse z else if s then Refuse w else Append v) ≡ Append a
    → (p ≡ false) × (q ≡ false) × (r ≡ false) × (a ≡ v)
fourth true q r s x z w y v a never e = cc
fourth false true r s x z w y v a never e = absurd (never e)
fourth false false true s x z w y v a never e = cc
fourth false false false true x z w y v a never e = cc
fourth false false false false x z w y v a never e = (refl, refl, refl, append_is v a e)

behind : (m n : ℕ) (idle : Bool) → (nat_lt m n || ((m == n) && idle)) ≡ false → (m == n) ≡ false → n < m
behind m n idle p q =
    elim (nat_lt m n) as (λ t. nat_lt m n ≡ t → n < m) [
      | true ↦ λ e. let no : (true || ((m == n) && idle)) ≡ false = rw e at p in cc
      | false ↦ λ e. grind (arith, nat_tests)
    ] refl

pub lock_appends : (J : List Record) (b : Batch) (part : List Entry) (cause : ℕ) (a : RepliesAt) → next_lock J b part cause ≡ Append a
    → LockFollows J b part cause a
lock_appends J b part cause a e =
    let parts = fourth _ _ _ _ _ _ _ _ _ a (again_is_none _ J b a) e in
    record {
      idle = idle_phase (slot J b.lane).phase parts.2;
      number = behind b.number (slot J b.lane).number (is_idle (slot J b.lane).phase) parts.0 parts.1;
      is = parts.3;
    }

-- a batch that holds a hash is one of the ledger
holder_in : (h : Header) (J : List Record) (x : Digest) (by : Batch) → All (IsInGrammar h) J → status J x ≡ Locked by → IsBatchOf h.shape by
holder_in h [] x by all e = cc
holder_in h (Genesis header hs ∷ J) x by all e =
    elim (has hs x) as (λ t. has hs x ≡ t → IsBatchOf h.shape by) [
      | true ↦ λ t. let no : Unspent ≡ Locked by = rw t at e in cc
      | false ↦ λ t. holder_in h J x by (All-tail (IsInGrammar h) (Genesis header hs) J all) (rw t at e)
    ] refl
holder_in h (Carry stamp header source hs numbers ∷ J) x by all e =
    elim (has hs x) as (λ t. has hs x ≡ t → IsBatchOf h.shape by) [
      | true ↦ λ t. let no : Unspent ≡ Locked by = rw t at e in cc
      | false ↦ λ t. holder_in h J x by (All-tail (IsInGrammar h) (Carry stamp header source hs numbers) J all) (rw t at e)
    ] refl
holder_in h (Lock stamp b es ∷ J) x by all e =
    elim (has (held_inputs es) x) as (λ t. has (held_inputs es) x ≡ t → IsBatchOf h.shape by) [
      | true ↦ λ t. let is : Locked b ≡ Locked by = rw t at e in let same : b ≡ by = (cc) in
          subst (IsBatchOf h.shape) same (All-head (IsInGrammar h) (Lock stamp b es) J all).1
      | false ↦ λ t. holder_in h J x by (All-tail (IsInGrammar h) (Lock stamp b es) J all) (rw t at e)
    ] refl
holder_in h (Finish stamp b ds ∷ J) x by all e = holder_in h J x by (All-tail (IsInGrammar h) (Finish stamp b ds) J all)
    (before (lock_of J b) ds x (status J x) by e)
  where
    before : (es : List Answered) (ds : List Bool) (x : Digest) (s : Status) (by : Batch) → finished_status es ds x s ≡ Locked by → s ≡ Locked by
    before es ds x s by e = cases (has (made_outputs es ds) x) (has (returned_inputs es ds) x) (has (taken_inputs es ds) x) s by e
      where
        cases : (p q r : Bool) (s : Status) (by : Batch) → (if p then Unspent else if q then Unspent else if r then Absent else s) ≡ Locked by
            → s ≡ Locked by
        cases true q r s by e = cc
        cases false true r s by e = cc
        cases false false true s by e = cc
        cases false false false s by e = e
holder_in h (other ∷ J) x by all e = holder_in h J x by (All-tail (IsInGrammar h) other J all) e

refusal_fits : (h : Header) (s : Status) (x : Digest) (claimed : Bool) (b : Batch) (rest : Reply)
    → ((by : Batch) → s ≡ Locked by → IsBatchOf h.shape by) → IsHash x → IsBatchOf h.shape b → IsReply h.shape rest
    → IsReply h.shape (first_reply (refusal s x claimed b) rest)
refusal_fits h Unspent x true b rest held hash own more = (hash, own)
refusal_fits h Unspent x false b rest held hash own more = more
refusal_fits h (Locked by) x claimed b rest held hash own more = (hash, held by refl)
refusal_fits h Absent x claimed b rest held hash own more = hash

reply_fits : (h : Header) (J : List Record) (b : Batch) (claimed xs : List Digest) → All (IsInGrammar h) J → IsBatchOf h.shape b → All IsHash xs
    → IsReply h.shape (reply_to J b claimed xs)
reply_fits h J b claimed [] all own hashes = tt
reply_fits h J b claimed (x ∷ xs) all own hashes =
    refusal_fits h (status J x) x (has claimed x) b (reply_to J b claimed xs) (λ by e. holder_in h J x by all e) (All-head IsHash x xs hashes) own
    (reply_fits h J b claimed xs all own (All-tail IsHash x xs hashes))

entries_fit : (h : Header) (J : List Record) (b : Batch) (claimed : List Digest) (es : List Entry) → All (IsInGrammar h) J → IsBatchOf h.shape b
    → All (IsPartEntry h) es → All (IsEntry h.shape h.node) (answered J b claimed es)
entries_fit h J b claimed [] all own es = All-nil (IsEntry h.shape h.node)
entries_fit h J b claimed (e ∷ es) all own parts =
    let one = All-head (IsPartEntry h) e es parts in
    let r : Reply = reply_to J b claimed e.inputs in
    All-cons (IsEntry h.shape h.node) (record { entry = e; reply = r }) (answered J b (if is_held r then e.inputs ++ claimed else claimed) es)
    (record {
      id = one.id;
      inputs = one.inputs;
      outputs = one.outputs;
      some = one.some;
      inputs_here = one.inputs_here;
      outputs_here = one.outputs_here;
      reply = reply_fits h J b claimed e.inputs all own one.inputs.1;
    }) (entries_fit h J b (if is_held r then e.inputs ++ claimed else claimed) es all own (All-tail (IsPartEntry h) e es parts))

places_fit : (J : List Record) (b : Batch) (claimed : List Digest) (low limit : ℕ) (es : List Entry) → PlacesRise low limit es
    → RisesFrom low limit (answered J b claimed es)
places_fit J b claimed low limit [] rise = tt
places_fit J b claimed low limit (e ∷ es) rise =
    (rise.0, rise.1, places_fit J b (if is_held (reply_to J b claimed e.inputs) then e.inputs ++ claimed else claimed) (e.place + 1) limit es rise.2)

length-answered : (J : List Record) (b : Batch) (claimed : List Digest) (es : List Entry) → length (answered J b claimed es) ≡ length es
length-answered J b claimed [] = refl
length-answered J b claimed (e ∷ es) = ap (λ n. suc n)
    (length-answered J b (if is_held (reply_to J b claimed e.inputs) then e.inputs ++ claimed else claimed) es)

pub length_answered : (J : List Record) (b : Batch) (es : List Entry) → length (answered J b [] es) ≡ length es
length_answered J b es = length-answered J b [] es

-- the Lock of a call that may be locked is next
pub lock_after : (h : Header) (J : List Record) (c : LockCall) → IsJournal h J → IsShard h.shape h.node → IsLockCall h c
    → (slot J c.batch.lane).phase ≡ Idle → (slot J c.batch.lane).number < c.batch.number
    → next_stamp J c.cause ≤ 2 ^ 62 → After h J (Lock (next_stamp J c.cause) c.batch (answered J c.batch [] c.part))
lock_after h J c journal shard call idle number early =
    let all = in_grammar h J journal in
    let len : length (answered J c.batch [] c.part) ≡ length c.part = length_answered J c.batch c.part in (
      (
        (omega arith, early),
        call.batch,
        shard,
        (omega (arith, len, call.size.0), omega (arith, len, call.size.1)),
        places_fit J c.batch [] 0 h.shape.batch c.part call.places,
        entries_fit h J c.batch [] c.part all call.batch call.entries,
      ),
      (omega arith, idle, number, ap (λ es. answered J c.batch [] es) (sym (entries_answered c.part J c.batch []))),
    )

-- ---- Finish

pub record FinishFollows (J : List Record) (b : Batch) (ds : List Bool) (cause t : ℕ) : Type 0 where
  pub locked : (slot J b.lane).phase ≡ InLock
  pub number : (slot J b.lane).number ≡ b.number
  pub fits : FitsReplies (lock_of J b) ds
  pub is : t ≡ next_stamp J cause

third : {A : Type 0} (p q : Bool) (x y : Refused) (z : Plan A) (a : A) → (if p then Refuse x else if q then Refuse y else z) ≡ Append a
    → (p ≡ false) × (q ≡ false) × (z ≡ Append a)
third true q x y z a e = cc
third false true x y z a e = cc
third false false x y z a e = (refl, refl, e)

again_no : (o : Option ℕ) (J : List Record) (b : Batch) (t : ℕ) → finish_again o J b ≡ Append t → ⊥
again_no (Some at) J b t e = cc
again_no None J b t e = cc

now_is : (o : Option ℕ) (J : List Record) (lane cause t : ℕ) → finish_now o J lane cause ≡ Append t → (o ≡ None) × (t ≡ next_stamp J cause)
now_is (Some at) J lane cause t e = cc
now_is None J lane cause t e = (refl, early _ _ _ t e)
  where
    early : (p : Bool) (x : Refused) (v t : ℕ) → (if p then Refuse x else Append v) ≡ Append t → t ≡ v
    early true x v t e = cc
    early false x v t e = append_is v t e

in_phase : (p : Phase) (J : List Record) (b : Batch) (ds : List Bool) (cause t : ℕ) → finish_in p J b ds cause ≡ Append t
    → (p ≡ InLock) × (misfit (lock_of J b) ds ≡ None) × (t ≡ next_stamp J cause)
in_phase Idle J b ds cause t e = cc
in_phase InLock J b ds cause t e = let now = now_is (misfit (lock_of J b) ds) J b.lane cause t e in (refl, now.0, now.1)
in_phase InFinish J b ds cause t e = absurd (again_no _ J b t e)
in_phase InPrepare J b ds cause t e = cc
in_phase InCommit J b ds cause t e = cc
in_phase InDiscard J b ds cause t e = cc

same_number : (m n : ℕ) (idle : Bool) → (nat_lt m n || ((m == n) && idle)) ≡ false → nat_lt n m ≡ false → n ≡ m
same_number m n idle p q =
    elim (nat_lt m n) as (λ t. nat_lt m n ≡ t → n ≡ m) [
      | true ↦ λ e. let no : (true || ((m == n) && idle)) ≡ false = rw e at p in cc
      | false ↦ λ e. grind (arith, nat_tests)
    ] refl

pub finish_appends : (J : List Record) (b : Batch) (ds : List Bool) (cause t : ℕ) → next_finish J b ds cause ≡ Append t → FinishFollows J b ds cause t
finish_appends J b ds cause t e =
    let parts = third _ _ _ _ _ t e in
    let phase = in_phase (slot J b.lane).phase J b ds cause t parts.2 in
    record {
      locked = phase.0;
      number = same_number b.number (slot J b.lane).number (is_idle (slot J b.lane).phase) parts.0 parts.1;
      fits = fits_all (lock_of J b) ds (sym (misfit_is (lock_of J b) ds) ∙ phase.1);
      is = phase.2;
    }

pub fits_length : (es : List Answered) (ds : List Bool) → FitsReplies es ds → length ds ≡ length es
fits_length [] [] fits = refl
fits_length [] (d ∷ ds) fits = absurd fits
fits_length (a ∷ es) [] fits = absurd fits
fits_length (a ∷ es) (d ∷ ds) fits = ap (λ n. suc n) (fits_length es ds fits.1)

pub finish_after : (h : Header) (J : List Record) (c : FinishCall) (t : ℕ) → IsShard h.shape h.node → IsFinishCall h c
    → FinishFollows J c.batch c.decisions c.cause t → t ≤ 2 ^ 62 + 2 ^ 20 → After h J (Finish t c.batch c.decisions)
finish_after h J c t shard call next late = (
  (((omega (arith, next.is)), late), call.batch, shard, call.size),
  (omega (arith, next.is), next.locked, next.number, next.fits),
)

-- ---- Forget

pub record ForgetFollows (J : List Record) (b : Batch) (cause t : ℕ) : Type 0 where
  pub finished : (slot J b.lane).phase ≡ InFinish
  pub number : (slot J b.lane).number ≡ b.number
  pub is : t ≡ next_stamp J cause

forget_phase : (p : Phase) (J : List Record) (b : Batch) (cause t : ℕ) → forget_in p J b cause ≡ Append t → (p ≡ InFinish) × (t ≡ next_stamp J cause)
forget_phase Idle J b cause t e = cc
forget_phase InLock J b cause t e = cc
forget_phase InFinish J b cause t e = (refl, early _ _ _ t e)
  where
    early : (p : Bool) (x : Refused) (v t : ℕ) → (if p then Refuse x else Append v) ≡ Append t → t ≡ v
    early true x v t e = cc
    early false x v t e = append_is v t e
forget_phase InPrepare J b cause t e = cc
forget_phase InCommit J b cause t e = cc
forget_phase InDiscard J b cause t e = cc

neither : (m n : ℕ) → nat_lt m n ≡ false → nat_lt n m ≡ false → n ≡ m
neither m n p q = grind (arith, nat_tests)

pub forget_appends : (J : List Record) (b : Batch) (cause t : ℕ) → next_forget J b cause ≡ Append t → ForgetFollows J b cause t
forget_appends J b cause t e =
    let parts = third _ _ _ _ _ t e in
    let phase = forget_phase (slot J b.lane).phase J b cause t parts.2 in
    record { finished = phase.0; number = neither b.number (slot J b.lane).number parts.0 parts.1; is = phase.1 }

pub forget_after : (h : Header) (J : List Record) (c : ForgetCall) (t : ℕ) → IsShard h.shape h.node → IsForgetCall h c
    → ForgetFollows J c.batch c.cause t → t ≤ 2 ^ 62 + 2 ^ 20 → After h J (Forget t c.batch)
forget_after h J c t shard call next late = (
  (((omega (arith, next.is)), late), call.batch, shard),
  (omega (arith, next.is), next.finished, next.number),
)
