-- What a shard with a journal answers to a call: the record that it appends, what it answered before, or why it refuses.
use Rattle.std.specs.Prelude.{ℕ, suc, max, Bool, true, false, ◌&&◌, ◌||◌, not, ◌==◌, nat_lt, List, [], ◌∷◌, if◌then◌else◌, Option, Some, None}
use Rattle.std.specs.Prelude.{option_map}
use Rattle.cbdc_types.specs.declared.calls.Refused.{Refused}
use Rattle.cbdc_types.specs.declared.calls.Refused.TheVariants.{Stale, LaneOpen, NotLocked, NotFinished, OtherPart, OtherOutcome, EarlyStamp}
use Rattle.cbdc_model.specs.Records.{Digest, same_digest, Batch, Entry, Reply, Answered, Record, record_of, lock_of, decisions_in, stamp_in, is_held}
use Rattle.cbdc_model.specs.Records.{last_stamp, lock_kind, finish_kind}
use Rattle.cbdc_model.specs.Slots.{Phase, slot, slot_stamp, Idle, InLock, InFinish, InPrepare, InCommit, InDiscard}
use Rattle.cbdc_model.specs.Replies.{answered, entries, replies}

-- what is answered: kept from before, with a new record, or a refusal
pub data Plan (A : Type 0) : Type 0 where
  Kept : (answer : A) → Plan A
  Append : (answer : A) → Plan A
  Refuse : (why : Refused) → Plan A

-- the first place at which two lists disagree, or the shorter length; none where they are the same
abbrev pub difference : {A : Type 0} → (A → A → Bool) → List A → List A → Option ℕ
difference same [] [] = None
difference same [] (y ∷ ys) = Some 0
difference same (x ∷ xs) [] = Some 0
difference same (x ∷ xs) (y ∷ ys) = if same x y then option_map (λ n. suc n) (difference same xs ys) else Some 0

-- whether two lists of hashes are the same
abbrev pub same_digests : List Digest → List Digest → Bool
same_digests [] [] = true
same_digests [] (y ∷ ys) = false
same_digests (x ∷ xs) [] = false
same_digests (x ∷ xs) (y ∷ ys) = same_digest x y && same_digests xs ys

-- whether two entries are the same
abbrev pub same_entry : Entry → Entry → Bool
same_entry e f = (e.place == f.place) && (same_digest e.id f.id && (same_digests e.inputs f.inputs && same_digests e.outputs f.outputs))

-- whether two decisions are the same
abbrev pub same_decision : Bool → Bool → Bool
same_decision true d = d
same_decision false d = not d

-- whether a phase is Idle
abbrev pub is_idle : Phase → Bool
is_idle Idle = true
is_idle InLock = false
is_idle InFinish = false
is_idle InPrepare = false
is_idle InCommit = false
is_idle InDiscard = false

-- one more than the greatest of the node's last stamp and the cause's
abbrev pub next_stamp : List Record → ℕ → ℕ
next_stamp J cause = suc (max (last_stamp J) cause)

-- the replies to a part, and the stamp of the Lock that keeps them
pub record RepliesAt : Type 0 where
  pub given : List Reply
  pub at : ℕ

-- the answer to a Lock of a batch that is locked or finished: as before for the same part, else where the parts differ
abbrev pub lock_again : Option ℕ → List Record → Batch → Plan RepliesAt
lock_again (Some at) J b = Refuse (OtherPart at)
lock_again None J b = Kept (record { given = replies (lock_of J b); at = stamp_in (record_of lock_kind J b) })

-- Lock: an older number is stale, and so is the same one once forgotten; the same number is answered as before, and refused with another part;
-- an open lane refuses a newer one, and so does a cause that is not above the stamp of the lane's last record
abbrev pub next_lock : List Record → Batch → List Entry → ℕ → Plan RepliesAt
next_lock J b part cause =
    let s = slot J b.lane in
    if nat_lt b.number s.number || ((b.number == s.number) && is_idle s.phase) then Refuse (Stale s.number) else
    if b.number == s.number then lock_again (difference same_entry (entries (lock_of J b)) part) J b else
    if not (is_idle s.phase) then Refuse (LaneOpen s.number) else
    if not (nat_lt (slot_stamp J b.lane) cause) then Refuse (EarlyStamp (slot_stamp J b.lane)) else
    Append (record { given = replies (answered J b [] part); at = next_stamp J cause })

-- the first place at which decisions don't fit replies: a commit at an entry that isn't Held, or the shorter length
abbrev pub misfit : List Answered → List Bool → Option ℕ
misfit [] [] = None
misfit [] (d ∷ ds) = Some 0
misfit (a ∷ es) [] = Some 0
misfit (a ∷ es) (d ∷ ds) = if d && not (is_held a.reply) then Some 0 else option_map (λ n. suc n) (misfit es ds)

-- the answer to a Finish of a batch that is finished: as before for the same decisions, else where they differ
abbrev pub finish_again : Option ℕ → List Record → Batch → Plan ℕ
finish_again (Some at) J b = Refuse (OtherOutcome at)
finish_again None J b = Kept (stamp_in (record_of finish_kind J b))

-- the answer to a Finish of a locked batch: other decisions than the part allows and an early cause refuse
abbrev pub finish_now : Option ℕ → List Record → ℕ → ℕ → Plan ℕ
finish_now (Some at) J lane cause = Refuse (OtherOutcome at)
finish_now None J lane cause = if not (nat_lt (slot_stamp J lane) cause) then Refuse (EarlyStamp (slot_stamp J lane)) else Append (next_stamp J cause)

-- the answer to a Finish of the lane's batch, by its phase
abbrev pub finish_in : Phase → List Record → Batch → List Bool → ℕ → Plan ℕ
finish_in InFinish J b ds cause = finish_again (difference same_decision (decisions_in (record_of finish_kind J b)) ds) J b
finish_in InLock J b ds cause = finish_now (misfit (lock_of J b) ds) J b.lane cause
finish_in other J b ds cause = Refuse (NotLocked (slot J b.lane).number)

-- Finish: an older number is stale, and so is the same one once forgotten; a newer one is not locked; a finished batch answers the same decisions
-- as before and refuses others; a locked one takes as many decisions as entries, commit only for Held, and a cause above the stamp of the lane's
-- last record
abbrev pub next_finish : List Record → Batch → List Bool → ℕ → Plan ℕ
next_finish J b ds cause =
    let s = slot J b.lane in
    if nat_lt b.number s.number || ((b.number == s.number) && is_idle s.phase) then Refuse (Stale s.number) else
    if nat_lt s.number b.number then Refuse (NotLocked s.number) else
    finish_in s.phase J b ds cause

-- the answer to a Forget of the lane's batch, by its phase
abbrev pub forget_in : Phase → List Record → Batch → ℕ → Plan ℕ
forget_in Idle J b cause = Kept (slot_stamp J b.lane)
forget_in InFinish J b cause = if not (nat_lt (slot_stamp J b.lane) cause) then Refuse (EarlyStamp (slot_stamp J b.lane))
    else Append (next_stamp J cause)
forget_in other J b cause = Refuse (NotFinished b.number)

-- Forget: an older number is stale, a newer one not locked; a forgotten batch answers as before; a locked one is not finished; a finished one takes
-- a cause above the stamp of the lane's last record
abbrev pub next_forget : List Record → Batch → ℕ → Plan ℕ
next_forget J b cause =
    let s = slot J b.lane in
    if nat_lt b.number s.number then Refuse (Stale s.number) else
    if nat_lt s.number b.number then Refuse (NotLocked s.number) else
    forget_in s.phase J b cause
