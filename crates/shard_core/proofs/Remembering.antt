-- What the slots remember of a transaction.
use Rattle.std.proofs.Common.{◌≡◌, ℕ, zero, suc, ◌<◌, ◌≤◌, Bool, true, false, ◌||◌, List, [], ◌∷◌, length, get_or, drop, min, Option, Some, None}
use Rattle.std.proofs.Common.{is_some, if◌then◌else◌, arith, refl, ap, sym, ◌∙◌, subst}
use Rattle.cbdc_model.specs.Records.{Digest, Record, Entry, Reply, Answered, lock_of, record_of, decisions_in, same_digest}
use Rattle.cbdc_model.specs.Slots.{slot, Phase, Idle, InLock, InFinish}
use Rattle.cbdc_model.specs.Replies.{entries}
use Rattle.cbdc_model.specs.Fates.{Fate, names, decided_fate, fate_in, lane_fate, fate_below, Waiting, Committed, Rejected}
use Rattle.shard_core.specs.Remembers.{has_id, fate_of, told_fate, as_fate}
use Rattle.shard_core.specs.declared.plans.Remembered.{Remembered}
use Rattle.shard_core.specs.Slots.{SlotStands, batch_numbered}
use Rattle.shard_core.proofs.Applies.{Yes, No, same_nat}
use Rattle.shard_core.specs.declared.slots.LaneSlot.TheVariants.{Idle as Free, Locked as Taken, Finished}

has_id-entries : (es : List Answered) (id : Digest) → has_id (entries es) id ≡ names es id
has_id-entries [] id = refl
has_id-entries (a ∷ es) id = ap (λ c. same_digest a.entry.id id || c) (has_id-entries es id)

fate_of-entries : (es : List Answered) (ds : List Bool) (id : Digest) → fate_of (entries es) ds id ≡ decided_fate es ds id
fate_of-entries [] ds id = refl
fate_of-entries (a ∷ es) [] id = refl
fate_of-entries (a ∷ es) (d ∷ ds) id = ap (λ f. if same_digest a.entry.id id then Some (if d then Committed else Rejected) else f)
    (fate_of-entries es ds id)

fate_at : (J : List Record) (lane n : ℕ) (p : Phase) (id : Digest) → slot J lane ≡ record { number = n; phase = p }
    → lane_fate J id lane ≡ fate_in p J (batch_numbered lane n) id
fate_at J lane n p id e = rw e refl

pub free_fate : (J : List Record) (lane n t : ℕ) (id : Digest) → SlotStands (Free n t) J lane → lane_fate J id lane ≡ None
free_fate J lane n t id s = fate_at J lane n Idle id s.0

pub taken_fate : (J : List Record) (lane n t : ℕ) (part : List Entry) (rs : List Reply) (id : Digest) → SlotStands (Taken n part rs t) J lane
    → lane_fate J id lane ≡ (if has_id part id then Some Waiting else None)
taken_fate J lane n t part rs id s =
    let same : names (lock_of J (batch_numbered lane n)) id ≡ has_id part id =
    sym (has_id-entries (lock_of J (batch_numbered lane n)) id) ∙ ap (λ es. has_id es id) s.2 in
    fate_at J lane n InLock id s.0 ∙ ap (λ c. if c then Some Waiting else None) same

pub finished_fate : (J : List Record) (lane n t u : ℕ) (part : List Entry) (rs : List Reply) (ds : List Bool) (id : Digest)
    → SlotStands (Finished n part rs ds t u) J lane
    → lane_fate J id lane ≡ fate_of part ds id
finished_fate J lane n t u part rs ds id s =
    fate_at J lane n InFinish id s.0
    ∙ sym (fate_of-entries (lock_of J (batch_numbered lane n)) (decisions_in (record_of 3 J (batch_numbered lane n))) id)
    ∙ ap (λ es. fate_of es (decisions_in (record_of 3 J (batch_numbered lane n))) id) s.2
    ∙ ap (λ xs. fate_of part xs id) s.5

-- the least lane that remembers it decides
fate_first : (J : List Record) (id : Digest) (n k : ℕ) (f : Fate) → k < n → fate_below J id k ≡ None → lane_fate J id k ≡ Some f
    → fate_below J id n ≡ Some f
fate_first J id zero k f lt none some = absurd (omega arith)
fate_first J id (suc n) k f lt none some =
    elim (same_nat k n) [
      | Yes e ↦
          let before : fate_below J id n ≡ None = subst (λ (m : ℕ). fate_below J id m ≡ None) e none in
          let here : lane_fate J id n ≡ Some f = subst (λ (m : ℕ). lane_fate J id m ≡ Some f) e some in
          rw (before, here) refl
      | No ne ↦ let before = fate_first J id n k f (omega arith) none some in rw before refl
    ]

-- the entries one by one
fate_past : (es : List Entry) (id : Digest) → fate_of es [] id ≡ None
fate_past [] id = refl
fate_past (e ∷ es) id = refl

pub fate_next : (es : List Entry) (ds : List Bool) (id : Digest) (i : ℕ) (e : Entry) → i < length es → i < length ds → e ≡ get_or es i e
    → same_digest e.id id ≡ false
    → fate_of (drop i es) (drop i ds) id ≡ fate_of (drop (suc i) es) (drop (suc i) ds) id
fate_next [] ds id i e lt few is other = absurd (omega arith)
fate_next (x ∷ es) [] id i e lt few is other = absurd (omega arith)
fate_next (x ∷ es) (d ∷ ds) id zero e lt few is other =
    let not_here : same_digest x.id id ≡ false = ap (λ (y : Entry). same_digest y.id id) (sym is) ∙ other in rw not_here refl
fate_next (x ∷ es) (d ∷ ds) id (suc i) e lt few is other = fate_next es ds id i e (omega arith) (omega arith) is other

pub fate_end : (es : List Entry) (ds : List Bool) (id : Digest) (n : ℕ) → min (length es) (length ds) ≤ n → fate_of (drop n es) (drop n ds) id ≡ None
fate_end [] ds id zero le = refl
fate_end [] ds id (suc n) le = refl
fate_end (x ∷ es) [] id zero le = refl
fate_end (x ∷ es) [] id (suc n) le = fate_past (drop n es) id
fate_end (x ∷ es) (d ∷ ds) id zero le = absurd (omega arith)
fate_end (x ∷ es) (d ∷ ds) id (suc n) le = fate_end es ds id n (omega arith)

pub waiting_if : (o : Option Fate) (b : Bool) → o ≡ (if b then Some Waiting else None) → b ≡ true → Some Waiting ≡ o
waiting_if o true h e = sym h
waiting_if o false h e = cc

pub waiting_unless : (o : Option Fate) (b : Bool) → o ≡ (if b then Some Waiting else None) → b ≡ false → None ≡ o
waiting_unless o true h e = cc
waiting_unless o false h e = sym h

-- what the first lane that remembers it tells
pub fate_told : (J : List Record) (id : Digest) (n k : ℕ) (r : Option Remembered) → k < n → fate_below J id k ≡ None → told_fate r ≡ lane_fate J id k
    → is_some r ≡ true
    → told_fate r ≡ fate_below J id n
fate_told J id n k None lt none here some = cc
fate_told J id n k (Some x) lt none here some = sym (fate_first J id n k (as_fate x) lt none (sym here))
