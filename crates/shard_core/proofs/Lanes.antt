-- What a record leaves of the lanes' slots.
use Rattle.std.proofs.Common.{◌≡◌, ◌≢◌, ℕ, zero, suc, List, [], ◌∷◌, Bool, true, false, ◌==◌, Some, slice_get, set, arith, refl, ap, sym, ◌∙◌, subst}
use Rattle.std.proofs.lemmas.Bool.Decides.{nat_tests}
use Rattle.cbdc_model.specs.Records.{Batch, Record, Entry, Reply, Answered, Lock, Finish, Forget}
use Rattle.cbdc_model.specs.Replies.{replies, entries}
use Rattle.shard_core.specs.declared.slots.LaneSlot.{LaneSlot}
use Rattle.shard_core.specs.declared.slots.LaneSlot.TheVariants.{Idle as Free, Locked as Taken, Finished}
use Rattle.shard_core.specs.Slots.{SlotStands}

pub get_set_same : {A : Type 0} (xs : List A) (i : ℕ) (v s : A) → slice_get (set xs i v) i ≡ Some s → s ≡ v
get_set_same [] i v s h = cc
get_set_same (x ∷ xs) zero v s h = cc
get_set_same (x ∷ xs) (suc i) v s h = get_set_same xs i v s h

pub get_set_other : {A : Type 0} (xs : List A) (i j : ℕ) (v : A) → i ≢ j → slice_get (set xs i v) j ≡ slice_get xs j
get_set_other [] i j v h = refl
get_set_other (x ∷ xs) zero zero v h = absurd (h refl)
get_set_other (x ∷ xs) zero (suc j) v h = refl
get_set_other (x ∷ xs) (suc i) zero v h = refl
get_set_other (x ∷ xs) (suc i) (suc j) v h = get_set_other xs i j v (λ e. h (ap (λ n. suc n) e))

-- what the journal says of each lane is what its slot has
abbrev pub LanesStand : List LaneSlot → List Record → Type 0
LanesStand slots J = (lane : ℕ) (s : LaneSlot) → slice_get slots lane ≡ Some s → SlotStands s J lane

other_forget : (s : LaneSlot) (J : List Record) (stamp : ℕ) (b : Batch) (lane : ℕ) → (b.lane == lane) ≡ false → SlotStands s J lane
    → SlotStands s (Forget stamp b ∷ J) lane
other_forget (Free n t) J stamp b lane e h = rw e h
other_forget (Taken n part rs t) J stamp b lane e h = rw e h
other_forget (Finished n part rs ds t u) J stamp b lane e h = rw e h

other_lock : (s : LaneSlot) (J : List Record) (stamp : ℕ) (b : Batch) (es : List Answered) (lane : ℕ) → (b.lane == lane) ≡ false
    → SlotStands s J lane → SlotStands s (Lock stamp b es ∷ J) lane
other_lock (Free n t) J stamp b es lane e h = rw e h
other_lock (Taken n part rs t) J stamp b es lane e h = rw e h
other_lock (Finished n part rs ds t u) J stamp b es lane e h = rw e h

other_finish : (s : LaneSlot) (J : List Record) (stamp : ℕ) (b : Batch) (kept : List Bool) (lane : ℕ) → (b.lane == lane) ≡ false
    → SlotStands s J lane → SlotStands s (Finish stamp b kept ∷ J) lane
other_finish (Free n t) J stamp b kept lane e h = rw e h
other_finish (Taken n part rs t) J stamp b kept lane e h = rw e h
other_finish (Finished n part rs ds t u) J stamp b kept lane e h = rw e h

-- a record of a lane puts its slot in the lane's place, and leaves the others
put_stands : (slots : List LaneSlot) (J K : List Record) (at : ℕ) (new : LaneSlot) → LanesStand slots J → SlotStands new K at
    → ((s : LaneSlot) (lane : ℕ) → (at == lane) ≡ false → SlotStands s J lane → SlotStands s K lane) → LanesStand (set slots at new) K
put_stands slots J K at new old here others lane s g =
    elim (at == lane) as (λ c. (at == lane) ≡ c → SlotStands s K lane) [
      | true ↦ λ e.
          let same : at ≡ lane = grind (arith, nat_tests) in
          let is : s ≡ new = get_set_same slots at new s (subst (λ (k : ℕ). slice_get (set slots at new) k ≡ Some s) (sym same) g) in
          subst (λ (k : ℕ). SlotStands s K k) same (subst (λ (v : LaneSlot). SlotStands v K at) (sym is) here)
      | false ↦ λ e.
          let apart : at ≢ lane = grind (arith, nat_tests) in
          others s lane e (old lane s (sym (get_set_other slots at lane new apart) ∙ g))
    ] refl

same_lane : (n : ℕ) → (n == n) ≡ true
same_lane n = grind (arith, nat_tests)

pub forget_stands : (slots : List LaneSlot) (J : List Record) (stamp : ℕ) (b : Batch) → LanesStand slots J
    → LanesStand (set slots b.lane (Free b.number stamp)) (Forget stamp b ∷ J)
forget_stands slots J stamp b old =
    put_stands slots J (Forget stamp b ∷ J) b.lane (Free b.number stamp) old (let e = same_lane b.lane in rw e (refl, refl))
    (λ s lane e h. other_forget s J stamp b lane e h)

pub lock_stands : (slots : List LaneSlot) (J : List Record) (stamp : ℕ) (b : Batch) (es : List Answered) (part : List Entry) (rs : List Reply)
    → LanesStand slots J
    → entries es ≡ part → replies es ≡ rs → LanesStand (set slots b.lane (Taken b.number part rs stamp)) (Lock stamp b es ∷ J)
lock_stands slots J stamp b es part rs old p r =
    put_stands slots J (Lock stamp b es ∷ J) b.lane (Taken b.number part rs stamp) old
    (let e = same_lane b.lane in let n = same_lane b.number in rw (e, n) (refl, refl, p, r, refl))
    (λ s lane e h. other_lock s J stamp b es lane e h)

pub finish_stands : (slots : List LaneSlot) (J : List Record) (stamp : ℕ) (b : Batch) (ds : List Bool) (part : List Entry) (rs : List Reply) (t : ℕ)
    → LanesStand slots J
    → SlotStands (Taken b.number part rs t) J b.lane → LanesStand (set slots b.lane (Finished b.number part rs ds t stamp)) (Finish stamp b ds ∷ J)
finish_stands slots J stamp b ds part rs t old s =
    put_stands slots J (Finish stamp b ds ∷ J) b.lane (Finished b.number part rs ds t stamp) old
    (let e = same_lane b.lane in let n = same_lane b.number in rw (e, n) (refl, refl, s.2, s.3, s.4, refl, refl))
    (λ s lane e h. other_finish s J stamp b ds lane e h)
