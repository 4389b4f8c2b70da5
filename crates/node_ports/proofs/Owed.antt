-- What an answer of a coordinator says of its journal.
use Rattle.std.proofs.Common.{◌≡◌, ℕ, ◌+◌, ◌≤◌, Bool, true, false, List, ◌∷◌, refl, ap, ◌∙◌, inl, inr, Some, None, Option, Result, Ok, Err}
use Rattle.std.specs.Prelude.{nat_lt, IfErr, OnOk}
use Rattle.std.proofs.lemmas.Bool.{ltb-false}
use Rattle.cbdc_types.specs.declared.calls.NodeFault.{NodeFault}
use Rattle.cbdc_types.specs.declared.calls.NodeFault.TheVariants.{Broken, Refused as Refuses, ClockEnd, Full, DiskFault, Memory}
use Rattle.cbdc_model.specs.Records.{Record}
use Rattle.cbdc_model.specs.Due.{Due, Answers, Writes, unless_broken, if_early, if_room}
use Rattle.cbdc_model.specs.Sights.{Sight, IsSameNode, Meets, MeetsFault}
use Rattle.lane_driver.specs.Told.{IsStillNode}

-- whatever it answered, it is the same node
pub meets_same_node : {A : Type 0} (m : Bool) (due : Due A) (old new : Sight) (J : List Record) (result : Result A NodeFault)
    → Meets m due old new J result → IsSameNode old new
meets_same_node m due old new J (Ok a) (inl (e, stays)) = stays.node
meets_same_node m due old new J (Ok a) (inr (r, e, appends)) = appends.node
meets_same_node m due old new J (Err DiskFault) told = told.3.node
meets_same_node m due old new J (Err Memory) told = told.1.node
meets_same_node m due old new J (Err (Broken since)) told = told.1.node
meets_same_node m due old new J (Err (Refuses why)) told = told.1.node
meets_same_node m due old new J (Err (ClockEnd stamp)) told = told.1.node
meets_same_node m due old new J (Err (Full used need capacity)) told = told.1.node

-- a node at which an append has failed writes nothing
still_flying : {A : Type 0} (m : Bool) (broken : Option ℕ) (due : Due A) (old new : Sight) (result : Result A NodeFault) (r : Record)
    → Meets m (unless_broken broken due) old new old.seen result
    → (broken ≡ None → old.flight ≡ None) → old.flight ≡ Some r → (new.flight ≡ Some r) × (new.seen ≡ old.seen)
still_flying m None due old new result r meets landed is = let none : old.flight ≡ None = landed refl in cc
still_flying m (Some since) due old new (Ok a) r (inl (e, stays)) landed is = cc
still_flying m (Some since) due old new (Ok a) r (inr (q, e, appends)) landed is = cc
still_flying m (Some since) due old new (Err DiskFault) r (a, q, e, fails) landed is = cc
still_flying m (Some since) due old new (Err Memory) r (e, stays) landed is = (stays.flight ∙ is, stays.seen)
still_flying m (Some since) due old new (Err (Broken s)) r (e, stays) landed is = (stays.flight ∙ is, stays.seen)
still_flying m (Some since) due old new (Err (Refuses why)) r (e, stays) landed is = (stays.flight ∙ is, stays.seen)
still_flying m (Some since) due old new (Err (ClockEnd stamp)) r (e, stays) landed is = (stays.flight ∙ is, stays.seen)
still_flying m (Some since) due old new (Err (Full used need capacity)) r (e, stays) landed is = (stays.flight ∙ is, stays.seen)

-- so a record in flight stays so
pub still_node : {A : Type 0} (m : Bool) (broken : Option ℕ) (due : Due A) (old new : Sight) (result : Result A NodeFault)
    → Meets m (unless_broken broken due) old new old.seen result → (broken ≡ None → old.flight ≡ None)
    → IsStillNode old new
still_node m broken due old new result meets landed =
    let same : IsSameNode old new = meets_same_node m (unless_broken broken due) old new old.seen result meets in
    record {
      header = same.header;
      opened = same.opened;
      capacity = same.capacity;
      later = same.later;
      flying = λ r is. still_flying m broken due old new result r meets landed is;
    }

-- where it is known of faults alone what was owed
pub still_decided : {A : Type 0} (m : Bool) (broken : Option ℕ) (due : Record → Due A) (old new : Sight) (result : Result A NodeFault)
    → IsSameNode old new
    → IfErr result (λ f. (r : Record) × MeetsFault m (unless_broken broken (due r)) old new old.seen f) → OnOk result (broken ≡ None)
    → (broken ≡ None → old.flight ≡ None) → IsStillNode old new
still_decided {A} m broken due old new result same fault whole landed =
    record { header = same.header; opened = same.opened; capacity = same.capacity; later = same.later; flying = λ r is. go result r fault whole is }
  where
    go : (result : Result A NodeFault) (r : Record)
        → IfErr result (λ f. (r : Record) × MeetsFault m (unless_broken broken (due r)) old new old.seen f) → OnOk result (broken ≡ None)
        → old.flight ≡ Some r
        → (new.flight ≡ Some r) × (new.seen ≡ old.seen)
    go (Ok a) r fault whole is = let none : old.flight ≡ None = landed whole in cc
    go (Err f) r (q, told) whole is = still_flying m broken (due q) old new (Err f) r told landed is

-- at Ok the record that was owed is written
pub record HasWrittenOwed {A : Type 0} (a answer : A) (r : Record) (stamp bound : ℕ) (new : Sight) (J : List Record) : Type 0 where
  pub is : a ≡ answer
  pub within : stamp ≤ bound
  pub seen : new.seen ≡ r ∷ J

late_ok : {A : Type 0} (m : Bool) (bound stamp : ℕ) (answer : A) (r : Record) (old new : Sight) (J : List Record) (a : A) (b : Bool)
    → nat_lt bound stamp ≡ b
    → Meets m (if_early bound stamp (Writes answer r)) old new J (Ok a) → HasWrittenOwed a answer r stamp bound new J
late_ok m bound stamp answer r old new J a true t (inl (e, stays)) = let h = rw t at e in cc
late_ok m bound stamp answer r old new J a true t (inr (q, e, appends)) = let h = rw t at e in cc
late_ok m bound stamp answer r old new J a false t (inl (e, stays)) = let h = rw t at e in cc
late_ok m bound stamp answer r old new J a false t (inr (q, e, appends)) =
    let h : Writes answer r ≡ Writes a q = rw t at e in
    let i : a ≡ answer = cc in
    let j : q ≡ r = cc in
    record { is = i; within = ltb-false bound stamp t; seen = appends.seen ∙ ap (λ x. x ∷ J) j }

pub ok_was_written : {A : Type 0} (m : Bool) (broken : Option ℕ) (bound stamp : ℕ) (answer : A) (r : Record) (old new : Sight) (J : List Record)
    (a : A)
    → Meets m (unless_broken broken (if_early bound stamp (Writes answer r))) old new J (Ok a) → HasWrittenOwed a answer r stamp bound new J
ok_was_written m (Some since) bound stamp answer r old new J a (inl (e, stays)) = cc
ok_was_written m (Some since) bound stamp answer r old new J a (inr (q, e, appends)) = cc
ok_was_written m None bound stamp answer r old new J a told = late_ok m bound stamp answer r old new J a (nat_lt bound stamp) refl told

room_ok : {A : Type 0} (m : Bool) (bound stamp used need capacity : ℕ) (answer : A) (r : Record) (old new : Sight) (J : List Record) (a : A)
    (b : Bool) → nat_lt capacity (used + need) ≡ b
    → Meets m (if_early bound stamp (if_room used need capacity (Writes answer r))) old new J (Ok a) → HasWrittenOwed a answer r stamp bound new J
room_ok m bound stamp used need capacity answer r old new J a false t told =
    late_ok m bound stamp answer r old new J a (nat_lt bound stamp) refl (rw t at told)
room_ok m bound stamp used need capacity answer r old new J a true t told = go (nat_lt bound stamp) refl (rw t at told)
  where
    go : (b : Bool) → nat_lt bound stamp ≡ b → Meets m (if_early bound stamp (Answers (Err (Full used need capacity)))) old new J (Ok a)
        → HasWrittenOwed a answer r stamp bound new J
    go true s (inl (e, stays)) = let h = rw s at e in cc
    go true s (inr (q, e, appends)) = let h = rw s at e in cc
    go false s (inl (e, stays)) = let h = rw s at e in cc
    go false s (inr (q, e, appends)) = let h = rw s at e in cc

pub wrote_room : {A : Type 0} (m : Bool) (broken : Option ℕ) (bound stamp used need capacity : ℕ) (answer : A) (r : Record) (old new : Sight)
    (J : List Record) (a : A)
    → Meets m (unless_broken broken (if_early bound stamp (if_room used need capacity (Writes answer r)))) old new J (Ok a)
    → HasWrittenOwed a answer r stamp bound new J
wrote_room m (Some since) bound stamp used need capacity answer r old new J a (inl (e, stays)) = cc
wrote_room m (Some since) bound stamp used need capacity answer r old new J a (inr (q, e, appends)) = cc
wrote_room m None bound stamp used need capacity answer r old new J a told =
    room_ok m bound stamp used need capacity answer r old new J a (nat_lt capacity (used + need)) refl told
