-- What a lane is told of a call: the record that was written, what stood already, or why it stopped.
use Rattle.std.proofs.Common.{◌≡◌, ◌⊎◌, inl, inr, ℕ, ◌≤◌, Bool, true, List, ◌∷◌, Option, Some, None, Ok, Err, refl, sym, subst, arith}
use Rattle.cbdc_types.specs.declared.calls.NodeFault.{NodeFault}
use Rattle.cbdc_types.specs.declared.calls.NodeFault.TheVariants.{Broken, Refused as Refuses, ClockEnd, Full, DiskFault, Memory}
use Rattle.cbdc_model.specs.Records.{Record, last_stamp}
use Rattle.cbdc_model.specs.Slots.{slot_stamp}
use Rattle.cbdc_model.specs.Due.{Due, Answers, Writes, unless_broken}
use Rattle.cbdc_model.specs.Sights.{Sight, HasRisen, IsSameNode, Stays, MeetsFault, Finds, IsBrokenSince, Told}
use Rattle.lane_laws.specs.Batches.{IsRisen}
use Rattle.lane_laws.specs.Faults.{IsAnswered}
use Rattle.lane_laws.proofs.Dues.{err, not_broken, not_broken_ok}

-- the call's record was written
pub record Wrote {A : Type 0} (alone : Bool) (lane : ℕ) (by : List Record → Due A) (old new : Sight) (a : A) : Type 0 where
  pub found : List Record
  pub what : Record
  pub finds : Finds alone lane old.seen found
  pub node : IsSameNode old new
  pub seen : new.seen ≡ what ∷ found
  pub flight : new.flight ≡ old.flight
  pub later : last_stamp old.seen ≤ last_stamp found
  pub order : slot_stamp found lane ≤ last_stamp found
  pub writes : by found ≡ Writes a what

-- its answer stood already
pub record Stood {A : Type 0} (alone : Bool) (lane : ℕ) (by : List Record → Due A) (old new : Sight) (a : A) : Type 0 where
  pub found : List Record
  pub finds : Finds alone lane old.seen found
  pub node : IsSameNode old new
  pub seen : new.seen ≡ found
  pub flight : new.flight ≡ old.flight
  pub later : last_stamp old.seen ≤ last_stamp found
  pub answers : by found ≡ Answers (Ok a)

-- why it stopped
abbrev pub FaultBy : {A : Type 0} → Bool → Due A → NodeFault → Type 0
FaultBy memory due (Broken since) = Unit {0}
FaultBy memory due (Refuses why) = due ≡ Answers (Err (Refuses why))
FaultBy memory due (ClockEnd stamp) = due ≡ Answers (Err (ClockEnd stamp))
FaultBy memory due (Full used need capacity) = due ≡ Answers (Err (Full used need capacity))
FaultBy memory due DiskFault = Unit {0}
FaultBy memory due Memory = memory ≡ true

pub record Stopped {A : Type 0} (alone : Bool) (lane : ℕ) (memory : Bool) (by : List Record → Due A) (old new : Sight) (f : NodeFault) : Type 0 where
  pub found : List Record
  pub finds : Finds alone lane old.seen found
  pub node : IsSameNode old new
  pub seen : new.seen ≡ found
  pub flight : (new.flight ≡ old.flight) ⊎ ((a : A) × (r : Record) × (by found ≡ Writes a r) × (new.flight ≡ Some r))
  pub risen : IsRisen f new
  pub why : FaultBy memory (by found) f

pub told_ok : {A : Type 0} (alone : Bool) (lane : ℕ) (memory : Bool) (by : List Record → Due A) (old new : Sight) (a : A)
    → Told alone lane memory (λ broken J. unless_broken broken (by J)) old new (Ok a) → Stood alone lane by old new a ⊎ Wrote alone lane by old new a
told_ok alone lane memory by old new a t = elim (t.meets) [
  | inl h ↦ inl (record {
    found = t.found;
    finds = t.finds;
    node = h.1.node;
    seen = h.1.seen;
    flight = h.1.flight;
    later = t.later;
    answers = not_broken_ok t.broken (by t.found) a h.0;
  })
  | inr h ↦ inr (record {
    found = t.found;
    what = h.0;
    finds = t.finds;
    node = h.2.node;
    seen = h.2.seen;
    flight = h.2.flight;
    later = t.later;
    order = t.order;
    writes = not_broken t.broken (by t.found) a h.0 h.1;
  })
]

-- a fault of the disk shows in its count
risen_since : (opened before opened' now : ℕ) → opened' ≡ opened → opened ≤ before → HasRisen before now → HasRisen opened' now
risen_since opened before opened' now e h r = grind (arith, e, h, r)

risen_more : (opened opened' since now : ℕ) → opened' ≡ opened → HasRisen opened since → since ≤ now → HasRisen opened' now
risen_more opened opened' since now e r h = grind (arith, e, r, h)

-- an answer of a node that isn't broken
unbroken : {A : Type 0} (broken : Option ℕ) (due : Due A) (f : NodeFault) → ((s : ℕ) → Broken s ≡ f → ⊥) → unless_broken broken due ≡ Answers (Err f)
    → due ≡ Answers (Err f)
unbroken {A = A} (Some since) due f bad e = absurd (bad since (let z : err {A = A} (Broken since) ≡ err f = e in cc))
unbroken None due f bad e = e

broken_at : {A : Type 0} (opened faults : ℕ) (broken : Option ℕ) (due : Due A) (since : ℕ) → (due ≡ Answers (Err (Broken since)) → ⊥)
    → unless_broken broken due ≡ Answers (Err (Broken since))
    → IsBrokenSince opened faults broken → HasRisen opened faults
broken_at {A = A} opened faults (Some x) due since never e h = risen_more opened opened x faults refl h.0 h.1
broken_at opened faults None due since never e h = absurd (never e)

pub told_err : {A : Type 0} (alone : Bool) (lane : ℕ) (memory : Bool) (by : List Record → Due A) (old new : Sight) (f : NodeFault)
    → ((J : List Record) (s : ℕ) → by J ≡ Answers (Err (Broken s)) → ⊥)
    → Told alone lane memory (λ broken J. unless_broken broken (by J)) old new (Err f) → Stopped alone lane memory by old new f
told_err {A = A} alone lane memory by old new f never t = go f t.meets
  where
    stays : (g : NodeFault) → Stays old new t.found → IsRisen g new → FaultBy memory (by t.found) g → Stopped alone lane memory by old new g
    stays g h risen why = record { found = t.found; finds = t.finds; node = h.node; seen = h.seen; flight = inl h.flight; risen = risen; why = why }

    go : (g : NodeFault) → MeetsFault memory (unless_broken t.broken (by t.found)) old new t.found g → Stopped alone lane memory by old new g
    go DiskFault h = record {
      found = t.found;
      finds = t.finds;
      node = h.3.node;
      seen = h.3.seen;
      flight = inr (h.0, h.1, not_broken t.broken (by t.found) h.0 h.1 h.2, h.3.flight);
      risen = risen_since old.opened old.faults new.opened new.faults h.3.node.opened t.since_opened h.3.rose;
      why = tt;
    }
    go Memory h = stays Memory h.1 tt h.0
    go (Broken since) h = stays (Broken since) h.1
        (subst (λ n. HasRisen n new.faults) (sym h.1.node.opened)
        (broken_at old.opened new.faults t.broken (by t.found) since (never t.found since) h.0 t.since)) tt
    go (Refuses why) h = stays (Refuses why) h.1 tt (unbroken t.broken (by t.found) (Refuses why) (λ s e. cc) h.0)
    go (ClockEnd stamp) h = stays (ClockEnd stamp) h.1 tt (unbroken t.broken (by t.found) (ClockEnd stamp) (λ s e. cc) h.0)
    go (Full used need capacity) h = stays (Full used need capacity) h.1 tt (unbroken t.broken (by t.found) (Full used need capacity) (λ s e. cc) h.0)

-- what it owed on the journal that is seen at last
pub answered : {A : Type 0} (alone : Bool) (lane : ℕ) (memory : Bool) (by : List Record → Due A) (old new : Sight) (f : NodeFault)
    → Stopped alone lane memory by old new f → IsAnswered memory (by new.seen) new f
answered alone lane memory by old new (Broken since) s = s.risen
answered alone lane memory by old new (Refuses why) s = subst (λ L. by L ≡ Answers (Err (Refuses why))) (sym s.seen) s.why
answered alone lane memory by old new (ClockEnd stamp) s = subst (λ L. by L ≡ Answers (Err (ClockEnd stamp))) (sym s.seen) s.why
answered alone lane memory by old new (Full used need capacity) s = subst (λ L. by L ≡ Answers (Err (Full used need capacity))) (sym s.seen) s.why
answered alone lane memory by old new DiskFault s = s.risen
answered alone lane memory by old new Memory s = s.why
