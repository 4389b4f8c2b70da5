-- What is known of a node before and after a call, and that the call did what it owed.
use Rattle.std.specs.Prelude.{◌≡◌, ◌⊎◌, ℕ, ◌+◌, ◌-◌, ◌^◌, ◌≤◌, min, Bool, true, List, [], ◌∷◌, ◌++◌, Option, Some, None, Result, Ok, Err}
use Rattle.cbdc_types.specs.declared.calls.NodeFault.{NodeFault}
use Rattle.cbdc_types.specs.declared.calls.NodeFault.TheVariants.{Broken, Refused as Refuses, ClockEnd, Full, DiskFault, Memory}
use Rattle.cbdc_model.specs.Records.{Header, Record, last_stamp}
use Rattle.cbdc_model.specs.Slots.{slot_stamp}
use Rattle.cbdc_model.specs.Due.{Due, Answers, Writes}
use Rattle.cbdc_model.specs.Lanes.{may_come}

-- its header, its journal, newest first, a record that a failed call may have left on its disk or not, how often its disk has failed,
-- how often it had when the node was opened, and how many bytes the disk may hold
pub record Sight : Type 0 where
  pub header : Header
  pub seen : List Record
  pub flight : Option Record
  pub faults : ℕ
  pub opened : ℕ
  pub capacity : ℕ

-- the count has risen, or stands at its type's end
abbrev pub HasRisen : ℕ → ℕ → Type 0
HasRisen before now = min (before + 1) (2 ^ 64 - 1) ≤ now

-- what no call changes: header, capacity, the count at opening; the count does not fall
pub record IsSameNode (old new : Sight) : Type 0 where
  pub header : new.header ≡ old.header
  pub opened : new.opened ≡ old.opened
  pub capacity : new.capacity ≡ old.capacity
  pub later : old.faults ≤ new.faults

-- nothing was written behind the journal that the call found
pub record Stays (old new : Sight) (found : List Record) : Type 0 where
  pub node : IsSameNode old new
  pub seen : new.seen ≡ found
  pub flight : new.flight ≡ old.flight

-- this record was written behind the journal that the call found
pub record Appends (old new : Sight) (found : List Record) (r : Record) : Type 0 where
  pub node : IsSameNode old new
  pub seen : new.seen ≡ r ∷ found
  pub flight : new.flight ≡ old.flight

-- the disk failed at this record: it may stand on the disk or not
pub record Fails (old new : Sight) (found : List Record) (r : Record) : Type 0 where
  pub node : IsSameNode old new
  pub seen : new.seen ≡ found
  pub flight : new.flight ≡ Some r
  pub rose : HasRisen old.faults new.faults

-- a fault that a call answers, by whether it takes memory, which may run out
abbrev pub MeetsFault : {A : Type 0} → Bool → Due A → Sight → Sight → List Record → NodeFault → Type 0
MeetsFault {A} memory due old new found DiskFault = (a : A) × (r : Record) × (due ≡ Writes a r) × Fails old new found r
MeetsFault memory due old new found Memory = (memory ≡ true) × Stays old new found
MeetsFault memory due old new found (Broken since) = (due ≡ Answers (Err (Broken since))) × Stays old new found
MeetsFault memory due old new found (Refuses why) = (due ≡ Answers (Err (Refuses why))) × Stays old new found
MeetsFault memory due old new found (ClockEnd stamp) = (due ≡ Answers (Err (ClockEnd stamp))) × Stays old new found
MeetsFault memory due old new found (Full used need capacity) = (due ≡ Answers (Err (Full used need capacity))) × Stays old new found

-- the call did what it owed: an answer that it owed at once, with nothing written; or its record was written; or the disk failed at
-- that; or, where it takes memory, there was none, and nothing was written
abbrev pub Meets : {A : Type 0} → Bool → Due A → Sight → Sight → List Record → Result A NodeFault → Type 0
Meets memory due old new found (Ok a) =
    ((due ≡ Answers (Ok a)) × Stays old new found) ⊎ ((r : Record) × (due ≡ Writes a r) × Appends old new found r)
Meets memory due old new found (Err fault) = MeetsFault memory due old new found fault

-- each of these records may have come between two calls of the lane: none where it is alone, else those of other lanes
abbrev pub AllMay : Bool → ℕ → List Record → Type 0
AllMay alone lane [] = Unit {0}
AllMay alone lane (r ∷ more) = (may_come alone lane r ≡ true) × AllMay alone lane more

-- what a call found: the journal seen before, with what came between
pub record Finds (alone : Bool) (lane : ℕ) (old found : List Record) : Type 0 where
  pub more : List Record
  pub is : found ≡ more ++ old
  pub between : AllMay alone lane more

-- an append has failed since the node was opened, so its count has risen since
abbrev pub IsBrokenSince : ℕ → ℕ → Option ℕ → Type 0
IsBrokenSince opened faults None = Unit {0}
IsBrokenSince opened faults (Some since) = HasRisen opened since × (since ≤ faults)

-- what a lane is told of its call: it did what it owed (a node with a record in flight owes that it is broken, and where the lane is alone no other
-- does) on the journal that it found, whose last stamp is not below the lane's last one nor the last one seen before
pub record Told {A : Type 0} (alone : Bool) (lane : ℕ) (memory : Bool) (due : Option ℕ → List Record → Due A) (old new : Sight)
    (result : Result A NodeFault) : Type 0 where
  pub found : List Record
  pub broken : Option ℕ
  pub finds : Finds alone lane old.seen found
  pub since : IsBrokenSince old.opened new.faults broken
  pub whole : broken ≡ None → old.flight ≡ None
  pub unbroken : alone ≡ true → old.flight ≡ None → broken ≡ None
  pub since_opened : old.opened ≤ old.faults
  pub order : slot_stamp found lane ≤ last_stamp found
  pub later : last_stamp old.seen ≤ last_stamp found
  pub meets : Meets memory (due broken found) old new found result
