-- The seats of a wave's auditor, and what it was told.
use Rattle.std.specs.Prelude.{◌≡◌, ℕ, List, [], ◌∷◌, ◌++◌, reverse, Some, None}
use Rattle.std.specs.Global.{Vec}
use Rattle.cbdc_model.specs.Records.{Record}
use Rattle.cbdc_model.specs.Lanes.{IsEnd}
use Rattle.cbdc_model.specs.Sights.{Sight}
use Rattle.node_lock.specs.declared.views.Hand.{Hand}
use Rattle.node_lock.specs.declared.lock.Guarded.{Guarded}
use Rattle.node_lock.specs.declared.seat.Seat.{Seat}
use Rattle.node_lock.specs.Tickets.{fresh}
use Rattle.node_lock.specs.Seats.{IsSeatOf, knows, opening_of, lanes_of as seated_lanes}
use Rattle.lane_waves.specs.NodeRows.{lanes_of}

-- a look keeps what a seat has made and left in flight, and it has seen what it had, and maybe more
pub record KeepsQuiet (old new : Hand) : Type 0 where
  pub lane : new.lane ≡ old.lane
  pub made : new.made ≡ old.made
  pub left : new.left ≡ old.left
  pub grows : IsEnd old.seen new.seen

module _ {N : Type 0} where
  -- a seat of each lock
  abbrev pub AreSeatsOf : List (Guarded N) → List (Seat N) → Type 0
  AreSeatsOf [] [] = Unit {0}
  AreSeatsOf (g ∷ gs) (s ∷ ss) = IsSeatOf g s × AreSeatsOf gs ss
  AreSeatsOf gs ss = ⊥

  -- each seat has looked, or not
  abbrev pub HaveLooked : List (Seat N) → List (Seat N) → Type 0
  HaveLooked [] [] = Unit {0}
  HaveLooked (s ∷ ss) (t ∷ ts) = KeepsQuiet (knows s) (knows t) × HaveLooked ss ts
  HaveLooked ss ts = ⊥

  -- what each has seen is listed, the oldest record first
  abbrev pub AreListed : List (Vec Record) → List (Seat N) → Type 0
  AreListed [] [] = Unit {0}
  AreListed (l ∷ ls) (s ∷ ss) = (reverse l.items ≡ (knows s).seen) × AreListed ls ss
  AreListed ls ss = ⊥

  -- a seat of the lock's last lane that has only looked
  pub record IsWatching (g : Guarded N) (s : Seat N) : Type 0 where
    pub seat : IsSeatOf g s
    pub last : seated_lanes g ≡ lanes_of g ++ (knows s).lane ∷ []
    pub made : (knows s).made ≡ []
    pub left : (knows s).left ≡ None

  -- so is each, of its lock
  abbrev pub AreWatching : List (Guarded N) → List (Seat N) → Type 0
  AreWatching [] [] = Unit {0}
  AreWatching (g ∷ gs) (s ∷ ss) = IsWatching g s × AreWatching gs ss
  AreWatching gs ss = ⊥

  -- a fresh seat of the lock, of this lane, which is its last
  pub record IsFreshWatcher (sight : N → Sight) (w : ℕ) (g : Guarded N) (s : Seat N) : Type 0 where
    pub watching : IsWatching g s
    pub fresh_is : knows s ≡ fresh (sight (opening_of g)) w

  -- so is each, of its lock
  abbrev pub AreFreshWatchers : (N → Sight) → ℕ → List (Guarded N) → List (Seat N) → Type 0
  AreFreshWatchers sight w [] [] = Unit {0}
  AreFreshWatchers sight w (g ∷ gs) (s ∷ ss) = IsFreshWatcher sight w g s × AreFreshWatchers sight w gs ss
  AreFreshWatchers sight w gs ss = ⊥

  -- what each seat has seen is a beginning of its node's journal
  abbrev pub AreFrontsOf : (N → Sight) → List (Seat N) → List N → Type 0
  AreFrontsOf sight [] [] = Unit {0}
  AreFrontsOf sight (s ∷ ss) (n ∷ ns) = IsEnd (knows s).seen (sight n).seen × AreFrontsOf sight ss ns
  AreFrontsOf sight ss ns = ⊥

module _ {M N : Type 0} where
  -- lists of what all seats of two kinds have seen, those of the first kind before the others
  pub record AreAllListed (lists : List (Vec Record)) (ss : List (Seat M)) (ts : List (Seat N)) : Type 0 where
    pub front : List (Vec Record)
    pub back : List (Vec Record)
    pub lists_are : lists ≡ front ++ back
    pub of_front : AreListed front ss
    pub of_back : AreListed back ts
