-- What lanes add to the journals that they see, and kept journals as one fact for each record.
use Rattle.std.specs.Prelude.{◌≡◌, ◌⊎◌, ℕ, Bool, true, false, ◌&&◌, not, List, ◌∷◌, ◌++◌, All, Contains}
use Rattle.cbdc_model.specs.Records.{Shape, Compact, Record, journal, tells_lane, Genesis, Start, Prepare, Carry, CarryStart}
use Rattle.cbdc_model.specs.After.{After}
use Rattle.cbdc_model.specs.Causes.{IsCaused}
use Rattle.cbdc_model.specs.History.{Minted, header_of, first_rows, TxsPass}
use Rattle.cbdc_model.specs.World.{replaced}

-- the older list is what the newer one began as
abbrev pub IsEnd : List Record → List Record → Type 0
IsEnd old new = (more : List Record) × (new ≡ more ++ old)

-- a record behind `rest` at a node is caused by what stood in beginnings of these journals
pub record Seen (K : Shape) (J : ℕ → List Record) (n : ℕ) (rest : List Record) (r : Record) : Type 0 where
  pub lists : ℕ → List Record
  pub ends : (k : ℕ) → IsEnd (lists k) (J k)
  pub caused : IsCaused K (replaced lists n rest) n r

-- what a lane with these lists of transactions may write: no first record, and a Prepare of one of them
abbrev pub Holds : List (List Compact) → Record → Type 0
Holds pieces (Genesis header hs) = ⊥
Holds pieces (Start header) = ⊥
Holds pieces (Carry stamp header source hs numbers) = ⊥
Holds pieces (CarryStart stamp header source numbers) = ⊥
Holds pieces (Prepare stamp b txs) = Contains pieces txs
Holds pieces other = Unit {0}

-- whether a record of another lane may have come between: never where the ports are alone
abbrev pub may_come : Bool → ℕ → Record → Bool
may_come alone lane r = not alone && not (tells_lane lane r)

-- journals I have grown to J, by records of other lanes and by records of this lane that are caused by what it saw
pub record Made (K : Shape) (pieces : List (List Compact)) (alone : Bool) (lane : ℕ) (I J : ℕ → List Record) : Type 0 where
  pub grows : (n : ℕ) → IsEnd (I n) (J n)
  pub each : (n : ℕ) (newer rest : List Record) (r : Record) → J n ≡ newer ++ r ∷ rest → IsEnd (I n) rest
      → (may_come alone lane r ≡ true) ⊎ ((tells_lane lane r ≡ true) × Seen K J n rest r × Holds pieces r)

-- a node's journal of first records
abbrev pub first_of : Shape → Minted → ℕ → List Record
first_of K m n = journal n (first_rows K m)

-- each record behind the first ones is after those of its journal, and was caused by beginnings of the journals: one fact for each
-- record, which stays when journals grow
pub record KeptLists (K : Shape) (m : Minted) (P : Compact → Type 0) (X : ℕ → List Record) : Type 0 where
  pub begins : (n : ℕ) → IsEnd (first_of K m n) (X n)
  pub each : (n : ℕ) (newer rest : List Record) (r : Record) → X n ≡ newer ++ r ∷ rest → IsEnd (first_of K m n) rest
      → After (header_of K m.id n) rest r × Seen K X n rest r × TxsPass P r

-- every list of transactions passes
abbrev pub AllPass : (Compact → Type 0) → List (List Compact) → Type 0
AllPass P pieces = (txs : List Compact) → Contains pieces txs → All P txs

-- what each node says of itself: its records past the old ones are each after those below them
abbrev pub NextFrom : Shape → Minted → (ℕ → List Record) → (ℕ → List Record) → Type 0
NextFrom K m E X = (n : ℕ) (newer rest : List Record) (r : Record) → X n ≡ newer ++ r ∷ rest → IsEnd (E n) rest → After (header_of K m.id n) rest r

-- each new record is a lane's
abbrev pub AllInLanes : (ℕ → List Record) → (ℕ → List Record) → Type 0
AllInLanes E X = (n : ℕ) (newer rest : List Record) (r : Record) → X n ≡ newer ++ r ∷ rest → IsEnd (E n) rest
    → (lane : ℕ) × (tells_lane lane r ≡ true)

-- what a lane had seen at its end are beginnings of the final journals, behind which nothing of the lane came
pub record Left (lane : ℕ) (J X : ℕ → List Record) : Type 0 where
  pub more : ℕ → List Record
  pub is : (n : ℕ) → X n ≡ more n ++ J n
  pub others : (n : ℕ) (newer rest : List Record) (r : Record) → more n ≡ newer ++ r ∷ rest → tells_lane lane r ≡ false

-- a wave from journals E to journals X: what each lane made, as it saw it, and what each node says of itself; lanes in turn and
-- lanes as threads both give it
pub record Wave (K : Shape) (m : Minted) (pieces : ℕ → List (List Compact)) (E X : ℕ → List Record) : Type 0 where
  pub grows : (n : ℕ) → IsEnd (E n) (X n)
  pub next : NextFrom K m E X
  pub in_lanes : AllInLanes E X
  pub exits : ℕ → ℕ → List Record
  pub made : (lane : ℕ) → Made K (pieces lane) false lane E (exits lane)
  pub left : (lane : ℕ) → Left lane (exits lane) X
