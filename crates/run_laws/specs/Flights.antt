-- What a turn that a fault stopped may have left on a disk or not.
use Rattle.std.specs.Prelude.{◌≡◌, ◌⊎◌, ℕ, ◌-◌, ◌<◌, nat_lt, if◌then◌else◌, List, ◌∷◌, Option, Some}
use Rattle.cbdc_model.specs.Records.{Shape, Compact, Record}
use Rattle.cbdc_model.specs.Ranges.{home_of}
use Rattle.cbdc_model.specs.Coins.{Output, FullTx}
use Rattle.cbdc_model.specs.Clean.{IsProperCompact}
use Rattle.cbdc_model.specs.After.{After}
use Rattle.cbdc_model.specs.History.{minted, header_of, TxsPass}
use Rattle.cbdc_model.specs.World.{KeptJournals}
use Rattle.cbdc_model.specs.Lanes.{AllPass, Seen}
use Rattle.cbdc_model.specs.Sights.{Sight}
use Rattle.lane_laws.specs.Batches.{Flown}
use Rattle.run_laws.specs.Runs.{seen_by}
use Rattle.run_laws.specs.Turns.{Elsewhere}

-- what is in flight at each node, the coordinators first, as it is seen
abbrev pub flying : Shape → (ℕ → Sight) → (ℕ → Sight) → ℕ → Option Record
flying K logs shards n = if nat_lt n K.coordinators then (logs n).flight else (shards (n - K.coordinators)).flight

-- what is in flight behind a turn was so before, or is caused by what the journals have, with transactions that pass
abbrev pub FlownLaw : Type 0
FlownLaw = (K : Shape) (submissions : List FullTx) (pieces : List (List Compact)) (lane : ℕ) (logs shards logs' shards' : ℕ → Sight)
    → home_of K lane < K.coordinators → AllPass (IsProperCompact submissions) pieces → Elsewhere K lane logs logs'
    → Flown K pieces lane (logs (home_of K lane)) shards (logs' (home_of K lane)) shards'
    → (n : ℕ) (r : Record) → flying K logs' shards' n ≡ Some r
    → (flying K logs shards n ≡ Some r) ⊎ (Seen K (seen_by K logs' shards') n (seen_by K logs' shards' n) r × TxsPass (IsProperCompact submissions) r)

-- the record may come next at a node of these journals
pub record MayCome (K : Shape) (mint : List Output) (submissions : List FullTx) (J : ℕ → List Record) (n : ℕ) (r : Record) : Type 0 where
  pub after : After (header_of K (minted mint).id n) (J n) r
  pub seen : Seen K J n (J n) r
  pub passes : TxsPass (IsProperCompact submissions) r

-- journals stay kept where at each node a record that may come next stands behind them or not
abbrev pub FlushLaw : Type 0
FlushLaw = (K : Shape) (mint : List Output) (submissions : List FullTx) (J X : ℕ → List Record) → 0 < K.shards → KeptJournals K mint submissions J
    → ((n : ℕ) → (X n ≡ J n) ⊎ ((r : Record) × (X n ≡ r ∷ J n) × MayCome K mint submissions J n r)) → KeptJournals K mint submissions X
