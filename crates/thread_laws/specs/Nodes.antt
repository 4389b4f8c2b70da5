-- The journals of a ledger's nodes, each by what it says of itself, and what is in flight there.
use Rattle.std.specs.Prelude.{◌≡◌, ℕ, ◌<◌, ◌≤◌, [], None, IfSome}
use Rattle.cbdc_model.specs.Records.{Shape}
use Rattle.cbdc_model.specs.After.{After, IsJournal}
use Rattle.cbdc_model.specs.Sights.{Sight}

-- each node's journal is one of its header, and there are no shards but those of the shape
pub record AreNodes (K : Shape) (logs shards : ℕ → Sight) : Type 0 where
  pub logs_are : (n : ℕ) → n < K.coordinators → IsJournal (logs n).header (logs n).seen
  pub shards_are : (s : ℕ) → s < K.shards → IsJournal (shards s).header (shards s).seen
  pub beyond : (s : ℕ) → K.shards ≤ s → (shards s).seen ≡ []

-- what is in flight at each node is as before
pub record SameFlights (logs shards logs' shards' : ℕ → Sight) : Type 0 where
  pub logs_same : (n : ℕ) → (logs' n).flight ≡ (logs n).flight
  pub shards_same : (s : ℕ) → (shards' s).flight ≡ (shards s).flight

-- what is in flight at each node may come next there
pub record AreNext (K : Shape) (logs shards : ℕ → Sight) : Type 0 where
  pub logs_are : (n : ℕ) → n < K.coordinators → IfSome (logs n).flight (After (logs n).header (logs n).seen)
  pub shards_are : (s : ℕ) → s < K.shards → IfSome (shards s).flight (After (shards s).header (shards s).seen)
  pub beyond : (s : ℕ) → K.shards ≤ s → (shards s).flight ≡ None
