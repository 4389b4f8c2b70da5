-- A shard whose journal is its Genesis alone.
use Rattle.std.specs.Prelude.{◌≡◌, List, [], ◌∷◌, reverse, None}
use Rattle.cbdc_model.specs.Records.{Digest, Header, Record, Genesis}
use Rattle.cbdc_model.specs.After.{IsJournal}
use Rattle.cbdc_model.specs.Sights.{Sight}
use Rattle.shard_core.specs.Stands.{ShardStands}
use Rattle.shard_core.specs.declared.core_state.ShardCore.{ShardCore}

-- nothing is ever in flight, and it never fails
abbrev pub seen_of : Header → List Record → Sight
seen_of h rs = record { header = h; seen = reverse rs; flight = None; faults = 0; opened = 0; capacity = 0 }

-- its records are the Genesis of these hashes, for which its state stands
pub record IsFrozen (core : ShardCore) (rs : List Record) : Type 0 where
  pub hashes : List Digest
  pub first : rs ≡ Genesis core.header hashes ∷ []
  pub stands : ShardStands core (Genesis core.header hashes ∷ [])
  pub journal : IsJournal core.header (Genesis core.header hashes ∷ [])
