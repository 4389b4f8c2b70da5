-- How many hashes are unspent over all shards.
use Rattle.std.specs.Prelude.{◌≡◌, ◌↔◌, ℕ, true, List, length}
use Rattle.cbdc_model.specs.Records.{Digest, Shape, Record}
use Rattle.cbdc_model.specs.Status.{has}
use Rattle.cbdc_model.specs.World.{IsUnspent}
use Rattle.shard_table.specs.Members.{IsSet}

-- so many hashes are unspent, each at its own shard: they are listed, each once
pub record IsUnspentCount (K : Shape) (J : ℕ → List Record) (n : ℕ) : Type 0 where
  pub hashes : List Digest
  pub once : IsSet hashes
  pub all : (x : Digest) → (has hashes x ≡ true) ↔ IsUnspent K J x
  pub count : n ≡ length hashes
