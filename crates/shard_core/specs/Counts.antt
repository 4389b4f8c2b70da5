-- How many hashes are unspent.
use Rattle.std.specs.Prelude.{◌≡◌, ℕ, List, length}
use Rattle.cbdc_model.specs.Records.{Digest, Record}
use Rattle.cbdc_model.specs.Status.{status, has}
use Rattle.shard_table.specs.Members.{IsSet}
use Rattle.shard_core.specs.Agrees.{says_unspent}

-- so many hashes have the status Unspent: they are listed, each once
pub record CountsUnspent (J : List Record) (n : ℕ) : Type 0 where
  pub hashes : List Digest
  pub once : IsSet hashes
  pub all : (x : Digest) → has hashes x ≡ says_unspent (status J x)
  pub count : n ≡ length hashes
