-- What a shard's hashes and locks have in common with a journal.
use Rattle.std.specs.Prelude.{◌≡◌, ℕ, Bool, true, false, List, Option, Some, None, option_map}
use Rattle.cbdc_model.specs.Records.{Digest, Batch, Record}
use Rattle.cbdc_model.specs.Status.{Status, status, has, Unspent, Locked, Absent}
use Rattle.shard_table.specs.declared.slots.Kept.{Kept}
use Rattle.shard_table.specs.Entries.{lookup}

-- whether a status is Unspent
abbrev pub says_unspent : Status → Bool
says_unspent Unspent = true
says_unspent (Locked by) = false
says_unspent Absent = false

-- the batch that holds the hash
abbrev pub locked_by : Status → Option Batch
locked_by Unspent = None
locked_by (Locked by) = Some by
locked_by Absent = None

-- the batch that holds the hash, as the locks have it
abbrev pub holder_in : List (Kept (Batch × ℕ)) → Digest → Option Batch
holder_in held x = option_map (λ p. p.0) (lookup held x)

-- the unspent hashes and the locks are what the journal says, at each hash
pub record HashesAgree (hashes : List Digest) (held : List (Kept (Batch × ℕ))) (J : List Record) : Type 0 where
  pub unspent : (x : Digest) → has hashes x ≡ says_unspent (status J x)
  pub locked : (x : Digest) → holder_in held x ≡ locked_by (status J x)
