-- What a record rests on: its causes stand, it agrees with them, and its stamp is one more than the greatest before it.
use Rattle.std.specs.Prelude.{◌≡◌, ℕ, zero, suc, max, true, List, Option, is_some}
use Rattle.cbdc_model.specs.Records.{Shape, Batch, Compact, Record, record_of, entries_in, txs_in, outcomes_in, stamp_in, txs_of, lock_of, Genesis}
use Rattle.cbdc_model.specs.Records.{Lock, Finish, Forget, Start, Prepare, Commit, Discard, Done, lock_kind, finish_kind, forget_kind, prepare_kind}
use Rattle.cbdc_model.specs.Records.{commit_kind, discard_kind, Upgrade, Carry, CarryStart, Seal}
use Rattle.cbdc_model.specs.Replies.{entries}
use Rattle.cbdc_model.specs.Ranges.{shard_node, home_of, part, Concerned}
use Rattle.cbdc_model.specs.Outcomes.{outcomes, decisions}
use Rattle.cbdc_model.specs.Next.{next_stamp}

-- the greatest of f s for s below n
abbrev pub greatest : (ℕ → ℕ) → ℕ → ℕ
greatest f zero = 0
greatest f (suc n) = max (greatest f n) (f n)

-- what shard s has of a kind of a batch
abbrev pub at_shards : Shape → (ℕ → List Record) → ℕ → Batch → ℕ → Option Record
at_shards K journals kind b s = record_of kind (journals (shard_node K s)) b

-- the transactions of a batch, by its Prepare at its coordinator
abbrev pub prepared_txs : Shape → (ℕ → List Record) → Batch → List Compact
prepared_txs K journals b = txs_of (journals (home_of K b.lane)) b

-- each shard that the batch concerns has its record of the kind
abbrev pub AllHave : Shape → (ℕ → List Record) → ℕ → Batch → Type 0
AllHave K journals kind b = (s : ℕ) → Concerned K (prepared_txs K journals b) s → is_some (at_shards K journals kind b s) ≡ true

-- one more than the greatest of the node's last stamp and the cause's
abbrev pub IsStamped : ℕ → List Record → ℕ → Type 0
IsStamped stamp own cause = stamp ≡ next_stamp own cause

-- the greatest stamp that the shards have of a kind of a batch
abbrev pub last_of : Shape → (ℕ → List Record) → ℕ → Batch → ℕ
last_of K journals kind b = greatest (λ s. stamp_in (at_shards K journals kind b s)) K.shards

-- the record's causes stand in these journals, it agrees with them, and its stamp is one more than the greatest of its node's last one and theirs (a
-- Prepare, an Upgrade and a Seal have none; of a first record nothing is asked). The cause of a Lock is its Prepare, of which it has the part for its
-- shard; of a Commit all Locks, whose replies make its outcomes; of a Finish its Commit, whose decisions it has for the entries of the shard's own
-- Lock. The cause of a Discard is all Finishes, of a Forget its Discard, of a Done all Forgets. Each concerned shard has its Lock, Finish or Forget;
-- replies and stamps are looked for at all shards, of which the others have no record of the batch in kept journals
abbrev pub IsCaused : Shape → (ℕ → List Record) → ℕ → Record → Type 0
IsCaused K journals node (Genesis header hs) = Unit {0}
IsCaused K journals node (Start header) = Unit {0}
IsCaused K journals node (Prepare stamp b txs) = IsStamped stamp (journals node) 0
IsCaused K journals node (Lock stamp b es) =
    let cause = record_of prepare_kind (journals (home_of K b.lane)) b in
    (is_some cause ≡ true)
    × ((s : ℕ) → node ≡ shard_node K s → entries es ≡ part K s 0 (txs_in cause))
    × IsStamped stamp (journals node) (stamp_in cause)
IsCaused K journals node (Commit stamp b os) =
    AllHave K journals lock_kind b
    × (os ≡ outcomes (λ s. entries_in (at_shards K journals lock_kind b s)) K.shards 0 (prepared_txs K journals b))
    × IsStamped stamp (journals node) (last_of K journals lock_kind b)
IsCaused K journals node (Finish stamp b ds) =
    let cause = record_of commit_kind (journals (home_of K b.lane)) b in
    (is_some cause ≡ true)
    × (ds ≡ decisions (outcomes_in cause) (entries (lock_of (journals node) b)))
    × IsStamped stamp (journals node) (stamp_in cause)
IsCaused K journals node (Discard stamp b) =
    AllHave K journals finish_kind b × IsStamped stamp (journals node) (last_of K journals finish_kind b)
IsCaused K journals node (Forget stamp b) =
    let cause = record_of discard_kind (journals (home_of K b.lane)) b in
    (is_some cause ≡ true) × IsStamped stamp (journals node) (stamp_in cause)
IsCaused K journals node (Done stamp b) =
    AllHave K journals forget_kind b × IsStamped stamp (journals node) (last_of K journals forget_kind b)
IsCaused K journals node (Upgrade stamp batch) = IsStamped stamp (journals node) 0
IsCaused K journals node (Carry stamp header source hs numbers) = Unit {0}
IsCaused K journals node (CarryStart stamp header source numbers) = Unit {0}
IsCaused K journals node (Seal stamp to shards) = IsStamped stamp (journals node) 0
