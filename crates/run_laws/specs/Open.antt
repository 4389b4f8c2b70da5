-- A lane that an earlier run left open: what kept journals say of its batch.
use Rattle.std.specs.Prelude.{◌≡◌, ℕ, ◌^◌, ◌<◌, List, length, All}
use Rattle.cbdc_model.specs.Records.{Shape, Batch, Record, txs_of, outcomes_of}
use Rattle.cbdc_model.specs.Grammar.{HasSize, IsCompact}
use Rattle.cbdc_model.specs.Ranges.{home_of}
use Rattle.cbdc_model.specs.Slots.{Phase, slot, slot_stamp, Idle, InLock, InFinish, InPrepare, InCommit, InDiscard}
use Rattle.cbdc_model.specs.Due.{open_batch}
use Rattle.cbdc_model.specs.Coins.{Output, FullTx}
use Rattle.cbdc_model.specs.World.{KeptJournals}
use Rattle.cbdc_model.specs.Sights.{Sight}
use Rattle.lane_laws.specs.Resuming.{IsPreparedAt, IsCommittedAt, IsDiscardedAt}
use Rattle.cbdc_model.specs.History.{Minted}
use Rattle.run_laws.specs.Checked.{CheckedJournals}
use Rattle.run_laws.specs.Runs.{seen_by}

-- its transactions and its last stamp are within the limits
pub record IsFit (K : Shape) (b : Batch) (J : List Record) : Type 0 where
  pub size : HasSize K (txs_of J b)
  pub limits : All IsCompact (txs_of J b)
  pub stamp : slot_stamp J b.lane < 2 ^ 63

-- from its Commit on it has an outcome for each transaction
abbrev pub HasAll : Batch → List Record → Type 0
HasAll b J = length (outcomes_of J b) ≡ length (txs_of J b)

-- the lane's batch is open as its phase says, by its coordinator's journal and those of the shards
abbrev pub IsOpenBy : Phase → Shape → Batch → Sight → (ℕ → Sight) → Type 0
IsOpenBy Idle K b log shards = Unit {0}
IsOpenBy InLock K b log shards = ⊥
IsOpenBy InFinish K b log shards = ⊥
IsOpenBy InPrepare K b log shards = IsFit K b log.seen × IsPreparedAt K b (txs_of log.seen b) (slot_stamp log.seen b.lane) log shards
IsOpenBy InCommit K b log shards =
    IsFit K b log.seen × HasAll b log.seen
    × ((prepared : ℕ) × IsCommittedAt K b (txs_of log.seen b) prepared (slot_stamp log.seen b.lane) (outcomes_of log.seen b) log shards)
IsOpenBy InDiscard K b log shards =
    IsFit K b log.seen × HasAll b log.seen
    × ((prepared : ℕ) × IsDiscardedAt K b (txs_of log.seen b) prepared (slot_stamp log.seen b.lane) log shards)

-- in kept journals the batch of a lane's slot at its coordinator is open as the slot's phase says
abbrev pub ResumeLaw : Type 0
ResumeLaw = (K : Shape) (mint : List Output) (submissions : List FullTx) (lane : ℕ) (logs shards : ℕ → Sight)
    → 0 < K.shards → home_of K lane < K.coordinators → (logs (home_of K lane)).header.shape ≡ K
    → KeptJournals K mint submissions (seen_by K logs shards)
    → IsOpenBy (slot (logs (home_of K lane)).seen lane).phase K (open_batch (logs (home_of K lane)).seen lane) (logs (home_of K lane)) shards

-- and in checked journals
abbrev pub CheckedResumeLaw : Type 0
CheckedResumeLaw = (K : Shape) (m : Minted) (lane : ℕ) (logs shards : ℕ → Sight)
    → 0 < K.shards → home_of K lane < K.coordinators → (logs (home_of K lane)).header.shape ≡ K → CheckedJournals K m (seen_by K logs shards)
    → IsOpenBy (slot (logs (home_of K lane)).seen lane).phase K (open_batch (logs (home_of K lane)).seen lane) (logs (home_of K lane)) shards
