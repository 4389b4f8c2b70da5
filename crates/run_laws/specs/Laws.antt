-- The laws, each as one statement.
use Rattle.std.specs.Prelude.{◌≡◌, ◌⊎◌, ℕ, ◌+◌, ◌*◌, ◌^◌, ◌<◌, ◌≤◌, Bool, List, ◌∷◌, ◌++◌, Contains}
use Rattle.cbdc_types.specs.Limits.{IsWithinLimits}
use Rattle.cbdc_model.specs.Records.{Digest, Shape, Batch, Record, Row, journal, stamp_of, last_stamp, lock_kind, finish_kind, forget_kind}
use Rattle.cbdc_model.specs.After.{After, IsFirst}
use Rattle.cbdc_model.specs.Causes.{IsCaused}
use Rattle.cbdc_model.specs.Clean.{Clean, IsProperCompact}
use Rattle.cbdc_model.specs.Coins.{Output, FullTx}
use Rattle.cbdc_model.specs.Ranges.{shard_node}
use Rattle.cbdc_model.specs.Headline.{NoneTwice, NoIdTwice}
use Rattle.cbdc_model.specs.History.{Minted, minted, header_of, first_rows, TxsPass, IsSteady, IsKept, history_of, committed, all_inputs}
use Rattle.cbdc_model.specs.History.{AreCommitted}
use Rattle.cbdc_model.specs.Lanes.{IsEnd, Seen}
use Rattle.cbdc_model.specs.World.{World, EventsPass, AreIdle, KeptJournals, KeptWorld, count_of, ShardCall, batch_of, IsConcerned, CauseStands}
use Rattle.ledger_laws.specs.Laws.{IsCallGranted}
use Rattle.ledger_laws.specs.Phases.{IsInPhaseOrder, IsAfterEarlier}
use Rattle.ledger_laws.specs.Reach.{events_of}
use Rattle.ledger_laws.specs.Resumed.{Recovers}
use Rattle.ledger_laws.specs.Sets.{IsPlaced, IsWaiting, IsComing}
use Rattle.run_laws.specs.LocksDue.{opened, LocksFit, Sticks}
use Rattle.run_laws.specs.Worlds.{with_flights}

-- of what is committed in a kept history no two inputs name one outpoint, in one transaction or in two, and no id stands twice
abbrev pub OnceLaw : Type 0
OnceLaw = (K : Shape) (mint : List Output) (submissions : List FullTx) (later : List Row) (txs : List FullTx) → 0 < K.shards → Clean mint submissions
    → IsKept K mint submissions later → AreCommitted submissions (history_of K mint later) txs → NoneTwice txs × NoIdTwice (history_of K mint later)

-- an input of a committed transaction is in none of the three sets of hashes, though it may still be Locked
abbrev pub SpentLaw : Type 0
SpentLaw = (K : Shape) (mint : List Output) (submissions : List FullTx) (later : List Row) (x : Digest) → 0 < K.shards → Clean mint submissions
    → IsKept K mint submissions later → Contains (all_inputs (committed (history_of K mint later))) x → IsPlaced K (history_of K mint later) x → ⊥

-- where every lane is idle no hash waits, and none is still to come
abbrev pub NoneOpenLaw : Type 0
NoneOpenLaw = (K : Shape) (mint : List Output) (submissions : List FullTx) (later : List Row) (x : Digest) → 0 < K.shards → 0 < K.lanes
    → Clean mint submissions
    → IsKept K mint submissions later → AreIdle K (λ n. journal n (history_of K mint later))
    → (IsWaiting K (history_of K mint later) x → ⊥) × (IsComing K (history_of K mint later) x → ⊥)

-- journals stay kept as they grow, where each new record is after its journal and caused by beginnings of them: what is known of the old ones stays
abbrev pub LongerLaw : Type 0
LongerLaw = (K : Shape) (mint : List Output) (submissions : List FullTx) (J X : ℕ → List Record) → 0 < K.shards → KeptJournals K mint submissions J
    → ((n : ℕ) → IsEnd (J n) (X n))
    → ((n : ℕ) (newer rest : List Record) (r : Record) → X n ≡ newer ++ r ∷ rest → IsEnd (J n) rest
    → After (header_of K (minted mint).id n) rest r × Seen K X n rest r × TxsPass (IsProperCompact submissions) r)
    → KeptJournals K mint submissions X

-- the journals of a kept world are kept, whichever of the records in flight are counted
abbrev pub CountedLaw : Type 0
CountedLaw = (K : Shape) (mint : List Output) (submissions : List FullTx) (w : World) (counts : ℕ → Bool) → 0 < K.shards
    → KeptWorld K mint submissions w → KeptJournals K mint submissions (with_flights counts w)

-- the events that write a kept history begin no Prepare but with compact forms of proper submissions: so what is kept is what runs of such events
-- reach
abbrev pub PassLaw : Type 0
PassLaw = (K : Shape) (mint : List Output) (submissions : List FullTx) (later : List Row) → IsKept K mint submissions later
    → EventsPass (IsProperCompact submissions) (events_of later)

-- a stamp for each record of one batch a lane that comes behind the Locks: a Finish and a Forget of each shard, a Commit, a Discard, a Done
abbrev pub late_records : Shape → ℕ
late_records K = K.coordinators * K.lanes * (2 * K.shards + 3)

-- no stamp of kept journals is above 2^62 by more than these
abbrev pub FewLateLaw : Type 0
FewLateLaw = (K : Shape) (mint : List Output) (submissions : List FullTx) (J : ℕ → List Record) (n : ℕ) → 0 < K.shards
    → KeptJournals K mint submissions J → last_stamp (J n) ≤ 2 ^ 62 + late_records K

-- no record that is caused by kept journals and is no first one needs a stamp above 2^62 + 2^20
abbrev pub NoneRefusedLaw : Type 0
NoneRefusedLaw = (K : Shape) (mint : List Output) (submissions : List FullTx) (J : ℕ → List Record) (n : ℕ) (r : Record) → IsWithinLimits K
    → KeptJournals K mint submissions J → (IsFirst r → ⊥) → IsCaused K J n r → stamp_of r ≤ 2 ^ 62 + 2 ^ 20

-- from any kept world where no Lock that is still to come needs a stamp above 2^62, bringing the nodes up, whatever they keep of what was in
-- flight, and writing what is still to come leads to a kept and recovered world, with no new Prepare; whatever stamps the world has
abbrev pub WorldRecoveryLaw : Type 0
WorldRecoveryLaw = (K : Shape) (mint : List Output) (submissions : List FullTx) (w : World) (kept_at : ℕ → Bool) → IsWithinLimits K
    → KeptWorld K mint submissions w → LocksFit K (opened kept_at w) → Recovers K mint submissions kept_at w

-- from any kept world at all the same leads to a recovered world, or to one in which a Lock that is still to come needs such a stamp, behind
-- nothing but Locks
abbrev pub StuckLaw : Type 0
StuckLaw = (K : Shape) (mint : List Output) (submissions : List FullTx) (w : World) (kept_at : ℕ → Bool) → IsWithinLimits K
    → KeptWorld K mint submissions w → Recovers K mint submissions kept_at w ⊎ Sticks K mint submissions kept_at w

-- what a repeated call is answered, and the phase order, rest on what the program itself checks: whatever hashes the first records hold, and
-- whatever transactions are prepared
abbrev pub CheckedLaw : Type 0
CheckedLaw = (K : Shape) (m : Minted) (later : List Row) → 0 < K.shards → IsSteady K m (λ k. Unit {0}) later
    → ((node : ℕ) (call : ShardCall) → IsConcerned K (λ n. journal n (later ++ first_rows K m)) node (batch_of call)
    → CauseStands K (λ n. journal n (later ++ first_rows K m)) node call → IsCallGranted (journal node (later ++ first_rows K m)) call)
    × ((b : Batch) → IsInPhaseOrder K (λ n. journal n (later ++ first_rows K m)) b)
    × ((c b : Batch) → IsAfterEarlier K (λ n. journal n (later ++ first_rows K m)) c b)

-- a shard has no record of a batch but Locks, Finishes and Forgets
abbrev pub ShardKindsLaw : Type 0
ShardKindsLaw = (K : Shape) (mint : List Output) (submissions : List FullTx) (later : List Row) (s kind : ℕ) (b : Batch) → s < K.shards
    → IsKept K mint submissions later → ((kind ≡ lock_kind) ⊎ (kind ≡ finish_kind) ⊎ (kind ≡ forget_kind) → ⊥)
    → count_of kind (journal (shard_node K s) (history_of K mint later)) b ≡ 0
