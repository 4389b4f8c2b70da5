-- Histories: the records of all nodes in one order, the newest row first. Which are kept, and what they commit.
use Rattle.std.specs.Prelude.{◌≡◌, ℕ, zero, suc, Bool, true, ◌&&◌, ◌||◌, ◌==◌, nat_lt, List, [], ◌∷◌, ◌++◌, All, find, Option, Some}
use Rattle.cbdc_model.specs.Records.{Digest, same_digest, Shape, Header, Batch, Compact, Record, Row, journal, stamp_of, txs_of, outcomes_of, Genesis}
use Rattle.cbdc_model.specs.Records.{Start, Prepare, Commit}
use Rattle.cbdc_model.specs.Ranges.{shard_node, on_shard, lane_journal}
use Rattle.cbdc_model.specs.Outcomes.{won_txs}
use Rattle.cbdc_model.specs.After.{After}
use Rattle.cbdc_model.specs.Causes.{IsCaused}
use Rattle.cbdc_model.specs.Next.{same_digests}
use Rattle.cbdc_model.specs.Coins.{Output, FullTx, compact, genesis_id, genesis_hashes}
use Rattle.cbdc_model.specs.Clean.{IsProperCompact}

-- what first records say of a mint: its id, and the hashes of its coins
pub record Minted : Type 0 where
  pub id : Digest
  pub hashes : List Digest

-- the id of a mint and the hashes of its coins
abbrev pub minted : List Output → Minted
minted mint = record { id = genesis_id mint; hashes = genesis_hashes mint }

-- the header of a node's journal
abbrev pub header_of : Shape → Digest → ℕ → Header
header_of K genesis n = record { node = n; shape = K; genesis = genesis }

-- the Start rows of the coordinators below a number
abbrev pub starts : Shape → Minted → ℕ → List Row
starts K m zero = []
starts K m (suc n) = record { node = n; what = Start (header_of K m.id n) } ∷ starts K m n

-- the Genesis rows of the shards below a number, each with those of the mint's hashes that lie there, in order
abbrev pub geneses : Shape → Minted → ℕ → List Row
geneses K m zero = []
geneses K m (suc s) =
    record { node = shard_node K s; what = Genesis (header_of K m.id (shard_node K s)) (on_shard K s m.hashes) } ∷ geneses K m s

-- all first rows of a ledger: a Start at each coordinator, a Genesis at each shard
abbrev pub first_rows : Shape → Minted → List Row
first_rows K m = geneses K m K.shards ++ starts K m K.coordinators

-- a history of a ledger: rows on top of the first ones
abbrev pub history_of : Shape → List Output → List Row → List Row
history_of K mint later = later ++ first_rows K (minted mint)

-- a Prepare has transactions that pass
abbrev pub TxsPass : (Compact → Type 0) → Record → Type 0
TxsPass P (Prepare stamp b txs) = All P txs
TxsPass P other = Unit {0}

-- each row behind the first ones is after those of its journal, and caused by rows before it; Prepares have transactions that pass
abbrev pub IsSteady : Shape → Minted → (Compact → Type 0) → List Row → Type 0
IsSteady K m P [] = Unit {0}
IsSteady K m P (row ∷ later) =
    let past = later ++ first_rows K m in
    After (header_of K m.id row.node) (journal row.node past) row.what
    × IsCaused K (λ n. journal n past) row.node row.what
    × TxsPass P row.what
    × IsSteady K m P later

-- the rows are those of a ledger with this mint, whose Prepares have compact forms of proper submissions
abbrev pub IsKept : Shape → List Output → List FullTx → List Row → Type 0
IsKept K mint submissions later = IsSteady K (minted mint) (IsProperCompact submissions) later

-- a row goes above another: by stamp, then by node
abbrev pub goes_above : Row → Row → Bool
goes_above row head = nat_lt (stamp_of head.what) (stamp_of row.what) || ((stamp_of head.what == stamp_of row.what) && nat_lt head.node row.node)

-- a row goes above the newest of a list
abbrev pub IsAbove : Row → List Row → Type 0
IsAbove row [] = Unit {0}
IsAbove row (next ∷ later) = goes_above row next ≡ true

-- rows by stamp and node, the newest first
abbrev pub IsOrdered : List Row → Type 0
IsOrdered [] = Unit {0}
IsOrdered (row ∷ later) = IsAbove row later × IsOrdered later

-- the rows are the history of these journals, the newest record of each first: all their records, by stamp and node
pub record IsHistoryOf (J : ℕ → List Record) (rows : List Row) : Type 0 where
  pub ordered : IsOrdered rows
  pub journals_are : (n : ℕ) → journal n rows ≡ J n

-- what a record commits, behind this journal
abbrev pub newly_won : Record → List Record → List Compact
newly_won (Commit stamp b os) past = won_txs (txs_of past b) os
newly_won other past = []

-- the committed transactions of a history, in the order of their Commits, the oldest first
abbrev pub committed : List Row → List Compact
committed [] = []
committed (row ∷ past) = committed past ++ newly_won row.what (journal row.node past)

-- the committed transactions of one batch
abbrev pub won_of : Shape → List Row → Batch → List Compact
won_of K past b = won_txs (txs_of (lane_journal K past b) b) (outcomes_of (lane_journal K past b) b)

-- the input hashes of compact transactions
abbrev pub all_inputs : List Compact → List Digest
all_inputs [] = []
all_inputs (t ∷ ts) = t.inputs ++ all_inputs ts

-- the output hashes of compact transactions
abbrev pub all_outputs : List Compact → List Digest
all_outputs [] = []
all_outputs (t ∷ ts) = t.outputs ++ all_outputs ts

-- whether two compact transactions are the same
abbrev pub same_compact : Compact → Compact → Bool
same_compact a b = same_digest a.id b.id && (same_digests a.inputs b.inputs && same_digests a.outputs b.outputs)

-- the first submission with a compact form
abbrev pub first_with : List FullTx → Compact → Option FullTx
first_with submissions k = find (λ t. same_compact (compact t) k) submissions

-- for each compact form in turn the first submission with it, none left out
abbrev pub AreHandedIn : List FullTx → List Compact → List FullTx → Type 0
AreHandedIn submissions [] [] = Unit {0}
AreHandedIn submissions [] (t ∷ ts) = ⊥
AreHandedIn submissions (k ∷ ks) [] = ⊥
AreHandedIn submissions (k ∷ ks) (t ∷ ts) = (first_with submissions k ≡ Some t) × AreHandedIn submissions ks ts

-- the committed transactions of a history as they were handed in
abbrev pub AreCommitted : List FullTx → List Row → List FullTx → Type 0
AreCommitted submissions past ts = AreHandedIn submissions (committed past) ts
