-- Which hashes are held for transactions that are not committed, and which are owed to transactions that are: row by row.
use Rattle.std.specs.Prelude.{ℕ, Bool, false, not, ◌&&◌, ◌||◌, List, [], ◌∷◌, ◌++◌, is_some, if◌then◌else◌}
use Rattle.cbdc_model.specs.Records.{Digest, Shape, Batch, Answered, Outcome, Record, Row, is_held, record_of, lock_of, txs_of, outcomes_of, Lock}
use Rattle.cbdc_model.specs.Records.{Commit, finish_kind}
use Rattle.cbdc_model.specs.Ranges.{home_of, shard_of, shard_node}
use Rattle.cbdc_model.specs.Outcomes.{won_at, won_txs}
use Rattle.cbdc_model.specs.Status.{has, status}
use Rattle.cbdc_model.specs.History.{all_outputs}
use Rattle.audit.specs.Standing.{is_here, is_locked_by}

-- whether an entry is Held, and its transaction is not committed by these outcomes
abbrev pub waits : List Outcome → Answered → Bool
waits os a = is_held a.reply && not (won_at os a.entry.place)

-- the inputs of the entries that wait
abbrev pub waiting_inputs : List Outcome → List Answered → List Digest
waiting_inputs os [] = []
waiting_inputs os (a ∷ es) = if waits os a then a.entry.inputs ++ waiting_inputs os es else waiting_inputs os es

-- the journal of the shard on which a hash lies
abbrev pub shard_journal : Shape → (ℕ → List Record) → Digest → List Record
shard_journal K J x = J (shard_node K (shard_of K x))

-- whether a record of a node is a Lock that holds the hash for a transaction that is not committed
abbrev pub holds_back : Shape → (ℕ → List Record) → ℕ → Record → Digest → Bool
holds_back K J n (Lock stamp b es) x =
    has (waiting_inputs (outcomes_of (J (home_of K b.lane)) b) (lock_of (J n) b)) x
    && (is_here K n x && is_locked_by b (status (shard_journal K J x) x))
holds_back K J n other x = false

-- whether the Finish of a batch at the shard of the hash is still to come
abbrev pub is_due : Shape → (ℕ → List Record) → Batch → Digest → Bool
is_due K J b x = not (is_some (record_of finish_kind (shard_journal K J x) b))

-- whether a record is a Commit of a batch of which the hash is an output that is still to come
abbrev pub owes : Shape → (ℕ → List Record) → Record → Digest → Bool
owes K J (Commit stamp b os) x = has (all_outputs (won_txs (txs_of (J (home_of K b.lane)) b) (outcomes_of (J (home_of K b.lane)) b))) x
    && is_due K J b x
owes K J other x = false

-- whether a test passes one of the rows
abbrev pub any_row : (Row → Bool) → List Row → Bool
any_row test [] = false
any_row test (row ∷ rows) = test row || any_row test rows
