-- The world: nodes with journals, what may happen to them, and what is kept whatever happens.
use Rattle.std.specs.Prelude.{◌≡◌, ◌⊎◌, ℕ, ◌+◌, ◌-◌, ◌<◌, ◌*◌, ◌++◌, Bool, true, false, ◌&&◌, ◌==◌, nat_lt, List, [], ◌∷◌, map, length, if◌then◌else◌}
use Rattle.std.specs.Prelude.{Option, Some, None, is_some, slice_index_or, slice_set}
use Rattle.std.specs.List.{range_with_len}
use Rattle.cbdc_types.specs.declared.calls.LockCall.{LockCall}
use Rattle.cbdc_types.specs.declared.calls.FinishCall.{FinishCall}
use Rattle.cbdc_types.specs.declared.calls.ForgetCall.{ForgetCall}
use Rattle.cbdc_model.specs.Records.{Digest, Shape, Batch, Compact, Outcome, Record, Row, record_of, journal, outcomes_of, lock_of, decisions_in}
use Rattle.cbdc_model.specs.Records.{kind_of, is_of, Genesis, Start, Lock, Finish, Forget, Prepare, Commit, Discard, lock_kind, finish_kind}
use Rattle.cbdc_model.specs.Records.{forget_kind, prepare_kind, commit_kind, discard_kind}
use Rattle.cbdc_model.specs.Status.{status, Unspent}
use Rattle.cbdc_model.specs.Slots.{slot, Idle}
use Rattle.cbdc_model.specs.Replies.{answered, entries}
use Rattle.cbdc_model.specs.Ranges.{shard_of, shard_node, home_of, on_shard, part, is_no_part, Concerned}
use Rattle.cbdc_model.specs.Outcomes.{decisions}
use Rattle.cbdc_model.specs.Grammar.{IsInGrammar}
use Rattle.cbdc_model.specs.Next.{Plan, Kept, Append, Refuse, next_lock, next_finish, next_forget, next_stamp}
use Rattle.cbdc_model.specs.After.{After}
use Rattle.cbdc_model.specs.Causes.{prepared_txs, IsCaused}
use Rattle.cbdc_model.specs.Coins.{Output, FullTx}
use Rattle.cbdc_model.specs.Clean.{IsProperCompact}
use Rattle.cbdc_model.specs.History.{Minted, minted, header_of, first_rows, TxsPass, IsKept, IsOrdered}

-- a node: its journal, whether it is up or down, and the record that was begun there and is not ended, if there is one (a crash leaves none)
pub record Node : Type 0 where
  pub journal : List Record
  pub up : Bool
  pub flight : Option Record

-- the nodes in order of their numbers
abbrev pub World : Type 0
World = List Node

-- what is taken for a node that isn't there
abbrev pub no_node : Node
no_node = record { journal = []; up = false; flight = None }

-- the node with a number
abbrev pub node_at : World → ℕ → Node
node_at w n = slice_index_or w n no_node

-- the journals of a world, by node
abbrev pub journals : World → ℕ → List Record
journals w n = (node_at w n).journal

-- a node's first record: a Start at a coordinator, at a shard a Genesis with those of the mint's hashes that lie there
abbrev pub first_record : Shape → Minted → ℕ → Record
first_record K m n =
    if nat_lt n K.coordinators
    then Start (header_of K m.id n)
    else Genesis (header_of K m.id n) (on_shard K (n - K.coordinators) m.hashes)

-- a node as the ledger begins: up, with its first record and nothing in flight
abbrev pub first_node : Shape → Minted → ℕ → Node
first_node K m n = record { journal = first_record K m n ∷ []; up = true; flight = None }

-- the first world: all nodes as the ledger begins
abbrev pub init : Shape → Minted → World
init K m = map (first_node K m) (range_with_len 0 (K.coordinators + K.shards))

-- a call at a shard
pub data ShardCall : Type 0 where
  Lock_call : (call : LockCall) → ShardCall
  Finish_call : (call : FinishCall) → ShardCall
  Forget_call : (call : ForgetCall) → ShardCall

-- the batch of a call
abbrev pub batch_of : ShardCall → Batch
batch_of (Lock_call call) = call.batch
batch_of (Finish_call call) = call.batch
batch_of (Forget_call call) = call.batch

-- the record that a planned answer appends, if it appends one
abbrev pub appends : {A : Type 0} → Plan A → Record → Option Record
appends (Kept a) r = None
appends (Append a) r = Some r
appends (Refuse why) r = None

-- the record that a shard with this journal appends at a call, if it appends one
abbrev pub record_for : List Record → ShardCall → Option Record
record_for J (Lock_call c) = appends (next_lock J c.batch c.part c.cause) (Lock (next_stamp J c.cause) c.batch (answered J c.batch [] c.part))
record_for J (Finish_call c) = appends (next_finish J c.batch c.decisions c.cause) (Finish (next_stamp J c.cause) c.batch c.decisions)
record_for J (Forget_call c) = appends (next_forget J c.batch c.cause) (Forget (next_stamp J c.cause) c.batch)

-- the node is a shard that the batch concerns, by its Prepare
abbrev pub IsConcerned : Shape → (ℕ → List Record) → ℕ → Batch → Type 0
IsConcerned K J node b = (s : ℕ) × (node ≡ shard_node K s) × Concerned K (prepared_txs K J b) s

-- the call's cause stands, with the stamp and the part or the decisions that the call carries
abbrev pub CauseStands : Shape → (ℕ → List Record) → ℕ → ShardCall → Type 0
CauseStands K J node (Lock_call c) =
    (txs : List Compact) × (record_of prepare_kind (J (home_of K c.batch.lane)) c.batch ≡ Some (Prepare c.cause c.batch txs))
    × ((s : ℕ) → node ≡ shard_node K s → c.part ≡ part K s 0 txs)
CauseStands K J node (Finish_call c) =
    (os : List Outcome) × (record_of commit_kind (J (home_of K c.batch.lane)) c.batch ≡ Some (Commit c.cause c.batch os))
    × (c.decisions ≡ decisions os (entries (lock_of (J node) c.batch)))
CauseStands K J node (Forget_call c) = record_of discard_kind (J (home_of K c.batch.lane)) c.batch ≡ Some (Discard c.cause c.batch)

-- what may happen: a record is begun, and ends at its node's journal; a node crashes, keeping what was in flight or not, and
-- is opened again; a call is made again, however old
pub data Event : Type 0 where
  Begin : (node : ℕ) (r : Record) → Event
  End : (node : ℕ) → Event
  Crash : (node : ℕ) (kept : Bool) → Event
  Reopen : (node : ℕ) → Event
  Repeat : (node : ℕ) (call : ShardCall) → Event

-- the node is up with nothing in flight
abbrev pub IsQuiet : World → ℕ → Type 0
IsQuiet w n = (n < length w) × ((node_at w n).up ≡ true) × ((node_at w n).flight ≡ None)

-- where an event changes something: a record is begun at a node that is up with nothing in flight, where it is after the journal and caused; one
-- ends at a node that is up and has one in flight; a node that is up crashes, and one that is down is opened again. A call is made again at a node
-- that is up with nothing in flight, a shard that the batch concerns, where the call's cause stands and the shard appends a record for it, which is
-- in the grammar
abbrev pub Allowed : Shape → Minted → World → Event → Type 0
Allowed K m w (Begin n r) = IsQuiet w n × After (header_of K m.id n) (journals w n) r × IsCaused K (journals w) n r
Allowed K m w (End n) = (n < length w) × ((node_at w n).up ≡ true) × (is_some (node_at w n).flight ≡ true)
Allowed K m w (Crash n kept) = (n < length w) × ((node_at w n).up ≡ true)
Allowed K m w (Reopen n) = (n < length w) × ((node_at w n).up ≡ false)
Allowed K m w (Repeat n call) =
    IsQuiet w n × IsConcerned K (journals w) n (batch_of call) × CauseStands K (journals w) n call
    × ((r : Record) × (record_for (journals w n) call ≡ Some r) × IsInGrammar (header_of K m.id n) r)

-- a journal with the record in flight
abbrev pub flushed : Option Record → List Record → List Record
flushed None J = J
flushed (Some r) J = r ∷ J

-- what an event does where it is allowed
abbrev pub effect : World → Event → World
effect w (Begin n r) = slice_set w n (record { journal = journals w n; up = true; flight = Some r })
effect w (End n) = slice_set w n (record { journal = flushed (node_at w n).flight (journals w n); up = true; flight = None })
effect w (Crash n kept) = slice_set w n (record {
  journal = if kept then flushed (node_at w n).flight (journals w n) else journals w n;
  up = false;
  flight = None;
})
effect w (Reopen n) = slice_set w n (record { journal = journals w n; up = true; flight = None })
effect w (Repeat n call) = slice_set w n (record { journal = journals w n; up = true; flight = record_for (journals w n) call })

-- the world after an event: any event that isn't allowed changes nothing
abbrev pub Step : Shape → Minted → World → Event → World → Type 0
Step K m old e new = (Allowed K m old e × (new ≡ effect old e)) ⊎ ((Allowed K m old e → ⊥) × (new ≡ old))

-- the world after events in turn
abbrev pub Run : Shape → Minted → World → List Event → World → Type 0
Run K m old [] new = new ≡ old
Run K m old (e ∷ es) new = (mid : World) × Step K m old e mid × Run K m mid es new

-- each Prepare that is begun has transactions that pass
abbrev pub EventPasses : (Compact → Type 0) → Event → Type 0
EventPasses P (Begin n r) = TxsPass P r
EventPasses P other = Unit {0}

-- each Prepare that events begin has transactions that pass
abbrev pub EventsPass : (Compact → Type 0) → List Event → Type 0
EventsPass P [] = Unit {0}
EventsPass P (e ∷ es) = EventPasses P e × EventsPass P es

-- the rows are the history of these journals: all their records by stamp and node, on top of the first ones
pub record IsHistory (K : Shape) (m : Minted) (J : ℕ → List Record) (later : List Row) : Type 0 where
  pub ordered : IsOrdered later
  pub journals_are : (n : ℕ) → journal n (later ++ first_rows K m) ≡ J n

-- the journals have a kept history
pub record KeptJournals (K : Shape) (mint : List Output) (submissions : List FullTx) (J : ℕ → List Record) : Type 0 where
  pub later : List Row
  pub history : IsHistory K (minted mint) J later
  pub kept : IsKept K mint submissions later

-- the world has all its nodes, its journals have a kept history, each record in flight is after its node's journal and caused, and a Prepare in
-- flight has compact forms of proper submissions
pub record KeptWorld (K : Shape) (mint : List Output) (submissions : List FullTx) (w : World) : Type 0 where
  pub size : length w ≡ K.coordinators + K.shards
  pub journals_kept : KeptJournals K mint submissions (journals w)
  pub flights : (n : ℕ) (r : Record) → (node_at w n).flight ≡ Some r
      → After (header_of K (minted mint).id n) (journals w n) r × IsCaused K (journals w) n r × TxsPass (IsProperCompact submissions) r

-- every lane is idle at its coordinator
abbrev pub AreIdle : Shape → (ℕ → List Record) → Type 0
AreIdle K J = (lane : ℕ) → lane < K.coordinators * K.lanes → (slot (J (home_of K lane)) lane).phase ≡ Idle

-- every node is up, nothing is in flight, and every lane is idle
pub record IsRecovered (K : Shape) (w : World) : Type 0 where
  pub up : (n : ℕ) → n < length w → (node_at w n).up ≡ true
  pub quiet : (n : ℕ) → n < length w → (node_at w n).flight ≡ None
  pub idle : AreIdle K (journals w)

-- how many records of a kind of a batch a journal has
abbrev pub count_of : ℕ → List Record → Batch → ℕ
count_of kind [] b = 0
count_of kind (r ∷ past) b = (if (kind_of r == kind) && is_of b r then 1 else 0) + count_of kind past b

-- the batch has one Commit at its coordinator; each concerned shard has one Lock and one Finish of it, with the Commit's decisions; no other
-- shard has a Lock, a Finish or a Forget of it
pub record IsAlike (K : Shape) (J : ℕ → List Record) (b : Batch) : Type 0 where
  pub one_commit : count_of commit_kind (J (home_of K b.lane)) b ≡ 1
  pub one_lock : (s : ℕ) → Concerned K (prepared_txs K J b) s → count_of lock_kind (J (shard_node K s)) b ≡ 1
  pub one_finish : (s : ℕ) → Concerned K (prepared_txs K J b) s → count_of finish_kind (J (shard_node K s)) b ≡ 1
  pub same_decisions : (s : ℕ) → Concerned K (prepared_txs K J b) s
      → decisions_in (record_of finish_kind (J (shard_node K s)) b)
      ≡ decisions (outcomes_of (J (home_of K b.lane)) b) (part K s 0 (prepared_txs K J b))
  pub no_other : (s kind : ℕ) → s < K.shards → is_no_part (part K s 0 (prepared_txs K J b)) ≡ true
      → (kind ≡ lock_kind) ⊎ (kind ≡ finish_kind) ⊎ (kind ≡ forget_kind) → count_of kind (J (shard_node K s)) b ≡ 0

-- every batch with a Prepare is finished alike on all its shards
abbrev pub Alike : Shape → (ℕ → List Record) → Type 0
Alike K J = (b : Batch) → is_some (record_of prepare_kind (J (home_of K b.lane)) b) ≡ true → IsAlike K J b

-- the hash is Unspent at its shard
abbrev pub IsUnspent : Shape → (ℕ → List Record) → Digest → Type 0
IsUnspent K J x = status (J (shard_node K (shard_of K x))) x ≡ Unspent

-- the journals with one node's replaced
abbrev pub replaced : (ℕ → List Record) → ℕ → List Record → ℕ → List Record
replaced J n own k = if n == k then own else J k
