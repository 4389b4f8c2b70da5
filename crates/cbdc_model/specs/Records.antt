-- The records of the journals, and how one is found. A journal is a list of records, the newest first. The reply Locked is named Taken here,
-- and the outcomes Held, Missing and Locked are Won, Lacks and Blocked.
use Rattle.std.specs.Prelude.{ℕ, ◌/◌, nat_lt, length, Bool, true, false, ◌&&◌, ◌==◌, List, [], ◌∷◌, if◌then◌else◌, Option, Some, None, find, bytes_eq}
use Rattle.base_types.specs.declared.ids.BatchId.{BatchId}
use Rattle.cbdc_types.specs.declared.tx.CompactTx.{CompactTx}
pub use Rattle.cbdc_types.specs.Limits.{ShapeOf as Shape}
pub use Rattle.cbdc_types.specs.declared.record.Header.{Header}
pub use Rattle.cbdc_types.specs.declared.batch.Entry.{Entry}
pub use Rattle.cbdc_types.specs.declared.batch.Reply.{Reply}
pub use Rattle.cbdc_types.specs.declared.batch.Reply.TheVariants.{Held, Missing, Locked as Taken}
pub use Rattle.cbdc_types.specs.declared.batch.Outcome.{Outcome}
pub use Rattle.cbdc_types.specs.declared.batch.Outcome.TheVariants.{Held as Won, Missing as Lacks, Locked as Blocked}
pub use Rattle.cbdc_types.specs.declared.batch.Answered.{Answered}
pub use Rattle.cbdc_types.specs.declared.record.Record.{Record}
pub use Rattle.cbdc_types.specs.declared.record.Record.TheVariants.{Genesis, Lock, Finish, Forget, Start, Prepare, Commit, Discard, Done, Upgrade}
pub use Rattle.cbdc_types.specs.declared.record.Record.TheVariants.{Carry, CarryStart, Seal}

-- a hash: its 32 bytes, as a list of numbers (that each is below 256 is the type's)
abbrev pub Digest : Type 0
Digest = List ℕ

-- whether two hashes are the same
unfoldable pub same_digest : Digest → Digest → Bool
same_digest x y = bytes_eq x y

-- a batch's name: its lane and its number there
abbrev pub Batch : Type 0
Batch = BatchId

-- a transaction as coordinators and shards see it
abbrev pub Compact : Type 0
Compact = CompactTx

-- whether two names are of one batch
abbrev pub same_batch : Batch → Batch → Bool
same_batch a b = (a.lane == b.lane) && (a.number == b.number)

-- whether a reply is Held
abbrev pub is_held : Reply → Bool
is_held Held = true
is_held (Missing x) = false
is_held (Taken x by) = false

-- whether the transaction is committed
abbrev pub is_won : Outcome → Bool
is_won Won = true
is_won (Lacks shard x) = false
is_won (Blocked shard x by) = false

-- a record's stamp: 0 for a first record of a mint
abbrev pub stamp_of : Record → ℕ
stamp_of (Genesis header hashes) = 0
stamp_of (Lock stamp b es) = stamp
stamp_of (Finish stamp b ds) = stamp
stamp_of (Forget stamp b) = stamp
stamp_of (Start header) = 0
stamp_of (Prepare stamp b txs) = stamp
stamp_of (Commit stamp b os) = stamp
stamp_of (Discard stamp b) = stamp
stamp_of (Done stamp b) = stamp
stamp_of (Upgrade stamp batch) = stamp
stamp_of (Carry stamp header source hs numbers) = stamp
stamp_of (CarryStart stamp header source numbers) = stamp
stamp_of (Seal stamp to shards) = stamp

-- the kind of a Genesis, a shard's first record: the first byte of its body
abbrev pub genesis_kind : ℕ
genesis_kind = 1

-- the kind of a Lock: the first byte of its body
abbrev pub lock_kind : ℕ
lock_kind = 2

-- the kind of a Finish: the first byte of its body
abbrev pub finish_kind : ℕ
finish_kind = 3

-- the kind of a Forget: the first byte of its body
abbrev pub forget_kind : ℕ
forget_kind = 4

-- the kind of a Start, a coordinator's first record: the first byte of its body
abbrev pub start_kind : ℕ
start_kind = 5

-- the kind of a Prepare: the first byte of its body
abbrev pub prepare_kind : ℕ
prepare_kind = 6

-- the kind of a Commit: the first byte of its body
abbrev pub commit_kind : ℕ
commit_kind = 7

-- the kind of a Discard: the first byte of its body
abbrev pub discard_kind : ℕ
discard_kind = 8

-- the kind of a Done: the first byte of its body
abbrev pub done_kind : ℕ
done_kind = 9

-- the kind of an Upgrade: the first byte of its body
abbrev pub upgrade_kind : ℕ
upgrade_kind = 10

-- the kind of a Carry, a shard's first record in a later generation: the first byte of its body
abbrev pub carry_kind : ℕ
carry_kind = 12

-- the kind of a CarryStart, a coordinator's first record in a later generation: the first byte of its body
abbrev pub carry_start_kind : ℕ
carry_start_kind = 13

-- the kind of a Seal: the first byte of its body
abbrev pub seal_kind : ℕ
seal_kind = 14

-- a record's kind
abbrev pub kind_of : Record → ℕ
kind_of (Genesis header hashes) = genesis_kind
kind_of (Lock stamp b es) = lock_kind
kind_of (Finish stamp b ds) = finish_kind
kind_of (Forget stamp b) = forget_kind
kind_of (Start header) = start_kind
kind_of (Prepare stamp b txs) = prepare_kind
kind_of (Commit stamp b os) = commit_kind
kind_of (Discard stamp b) = discard_kind
kind_of (Done stamp b) = done_kind
kind_of (Upgrade stamp batch) = upgrade_kind
kind_of (Carry stamp header source hs numbers) = carry_kind
kind_of (CarryStart stamp header source numbers) = carry_start_kind
kind_of (Seal stamp to shards) = seal_kind

-- whether a record is of this batch
abbrev pub is_of : Batch → Record → Bool
is_of b (Genesis header hashes) = false
is_of b (Lock stamp c es) = same_batch c b
is_of b (Finish stamp c ds) = same_batch c b
is_of b (Forget stamp c) = same_batch c b
is_of b (Start header) = false
is_of b (Prepare stamp c txs) = same_batch c b
is_of b (Commit stamp c os) = same_batch c b
is_of b (Discard stamp c) = same_batch c b
is_of b (Done stamp c) = same_batch c b
is_of b (Upgrade stamp batch) = false
is_of b (Carry stamp header source hs numbers) = false
is_of b (CarryStart stamp header source numbers) = false
is_of b (Seal stamp to shards) = false

-- whether a record is of a batch of this lane
abbrev pub is_in_lane : ℕ → Record → Bool
is_in_lane lane (Genesis header hashes) = false
is_in_lane lane (Lock stamp c es) = c.lane == lane
is_in_lane lane (Finish stamp c ds) = c.lane == lane
is_in_lane lane (Forget stamp c) = c.lane == lane
is_in_lane lane (Start header) = false
is_in_lane lane (Prepare stamp c txs) = c.lane == lane
is_in_lane lane (Commit stamp c os) = c.lane == lane
is_in_lane lane (Discard stamp c) = c.lane == lane
is_in_lane lane (Done stamp c) = c.lane == lane
is_in_lane lane (Upgrade stamp batch) = false
is_in_lane lane (Carry stamp header source hs numbers) = false
is_in_lane lane (CarryStart stamp header source numbers) = false
is_in_lane lane (Seal stamp to shards) = false

-- whether a record tells what the lane's last batch is: one of the lane, and a first record that has the lane's number
abbrev pub tells_lane : ℕ → Record → Bool
tells_lane lane (Carry stamp header source hs numbers) = nat_lt lane (length numbers)
tells_lane lane (CarryStart stamp header source numbers) = lane / header.shape.lanes == header.node
tells_lane lane other = is_in_lane lane other

-- the newest record of a kind of a batch
abbrev pub record_of : ℕ → List Record → Batch → Option Record
record_of kind past b = find (λ r. (kind_of r == kind) && is_of b r) past

-- the answered entries of a Lock that was found, none of another record
abbrev pub entries_in : Option Record → List Answered
entries_in (Some (Lock stamp b es)) = es
entries_in other = []

-- the transactions of a Prepare that was found
abbrev pub txs_in : Option Record → List Compact
txs_in (Some (Prepare stamp b txs)) = txs
txs_in other = []

-- the outcomes of a Commit that was found
abbrev pub outcomes_in : Option Record → List Outcome
outcomes_in (Some (Commit stamp b os)) = os
outcomes_in other = []

-- the decisions of a Finish that was found
abbrev pub decisions_in : Option Record → List Bool
decisions_in (Some (Finish stamp b ds)) = ds
decisions_in other = []

-- the stamp of a record that was found, 0 where none was
abbrev pub stamp_in : Option Record → ℕ
stamp_in (Some r) = stamp_of r
stamp_in None = 0

-- the transactions of a batch's Prepare in a journal
abbrev pub txs_of : List Record → Batch → List Compact
txs_of past b = txs_in (record_of prepare_kind past b)

-- the outcomes of a batch's Commit in a journal
abbrev pub outcomes_of : List Record → Batch → List Outcome
outcomes_of past b = outcomes_in (record_of commit_kind past b)

-- the answered entries of a batch's Lock in a journal
abbrev pub lock_of : List Record → Batch → List Answered
lock_of past b = entries_in (record_of lock_kind past b)

-- the stamp of the newest record, 0 where there is none
abbrev pub last_stamp : List Record → ℕ
last_stamp [] = 0
last_stamp (r ∷ past) = stamp_of r

-- a row of a history: a record with its node
pub record Row : Type 0 where
  pub node : ℕ
  pub what : Record

-- a node's journal, newest first, of a history, newest first
abbrev pub journal : ℕ → List Row → List Record
journal n [] = []
journal n (row ∷ past) = if row.node == n then row.what ∷ journal n past else journal n past
