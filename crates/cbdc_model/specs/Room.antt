-- How many bytes a record takes in its journal, and how many are kept free for records still to come.
use Rattle.std.specs.Prelude.{ℕ, zero, suc, ◌+◌, ◌*◌, List, length, sum_by}
use Rattle.cbdc_model.specs.Records.{Shape, Batch, Compact, Reply, Outcome, Answered, Record, txs_of, lock_of, Held, Missing, Taken, Won, Lacks}
use Rattle.cbdc_model.specs.Records.{Blocked, Genesis, Lock, Finish, Forget, Start, Prepare, Commit, Discard, Done, Upgrade, Carry, CarryStart, Seal}
use Rattle.cbdc_model.specs.Slots.{Phase, slot, Idle, InLock, InFinish, InPrepare, InCommit, InDiscard}

-- the bytes of a reply
abbrev pub reply_size : Reply → ℕ
reply_size Held = 1
reply_size (Missing x) = 33
reply_size (Taken x by) = 49

-- the bytes of an outcome
abbrev pub outcome_size : Outcome → ℕ
outcome_size Won = 1
outcome_size (Lacks shard x) = 41
outcome_size (Blocked shard x by) = 57

-- the bytes of a compact transaction
abbrev pub compact_size : Compact → ℕ
compact_size t = 48 + 32 * (length t.inputs + length t.outputs)

-- the bytes of an entry with its reply
abbrev pub answered_size : Answered → ℕ
answered_size a = 56 + 32 * (length a.entry.inputs + length a.entry.outputs) + reply_size a.reply

-- the bytes of a record in its journal, gate and length included
abbrev pub size_of : Record → ℕ
size_of (Genesis header hs) = 106 + 32 * length hs
size_of (Lock stamp b es) = 42 + sum_by answered_size es
size_of (Finish stamp b ds) = 42 + length ds
size_of (Forget stamp b) = 34
size_of (Start header) = 98
size_of (Prepare stamp b txs) = 42 + sum_by compact_size txs
size_of (Commit stamp b os) = 42 + sum_by outcome_size os
size_of (Discard stamp b) = 34
size_of (Done stamp b) = 34
size_of (Upgrade stamp batch) = 26
size_of (Carry stamp header source hs numbers) = 122 + 32 * length hs + 8 * length numbers
size_of (CarryStart stamp header source numbers) = 114 + 8 * length numbers
size_of (Seal stamp to shards) = 34

-- the bytes kept for the later records of a batch of so many entries at a shard: its Finish and its Forget
abbrev pub room_behind_lock : ℕ → ℕ
room_behind_lock m = 76 + m

-- the bytes kept for the later records of a batch of so many transactions: its Commit, Discard and Done
abbrev pub room_behind_prepare : ℕ → ℕ
room_behind_prepare n = 110 + 57 * n

-- what is kept for a lane's batch in a phase, where it has m entries and n transactions there
abbrev pub room_in : Phase → ℕ → ℕ → ℕ
room_in Idle m n = 0
room_in InLock m n = room_behind_lock m
room_in InFinish m n = 34
room_in InPrepare m n = room_behind_prepare n
room_in InCommit m n = 68
room_in InDiscard m n = 34

-- the bytes kept for a lane's unfinished batch at a node
abbrev pub lane_room : List Record → ℕ → ℕ
lane_room J lane =
    let s = slot J lane in
    let b : Batch = record { lane = lane; number = s.number } in
    room_in s.phase (length (lock_of J b)) (length (txs_of J b))

-- kept for the unfinished batches of the lanes below n
abbrev pub kept_below : List Record → ℕ → ℕ
kept_below J zero = 0
kept_below J (suc n) = kept_below J n + lane_room J n

-- the bytes kept for all unfinished batches at a node
abbrev pub kept_room : Shape → List Record → ℕ
kept_room K J = kept_below J (K.coordinators * K.lanes)

-- what a Lock or a Prepare needs: its own bytes, those of its batch's later records, and those kept for other batches; of another record its own
-- bytes
abbrev pub need_of : Shape → List Record → Record → ℕ
need_of K J (Lock stamp b es) = size_of (Lock stamp b es) + room_behind_lock (length es) + kept_room K J
need_of K J (Prepare stamp b txs) = size_of (Prepare stamp b txs) + room_behind_prepare (length txs) + kept_room K J
need_of K J other = size_of other
