-- What is kept of the hashes along a walk over a history.
use Rattle.std.specs.Prelude.{◌≡◌, ℕ, Bool, true, false, ◌==◌, List, Option, Some, None, if◌then◌else◌}
use Rattle.cbdc_model.specs.Records.{Digest, Shape, Batch, Record, Row, same_batch, lock_of, Genesis, Lock, Finish, Carry}
use Rattle.cbdc_model.specs.Status.{Status, status, has, held_inputs, finished_status, Unspent, Locked, Absent}
use Rattle.cbdc_model.specs.Ranges.{shard_of, shard_node, journal_at}
use Rattle.shard_table.specs.Entries.{lookup}
use Rattle.audit.specs.declared.statuses.Statuses.{Statuses}

-- the status of a hash, by whether it is unspent, and the batch that holds it, if one does
abbrev pub said_of : Bool → Option Batch → Status
said_of true by = Unspent
said_of false (Some b) = Locked b
said_of false None = Absent

-- the status that is kept of a hash
abbrev pub says : Statuses → Digest → Status
says s x = said_of (has s.unspent.hashes x) (lookup s.locked.entries x)

-- whether a hash lies on the shard of this node
abbrev pub is_here : Shape → ℕ → Digest → Bool
is_here K node x = node == shard_node K (shard_of K x)

-- whether a status is that of a hash that this batch holds
abbrev pub is_locked_by : Batch → Status → Bool
is_locked_by b Unspent = false
is_locked_by b (Locked c) = same_batch c b
is_locked_by b Absent = false

-- what a record behind a journal makes of the status of a hash
abbrev pub next_status : Record → List Record → Digest → Status → Status
next_status (Genesis header hs) J x before = if has hs x then Unspent else before
next_status (Carry stamp header source hs numbers) J x before = if has hs x then Unspent else before
next_status (Lock stamp b es) J x before = if has (held_inputs es) x then Locked b else before
next_status (Finish stamp b ds) J x before = finished_status (lock_of J b) ds x before
next_status other J x before = before

-- of each hash the status is kept that the journal of its shard gives it
abbrev pub HasStatuses : Shape → Statuses → List Row → Type 0
HasStatuses K s past = (x : Digest) → says s x ≡ status (journal_at K past x) x
