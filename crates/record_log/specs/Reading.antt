-- Reading a record's body from left to right, whatever the journal.
use Rattle.std.specs.Prelude.{ℕ, Bool, ◌&&◌, List, Result, Ok, Err, nat_eq, nat_le, if◌then◌else◌, bytes_eq}
use Rattle.cbdc_types.specs.Limits.{ShapeOf}
use Rattle.cbdc_types.specs.declared.record.Header.{Header}
use Rattle.cbdc_types.specs.declared.record.Record.{Record}
use Rattle.cbdc_types.specs.declared.record.Record.TheVariants.{Genesis, Lock, Finish, Forget, Start, Prepare, Commit, Discard, Done}
use Rattle.base_types.specs.declared.faults.InputKind.TheVariants.{Form}
use Rattle.byte_fields.specs.declared.fault.Fault.{Fault}
use Rattle.byte_fields.specs.Faults.{◌>>=◌, fault}
use Rattle.byte_fields.specs.Reading.{field_at, number_at, hash_at, list_at}
use Rattle.byte_fields.specs.Records.{byte_at, small_at, batch_at, compact_at, answered_at, outcome_field_at, decision_at}
use Rattle.record_log.specs.declared.reading.Head.{Head}
use Rattle.record_log.specs.Bodies.{magic}
use Rattle.cbdc_model.specs.Records.{genesis_kind, lock_kind, finish_kind, forget_kind, start_kind, prepare_kind, commit_kind, discard_kind}
use Rattle.cbdc_model.specs.Records.{done_kind}

-- the eight bytes HAMJRNL1 at the front; any others are out of form
unfoldable pub magic_at : List ℕ → Result (List ℕ × List ℕ) Fault
magic_at bytes = do
  m ← field_at 8 (λ b. b) bytes
  if bytes_eq m.0 magic then Ok (m.0, m.1) else Err (fault Form bytes)

-- whether a number is from 1 to a limit
abbrev pub is_from_one_to : ℕ → ℕ → Bool
is_from_one_to limit n = nat_le 1 n && nat_le n limit

-- whether each number of a shape is within the greatest limit of any ledger
abbrev pub is_shape : ShapeOf → Bool
is_shape s = is_from_one_to 64 s.shards && (is_from_one_to 16 s.coordinators && (is_from_one_to 16 s.lanes && is_from_one_to 1024 s.batch))

-- the four numbers of a shape at the front, each below 2^32
unfoldable pub sizes_at : List ℕ → Result (ShapeOf × List ℕ) Fault
sizes_at bytes = do
  shards ← small_at bytes
  coordinators ← small_at shards.1
  lanes ← small_at coordinators.1
  batch ← small_at lanes.1
  Ok (record { shards = shards.0; coordinators = coordinators.0; lanes = lanes.0; batch = batch.0 }, batch.1)

-- a shape at the front; out of form where one of its numbers is not within its limit
unfoldable pub shape_at : List ℕ → Result (ShapeOf × List ℕ) Fault
shape_at bytes = do
  s ← sizes_at bytes
  if is_shape s.0 then Ok (s.0, s.1) else Err (fault Form bytes)

-- a header at the front: the magic, the node's number, the shape, and the id of the genesis
unfoldable pub header_at : List ℕ → Result (Header × List ℕ) Fault
header_at bytes = do
  m ← magic_at bytes
  node ← small_at m.1
  shape ← shape_at node.1
  genesis ← hash_at shape.1
  Ok (record { node = node.0; shape = shape.0; genesis = genesis.0 }, genesis.1)

-- the stamp of a first record at the front, which is 0
unfoldable pub zero_at : List ℕ → Result (ℕ × List ℕ) Fault
zero_at bytes = do
  n ← number_at bytes
  if nat_eq n.0 0 then Ok (n.0, n.1) else Err (fault Form bytes)

-- the stamp and the batch at the front, of a record that is no first one
unfoldable pub head_at : List ℕ → Result (Head × List ℕ) Fault
head_at bytes = do
  stamp ← number_at bytes
  b ← batch_at stamp.1
  Ok (record { stamp = stamp.0; batch = b.0 }, b.1)

-- a Genesis behind the byte of its kind: the stamp, the header, and at most 1,000,000 hashes
unfoldable pub genesis_at : List ℕ → Result (Record × List ℕ) Fault
genesis_at bytes = do
  stamp ← zero_at bytes
  h ← header_at stamp.1
  hs ← list_at 1000000 hash_at h.1
  Ok (Genesis h.0 hs.0, hs.1)

-- a Start behind the byte of its kind: the stamp and the header
unfoldable pub start_at : List ℕ → Result (Record × List ℕ) Fault
start_at bytes = do
  stamp ← zero_at bytes
  h ← header_at stamp.1
  Ok (Start h.0, h.1)

-- a Lock behind the byte of its kind: its stamp and batch, and at most 1,024 answered entries
unfoldable pub lock_at : List ℕ → Result (Record × List ℕ) Fault
lock_at bytes = do
  h ← head_at bytes
  es ← list_at 1024 answered_at h.1
  Ok (Lock h.0.stamp h.0.batch es.0, es.1)

-- a Finish behind the byte of its kind: its stamp and batch, and at most 1,024 decisions
unfoldable pub finish_at : List ℕ → Result (Record × List ℕ) Fault
finish_at bytes = do
  h ← head_at bytes
  ds ← list_at 1024 decision_at h.1
  Ok (Finish h.0.stamp h.0.batch ds.0, ds.1)

-- a Forget behind the byte of its kind: its stamp and batch
unfoldable pub forget_at : List ℕ → Result (Record × List ℕ) Fault
forget_at bytes = do
  h ← head_at bytes
  Ok (Forget h.0.stamp h.0.batch, h.1)

-- a Prepare behind the byte of its kind: its stamp and batch, and at most 1,024 transactions
unfoldable pub prepare_at : List ℕ → Result (Record × List ℕ) Fault
prepare_at bytes = do
  h ← head_at bytes
  txs ← list_at 1024 compact_at h.1
  Ok (Prepare h.0.stamp h.0.batch txs.0, txs.1)

-- a Commit behind the byte of its kind: its stamp and batch, and at most 1,024 outcomes
unfoldable pub commit_at : List ℕ → Result (Record × List ℕ) Fault
commit_at bytes = do
  h ← head_at bytes
  os ← list_at 1024 outcome_field_at h.1
  Ok (Commit h.0.stamp h.0.batch os.0, os.1)

-- a Discard behind the byte of its kind: its stamp and batch
unfoldable pub discard_at : List ℕ → Result (Record × List ℕ) Fault
discard_at bytes = do
  h ← head_at bytes
  Ok (Discard h.0.stamp h.0.batch, h.1)

-- a Done behind the byte of its kind: its stamp and batch
unfoldable pub done_at : List ℕ → Result (Record × List ℕ) Fault
done_at bytes = do
  h ← head_at bytes
  Ok (Done h.0.stamp h.0.batch, h.1)

-- a record's body at the front, whatever the journal: its first byte tells which record it is
unfoldable pub body_at : List ℕ → Result (Record × List ℕ) Fault
body_at bytes = do
  kind ← byte_at bytes
  if nat_eq kind.0 genesis_kind then genesis_at kind.1
      else if nat_eq kind.0 lock_kind then lock_at kind.1
      else if nat_eq kind.0 finish_kind then finish_at kind.1
      else if nat_eq kind.0 forget_kind then forget_at kind.1
      else if nat_eq kind.0 start_kind then start_at kind.1
      else if nat_eq kind.0 prepare_kind then prepare_at kind.1
      else if nat_eq kind.0 commit_kind then commit_at kind.1
      else if nat_eq kind.0 discard_kind then discard_at kind.1
      else if nat_eq kind.0 done_kind then done_at kind.1
      else Err (fault Form bytes)
