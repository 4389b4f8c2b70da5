-- The parts of records: how they are spelled and how they are read.
use Rattle.std.specs.Prelude.{ℕ, ◌^◌, Bool, true, false, List, [], ◌∷◌, ◌++◌, slice_index, Result, Ok, Err, nat_lt, nat_eq, if◌then◌else◌}
use Rattle.base_types.specs.declared.ids.BatchId.{BatchId}
use Rattle.cbdc_types.specs.declared.tx.CompactTx.{CompactTx}
use Rattle.cbdc_types.specs.declared.batch.Entry.{Entry}
use Rattle.cbdc_types.specs.declared.batch.Answered.{Answered}
use Rattle.cbdc_types.specs.declared.batch.Reply.{Reply}
use Rattle.cbdc_types.specs.declared.batch.Reply.TheVariants as replies
use Rattle.cbdc_types.specs.declared.batch.Outcome.{Outcome}
use Rattle.cbdc_types.specs.declared.batch.Outcome.TheVariants as outcomes
use Rattle.base_types.specs.declared.faults.InputKind.TheVariants.{Form, Large}
use Rattle.byte_fields.specs.declared.fault.Fault.{Fault}
use Rattle.byte_fields.specs.Faults.{◌>>=◌, fault}
use Rattle.byte_fields.specs.Reading.{field_at, number_at, hash_at, list_at}
use Rattle.byte_spelling.specs.Spelling.{number, counted}

-- the spelling of a list of hashes: how many there are, and then their bytes
abbrev pub hashes : List (List ℕ) → List ℕ
hashes hs = counted (λ h. h) hs

-- the spelling of a batch's name: its lane and its number there
abbrev pub batch_bytes : BatchId → List ℕ
batch_bytes b = number b.lane ++ number b.number

-- the spelling of a transaction in compact form: its id, its input hashes and its output hashes
abbrev pub compact_bytes : CompactTx → List ℕ
compact_bytes t = t.id ++ hashes t.inputs ++ hashes t.outputs

-- the spelling of an entry of a shard's part: its place in the batch, its transaction's id, and its input and output hashes
abbrev pub entry_bytes : Entry → List ℕ
entry_bytes e = number e.place ++ e.id ++ hashes e.inputs ++ hashes e.outputs

-- the spelling of a reply: a byte in front (0 Held, 1 missing, 2 locked), then the hash that is missing or locked, and the batch that locks it
abbrev pub reply_bytes : Reply → List ℕ
reply_bytes replies.Held = 0 ∷ []
reply_bytes (replies.Missing x) = 1 ∷ [] ++ x
reply_bytes (replies.Locked x by) = 2 ∷ [] ++ x ++ batch_bytes by

-- the spelling of an answered entry: the entry, and the reply to it
abbrev pub answered_bytes : Answered → List ℕ
answered_bytes a = entry_bytes a.entry ++ reply_bytes a.reply

-- the spelling of an outcome: a byte in front (0 Held, 1 missing, 2 locked), then the shard, the hash that is missing or locked there, and the batch
-- that locks it
abbrev pub outcome_bytes : Outcome → List ℕ
outcome_bytes outcomes.Held = 0 ∷ []
outcome_bytes (outcomes.Missing shard x) = 1 ∷ [] ++ number shard ++ x
outcome_bytes (outcomes.Locked shard x by) = 2 ∷ [] ++ number shard ++ x ++ batch_bytes by

-- the spelling of a decision: 1 where the transaction is committed, else 0
abbrev pub decision_bytes : Bool → List ℕ
decision_bytes true = 1 ∷ []
decision_bytes false = 0 ∷ []

-- one byte
abbrev pub byte_of : List ℕ → ℕ
byte_of bytes = slice_index bytes 0

-- the byte at the front
abbrev pub byte_at : List ℕ → Result (ℕ × List ℕ) Fault
byte_at bytes = field_at 1 byte_of bytes

-- a number below 2^32
unfoldable pub small_at : List ℕ → Result (ℕ × List ℕ) Fault
small_at bytes = do
  n ← number_at bytes
  if nat_lt n.0 (2 ^ 32) then Ok (n.0, n.1) else Err (fault Large bytes)

-- a batch's name at the front: its lane, which is below 2^32, and its number there
unfoldable pub batch_at : List ℕ → Result (BatchId × List ℕ) Fault
batch_at bytes = do
  lane ← small_at bytes
  n ← number_at lane.1
  Ok (record { lane = lane.0; number = n.0 }, n.1)

-- a transaction in compact form at the front: its id, and at most 255 input and 255 output hashes
unfoldable pub compact_at : List ℕ → Result (CompactTx × List ℕ) Fault
compact_at bytes = do
  id ← hash_at bytes
  ins ← list_at 255 hash_at id.1
  outs ← list_at 255 hash_at ins.1
  Ok (record { id = id.0; inputs = ins.0; outputs = outs.0 }, outs.1)

-- an entry at the front: its place, which is below 2^32, its id, and at most 255 input and 255 output hashes
unfoldable pub entry_at : List ℕ → Result (Entry × List ℕ) Fault
entry_at bytes = do
  place ← small_at bytes
  id ← hash_at place.1
  ins ← list_at 255 hash_at id.1
  outs ← list_at 255 hash_at ins.1
  Ok (record { place = place.0; id = id.0; inputs = ins.0; outputs = outs.0 }, outs.1)

-- a reply that an input is missing, behind its first byte: the hash that is missing
unfoldable pub missing_reply_at : List ℕ → Result (Reply × List ℕ) Fault
missing_reply_at bytes = do
  x ← hash_at bytes
  Ok (replies.Missing x.0, x.1)

-- a reply that an input is locked, behind its first byte: the hash that is locked, and the batch that locks it
unfoldable pub locked_reply_at : List ℕ → Result (Reply × List ℕ) Fault
locked_reply_at bytes = do
  x ← hash_at bytes
  by ← batch_at x.1
  Ok (replies.Locked x.0 by.0, by.1)

-- a reply at the front, whose first byte tells which reply it is
unfoldable pub reply_field_at : List ℕ → Result (Reply × List ℕ) Fault
reply_field_at bytes = do
  tag ← byte_at bytes
  if nat_eq tag.0 0 then Ok (replies.Held, tag.1)
      else if nat_eq tag.0 1 then missing_reply_at tag.1
      else if nat_eq tag.0 2 then locked_reply_at tag.1
      else Err (fault Form bytes)

-- an answered entry at the front: the entry, and the reply to it
unfoldable pub answered_at : List ℕ → Result (Answered × List ℕ) Fault
answered_at bytes = do
  e ← entry_at bytes
  r ← reply_field_at e.1
  Ok (record { entry = e.0; reply = r.0 }, r.1)

-- an outcome that an input is missing, behind its first byte: the shard, and the hash that is missing there
unfoldable pub missing_outcome_at : List ℕ → Result (Outcome × List ℕ) Fault
missing_outcome_at bytes = do
  shard ← small_at bytes
  x ← hash_at shard.1
  Ok (outcomes.Missing shard.0 x.0, x.1)

-- an outcome that an input is locked, behind its first byte: the shard, the hash that is locked there, and the batch that locks it
unfoldable pub locked_outcome_at : List ℕ → Result (Outcome × List ℕ) Fault
locked_outcome_at bytes = do
  shard ← small_at bytes
  x ← hash_at shard.1
  by ← batch_at x.1
  Ok (outcomes.Locked shard.0 x.0 by.0, by.1)

-- an outcome at the front, whose first byte tells which outcome it is
unfoldable pub outcome_field_at : List ℕ → Result (Outcome × List ℕ) Fault
outcome_field_at bytes = do
  tag ← byte_at bytes
  if nat_eq tag.0 0 then Ok (outcomes.Held, tag.1)
      else if nat_eq tag.0 1 then missing_outcome_at tag.1
      else if nat_eq tag.0 2 then locked_outcome_at tag.1
      else Err (fault Form bytes)

-- a decision at the front: 0 or 1, and any other byte is out of form
unfoldable pub decision_at : List ℕ → Result (Bool × List ℕ) Fault
decision_at bytes = do
  tag ← byte_at bytes
  if nat_eq tag.0 0 then Ok (false, tag.1)
      else if nat_eq tag.0 1 then Ok (true, tag.1)
      else Err (fault Form bytes)
