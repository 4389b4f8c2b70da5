-- How long spellings are, whatever the lengths of the hashes in them.
use Rattle.std.proofs.Common.{◌≡◌, ℕ, ◌+◌, List, ◌++◌, length, arith}
use Rattle.std.specs.List.{flat_map}
use Rattle.std.proofs.lemmas.List.{length-append}
use Rattle.cbdc_model.specs.Records.{Header, Batch, Compact, Answered, Taken, Lacks, Blocked, Genesis, Start}
use Rattle.byte_spelling.specs.Spelling.{number, counted}
use Rattle.byte_fields.specs.Records.{hashes, batch_bytes, compact_bytes, entry_bytes, reply_bytes, answered_bytes, outcome_bytes}
use Rattle.byte_fields.proofs.Lengths.{length-number}
use Rattle.record_log.specs.Bodies.{header_bytes, head, body_of}
use Rattle.record_log.proofs.Lengths.{batch_length, batch_head}

pub counted_long : {X : Type 0} (item : X → List ℕ) (xs : List X) → length (counted item xs) ≡ 8 + length (flat_map item xs)
counted_long item xs = omega (arith, length-append (number (length xs)) (flat_map item xs), length-number (length xs))

pub taken_long : (x : List ℕ) (by : Batch) → length (reply_bytes (Taken x by)) ≡ 17 + length x
taken_long x by = omega (arith, length-append x (batch_bytes by), batch_length by)

pub lacks_long : (shard : ℕ) (x : List ℕ) → length (outcome_bytes (Lacks shard x)) ≡ 9 + length x
lacks_long shard x = omega (arith, length-append (number shard) x, length-number shard)

pub blocked_long : (shard : ℕ) (x : List ℕ) (by : Batch) → length (outcome_bytes (Blocked shard x by)) ≡ 25 + length x
blocked_long shard x by = omega (
  arith,
  length-append (number shard ++ x) (batch_bytes by),
  length-append (number shard) x,
  length-number shard,
  batch_length by,
)

pub header_long : (h : Header) → length (header_bytes h) ≡ 48 + length h.genesis
header_long h = simp (length-append, length-number) (omega arith)

pub compact_long : (t : Compact) → length (compact_bytes t) ≡ length t.id + length (hashes t.inputs) + length (hashes t.outputs)
compact_long t = omega (arith, length-append (t.id ++ hashes t.inputs) (hashes t.outputs), length-append t.id (hashes t.inputs))

pub answered_long : (a : Answered) → length (answered_bytes a)
    ≡ 8 + length a.entry.id + length (hashes a.entry.inputs) + length (hashes a.entry.outputs) + length (reply_bytes a.reply)
answered_long a =
    omega (
      arith,
      length-append (entry_bytes a.entry) (reply_bytes a.reply),
      length-append (number a.entry.place ++ a.entry.id ++ hashes a.entry.inputs) (hashes a.entry.outputs),
      length-append (number a.entry.place ++ a.entry.id) (hashes a.entry.inputs),
      length-append (number a.entry.place) a.entry.id,
      length-number a.entry.place,
    )

-- a body whose rest is counted behind a batch
pub listed_long : {X : Type 0} (item : X → List ℕ) (kind stamp : ℕ) (b : Batch) (xs : List X)
    → length (head kind stamp ++ batch_bytes b ++ counted item xs) ≡ 25 + length (counted item xs)
listed_long item kind stamp b xs = omega (arith, length-append (head kind stamp ++ batch_bytes b) (counted item xs), batch_head kind stamp b)

pub genesis_long : (h : Header) (hs : List (List ℕ)) → length (body_of (Genesis h hs)) ≡ 9 + length (header_bytes h) + length (hashes hs)
genesis_long h hs = omega (arith, length-append (head 1 0 ++ header_bytes h) (hashes hs), length-append (head 1 0) (header_bytes h), length-number 0)

pub start_long : (h : Header) → length (body_of (Start h)) ≡ 9 + length (header_bytes h)
start_long h = omega (arith, length-append (head 5 0) (header_bytes h), length-number 0)
