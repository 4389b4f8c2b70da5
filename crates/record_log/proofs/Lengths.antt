-- How long bodies are.
use Rattle.std.proofs.Common.{◌≡◌, ℕ, ◌+◌, ◌*◌, Bool, true, false, List, [], ◌∷◌, ◌++◌, length, refl, sym, ap₂, ◌∙◌, arith}
use Rattle.std.specs.Prelude.{sum_by}
use Rattle.std.specs.List.{flat_map, AllByRecursion}
use Rattle.std.proofs.lemmas.List.{length-append}
use Rattle.std.proofs.lemmas.List.Sums.{sum_by-cons}
use Rattle.cbdc_model.specs.Records.{Header, Batch, Compact, Reply, Outcome, Answered, Record, Held, Missing, Taken, Won, Lacks, Blocked, Genesis}
use Rattle.cbdc_model.specs.Records.{Lock, Finish, Forget, Start, Prepare, Commit, Discard, Done}
use Rattle.cbdc_model.specs.Room.{size_of, reply_size, outcome_size, compact_size, answered_size}
use Rattle.byte_spelling.specs.Spelling.{number, counted, FitsHash}
use Rattle.byte_fields.specs.Records.{hashes, batch_bytes, compact_bytes, entry_bytes, reply_bytes, answered_bytes, outcome_bytes, decision_bytes}
use Rattle.byte_fields.proofs.Lengths.{length-number}
use Rattle.byte_fields.proofs.Parts.{FitsCompact, FitsReply, FitsAnswered, FitsOutcome}
use Rattle.record_log.specs.Bodies.{header_bytes, head, body_of}
use Rattle.record_log.proofs.Records.{FitsHeader, FitsRecord}

module _ {X : Type 0} (item : X → List ℕ) (size : X → ℕ) (Fits : X → Type 0) (one : (x : X) → Fits x → length (item x) ≡ size x) where
  items_length : (xs : List X) → AllByRecursion Fits xs → length (flat_map item xs) ≡ sum_by size xs
  items_length [] all = refl
  items_length (x ∷ xs) all = length-append (item x) (flat_map item xs) ∙ ap₂ (λ (m n : ℕ). m + n) (one x all.0) (items_length xs all.1)
      ∙ sym (sum_by-cons size x xs)

  counted_length : (xs : List X) → AllByRecursion Fits xs → length (counted item xs) ≡ 8 + sum_by size xs
  counted_length xs all = simp (length-append, length-number) (omega (arith, items_length xs all))

flat_hashes : (hs : List (List ℕ)) → AllByRecursion FitsHash hs → length (flat_map (λ h. h) hs) ≡ 32 * length hs
flat_hashes [] all = refl
flat_hashes (h ∷ hs) all = omega (arith, length-append h (flat_map (λ h. h) hs), all.0, flat_hashes hs all.1)

hashes_length : (hs : List (List ℕ)) → AllByRecursion FitsHash hs → length (hashes hs) ≡ 8 + 32 * length hs
hashes_length hs all = simp (length-append, length-number) (omega (arith, flat_hashes hs all))

pub batch_length : (b : Batch) → length (batch_bytes b) ≡ 16
batch_length b = simp (length-append, length-number) (omega arith)

compact_length : (t : Compact) → FitsCompact t → length (compact_bytes t) ≡ compact_size t
compact_length t fits = omega (
  arith,
  length-append (t.id ++ hashes t.inputs) (hashes t.outputs),
  length-append t.id (hashes t.inputs),
  fits.id,
  hashes_length t.inputs fits.inputs.1,
  hashes_length t.outputs fits.outputs.1,
)

reply_length : (r : Reply) → FitsReply r → length (reply_bytes r) ≡ reply_size r
reply_length Held fits = refl
reply_length (Missing x) fits = omega (arith, fits)
reply_length (Taken x by) fits = omega (arith, length-append x (batch_bytes by), fits.0, batch_length by)

entry_length : (a : Answered) → FitsAnswered a → length (entry_bytes a.entry) ≡ 56 + 32 * (length a.entry.inputs + length a.entry.outputs)
entry_length a fits =
    omega (
      arith,
      length-append (number a.entry.place ++ a.entry.id ++ hashes a.entry.inputs) (hashes a.entry.outputs),
      length-append (number a.entry.place ++ a.entry.id) (hashes a.entry.inputs),
      length-append (number a.entry.place) a.entry.id,
      length-number a.entry.place,
      fits.entry.id,
      hashes_length a.entry.inputs fits.entry.inputs.1,
      hashes_length a.entry.outputs fits.entry.outputs.1,
    )

answered_length : (a : Answered) → FitsAnswered a → length (answered_bytes a) ≡ answered_size a
answered_length a fits = omega (
  arith,
  length-append (entry_bytes a.entry) (reply_bytes a.reply),
  entry_length a fits,
  reply_length a.reply fits.reply,
)

outcome_length : (o : Outcome) → FitsOutcome o → length (outcome_bytes o) ≡ outcome_size o
outcome_length Won fits = refl
outcome_length (Lacks shard x) fits = omega (arith, length-append (number shard) x, length-number shard, fits.1)
outcome_length (Blocked shard x by) fits =
    omega (
      arith,
      length-append (1 ∷ [] ++ number shard ++ x) (batch_bytes by),
      length-append (number shard ++ x) (batch_bytes by),
      length-append (number shard) x,
      length-number shard,
      fits.1,
      batch_length by,
    )

decision_length : (d : Bool) → length (decision_bytes d) ≡ 1
decision_length true = refl
decision_length false = refl

flat_decisions : (ds : List Bool) → length (flat_map decision_bytes ds) ≡ length ds
flat_decisions [] = refl
flat_decisions (d ∷ ds) = omega (arith, length-append (decision_bytes d) (flat_map decision_bytes ds), decision_length d, flat_decisions ds)

header_length : (h : Header) → FitsHeader h → length (header_bytes h) ≡ 80
header_length h fits = simp (length-append, length-number) (omega (arith, fits.genesis))

pub batch_head : (kind stamp : ℕ) (b : Batch) → length (head kind stamp ++ batch_bytes b) ≡ 25
batch_head kind stamp b = omega (arith, length-append (head kind stamp) (batch_bytes b), length-number stamp, batch_length b)

pub body_length : (r : Record) → FitsRecord r → 9 + length (body_of r) ≡ size_of r
body_length (Genesis h hs) fits = omega (
  arith,
  length-append (head 1 0 ++ header_bytes h) (hashes hs),
  length-append (head 1 0) (header_bytes h),
  length-number 0,
  header_length h fits.0,
  hashes_length hs fits.1.1,
)
body_length (Lock stamp b es) fits = omega (
  arith,
  length-append (head 2 stamp ++ batch_bytes b) (counted answered_bytes es),
  batch_head 2 stamp b,
  counted_length answered_bytes answered_size FitsAnswered answered_length es fits.1.1,
)
body_length (Finish stamp b ds) fits =
    omega (
      arith,
      length-append (head 3 stamp ++ batch_bytes b) (counted decision_bytes ds),
      batch_head 3 stamp b,
      length-append (number (length ds)) (flat_map decision_bytes ds),
      length-number (length ds),
      flat_decisions ds,
    )
body_length (Forget stamp b) fits = omega (arith, batch_head 4 stamp b)
body_length (Start h) fits = omega (arith, length-append (head 5 0) (header_bytes h), length-number 0, header_length h fits)
body_length (Prepare stamp b txs) fits = omega (
  arith,
  length-append (head 6 stamp ++ batch_bytes b) (counted compact_bytes txs),
  batch_head 6 stamp b,
  counted_length compact_bytes compact_size FitsCompact compact_length txs fits.1.1,
)
body_length (Commit stamp b os) fits = omega (
  arith,
  length-append (head 7 stamp ++ batch_bytes b) (counted outcome_bytes os),
  batch_head 7 stamp b,
  counted_length outcome_bytes outcome_size FitsOutcome outcome_length os fits.1.1,
)
body_length (Discard stamp b) fits = omega (arith, batch_head 8 stamp b)
body_length (Done stamp b) fits = omega (arith, batch_head 9 stamp b)
body_length other fits = absurd fits
