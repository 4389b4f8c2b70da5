-- How many bytes the records of a journal take.
use Rattle.std.proofs.Common.{◌≡◌, ℕ, ◌+◌, ◌<◌, ◌≤◌, ◌^◌, List, [], ◌∷◌, length, All, refl, sym, ◌∙◌, ap₂, subst, arith, length-append}
use Rattle.std.specs.Prelude.{sum_by}
use Rattle.std.proofs.lemmas.List.Elements.{All-head, All-tail, All-weaker}
use Rattle.std.proofs.lemmas.List.Sums.{sum_by-le, sum_by-cons}
use Rattle.cbdc_types.specs.Limits.{IsWithinLimits}
use Rattle.cbdc_model.specs.Records.{Shape, Header, Compact, Reply, Outcome, Answered, Record, Held, Missing, Taken, Won, Lacks, Blocked, Genesis}
use Rattle.cbdc_model.specs.Records.{Lock, Finish, Start, Prepare, Commit, Carry, CarryStart}
use Rattle.cbdc_model.specs.Grammar.{IsInGrammar, IsEntry, IsCompact, IsOutcome}
use Rattle.cbdc_model.specs.Room.{size_of, reply_size, outcome_size, compact_size, answered_size}
use Rattle.record_log.specs.Bodies.{body_of}
use Rattle.record_log.specs.Exact.{IsFirstRecord}
use Rattle.record_log.proofs.Grammar.{fits_record}
use Rattle.record_log.proofs.Lengths.{body_length}
use Rattle.gate_journal.specs.Rows.{row, rows}
use Rattle.gate_journal.proofs.RowBytes.{length-row}
use Rattle.record_log.specs.Held.{bodies_of, MayHold}

reply_le : (r : Reply) → reply_size r ≤ 49
reply_le Held = omega arith
reply_le (Missing x) = omega arith
reply_le (Taken x by) = omega arith

outcome_le : (o : Outcome) → outcome_size o ≤ 57
outcome_le Won = omega arith
outcome_le (Lacks shard x) = omega arith
outcome_le (Blocked shard x by) = omega arith

answered_le : (K : Shape) (node : ℕ) (a : Answered) → IsEntry K node a → answered_size a ≤ 16425
answered_le K node a is = omega (arith, is.inputs.0, is.outputs.0, reply_le a.reply)

compact_le : (t : Compact) → IsCompact t → compact_size t ≤ 16368
compact_le t is = omega (arith, is.inputs.0, is.outputs.0)

-- a record of the grammar takes less than 32 MiB
pub size_small : (h : Header) (r : Record) → IsWithinLimits h.shape → IsInGrammar h r → size_of r < 2 ^ 25
size_small h (Genesis header hs) limits is = omega (arith, is.3)
size_small h (Lock stamp b es) limits is =
    omega (
      arith,
      is.3.1,
      limits.batch,
      sum_by-le answered_size 16425 es (All-weaker (IsEntry h.shape h.node) (λ a. answered_size a ≤ 16425) (answered_le h.shape h.node) es is.5),
    )
size_small h (Finish stamp b ds) limits is = omega (arith, is.3.1, limits.batch)
size_small h (Prepare stamp b txs) limits is =
    omega (arith, is.3.1, limits.batch, sum_by-le compact_size 16368 txs (All-weaker IsCompact (λ t. compact_size t ≤ 16368) compact_le txs is.4))
size_small h (Commit stamp b os) limits is =
    omega (
      arith,
      is.3.1,
      limits.batch,
      sum_by-le outcome_size 57 os (All-weaker (IsOutcome h.shape) (λ o. outcome_size o ≤ 57) (λ o i. outcome_le o) os is.4),
    )
size_small h (Carry stamp header source hs numbers) limits is = absurd is
size_small h (CarryStart stamp header source numbers) limits is = absurd is
size_small h other limits is = omega arith

-- a gate, a length and the body
pub size_is : (h : Header) (r : Record) → IsWithinLimits h.shape → IsInGrammar h r → 9 + length (body_of r) ≡ size_of r
size_is h r limits is = body_length r (fits_record h r limits is)

pub body_small : (h : Header) (r : Record) → IsWithinLimits h.shape → IsInGrammar h r → length (body_of r) < 2 ^ 64
body_small h r limits is = omega (arith, size_is h r limits is, size_small h r limits is)

pub first_small : (r : Record) → IsFirstRecord r → length (body_of r) < 2 ^ 64
first_small (Genesis header hs) is = body_small header (Genesis header hs) is.0 is.1
first_small (Start header) is = body_small header (Start header) is.0 is.1
first_small (Carry stamp header source hs numbers) is = absurd is.1
first_small (CarryStart stamp header source numbers) is = absurd is.1
first_small other is = absurd is

first_limits : (h : Header) (r : Record) → IsFirstRecord r → IsInGrammar h r → IsWithinLimits h.shape
first_limits h (Genesis header hs) is may = subst (λ (k : Header). IsWithinLimits k.shape) may.0 is.0
first_limits h (Start header) is may = subst (λ (k : Header). IsWithinLimits k.shape) may.0 is.0
first_limits h (Carry stamp header source hs numbers) is may = absurd may
first_limits h (CarryStart stamp header source numbers) is may = absurd may
first_limits h other is may = absurd is

-- the header of a journal is within its limits
pub limits_of : (h : Header) (records : List Record) → MayHold h records → IsWithinLimits h.shape
limits_of h [] is = absurd is
limits_of h (r ∷ later) is = first_limits h r is.0 (All-head (IsInGrammar h) r later is.1)

pub grammar_of : (h : Header) (records : List Record) → MayHold h records → All (IsInGrammar h) records
grammar_of h [] is = absurd is
grammar_of h (r ∷ later) is = is.1

-- the rows of records are as long as the records' sizes say
pub rows_size : (h : Header) (records : List Record) → IsWithinLimits h.shape → All (IsInGrammar h) records
    → length (rows (bodies_of records)) ≡ sum_by size_of records
rows_size h [] limits all = refl
rows_size h (r ∷ later) limits all =
    length-append (row (body_of r)) (rows (bodies_of later))
    ∙ ap₂ (λ (m n : ℕ). m + n) (length-row (body_of r) ∙ size_is h r limits (All-head (IsInGrammar h) r later all))
    (rows_size h later limits (All-tail (IsInGrammar h) r later all))
    ∙ sym (sum_by-cons size_of r later)
