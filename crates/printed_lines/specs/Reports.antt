-- What `init`, `status` and `audit` print, and what is printed of a fault.
use Rattle.std.specs.Prelude.{◌≡◌, ◌++◌, ℕ, List, [], ◌∷◌, length}
use Rattle.cbdc_types.specs.declared.answer.Answer.{Answer}
use Rattle.cbdc_types.specs.declared.answer.Answer.TheVariants.{BadInput, ReadFault, Unsound as UnsoundAnswer}
use Rattle.cbdc_model.specs.Records.{Digest, Shape, Record, Row}
use Rattle.cbdc_model.specs.Coins.{Output, FullTx, genesis_id}
use Rattle.cbdc_model.specs.Clean.{value_out}
use Rattle.cbdc_model.specs.Ranges.{shard_of, shard_node}
use Rattle.cbdc_model.specs.Status.{Status, status}
use Rattle.line_text.specs.Lines.{Text, init_text}
use Rattle.line_text.specs.Reports.{status_line, audit_text}
use Rattle.line_text.specs.Faults.{fault_text}
use Rattle.cbdc_types.specs.declared.answer.Totals.{Totals}
use Rattle.audit.specs.declared.verdict.Verdict.{Verdict}
use Rattle.audit.specs.declared.verdict.Verdict.TheVariants.{Sound, Unsound}
use Rattle.audit.specs.Verdicts.{IsVerdict}

-- of a mint: how many coins it has, what they come to, and its id
abbrev pub init_lines : List Output → Text
init_lines mint = init_text (length mint) (value_out mint) (genesis_id mint)

-- the status of a hash at its shard
abbrev pub status_at : Shape → (ℕ → List Record) → Digest → Status
status_at K J x = status (J (shard_node K (shard_of K x))) x

-- of hashes: a line for each in order
abbrev pub status_lines : Shape → (ℕ → List Record) → List Digest → Text
status_lines K J [] = []
status_lines K J (x ∷ xs) = status_line x (status_at K J x) ++ status_lines K J xs

-- of an audit's verdict: its totals, or the line of what it found
abbrev pub verdict_lines : Verdict → Text
verdict_lines (Sound totals) = audit_text totals
verdict_lines (Unsound place kind) = fault_text (UnsoundAnswer place kind) []

-- of an audit of a history, the oldest row first, with a mint and the transactions that were handed in
abbrev pub IsAuditText : Shape → List Output → List FullTx → List Row → Text → Type 0
IsAuditText K mint handed rows text = (verdict : Verdict) × IsVerdict K mint handed rows verdict × (text ≡ verdict_lines verdict)

-- where the answer speaks of a file, by its place, this is its name
abbrev pub Names : (ℕ → Text → Type 0) → Answer → Text → Type 0
Names has (BadInput file at kind) name = has file name
Names has (ReadFault file) name = has file name
Names has other name = Unit {0}

-- of an answer: the line of a fault, nothing where there is none
abbrev pub IsFaultLine : (ℕ → Text → Type 0) → Answer → Text → Type 0
IsFaultLine has answer text = (name : Text) × Names has answer name × (text ≡ fault_text answer name)
