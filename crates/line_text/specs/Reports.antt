-- The lines of `status`, `recover` and `audit`.
use Rattle.std.specs.Prelude.{ℕ, List, [], ◌∷◌, ◌++◌, codes, decimal}
use Rattle.hex.specs.Hex.{encode_lower}
use Rattle.cbdc_types.specs.declared.batch.Phase.{Phase}
use Rattle.cbdc_types.specs.declared.batch.Phase.TheVariants.{Prepared, Committed, Discarded}
use Rattle.cbdc_types.specs.declared.batch.Status.{Status}
use Rattle.cbdc_types.specs.declared.batch.Status.TheVariants.{Unspent, Locked, Absent}
use Rattle.cbdc_types.specs.declared.answer.Totals.{Totals}
use Rattle.base_types.specs.declared.ids.BatchId.{BatchId}
use Rattle.line_text.specs.Lines.{Text, line, counted_line}

-- the words for the status of a hash: unspent, locked by this batch, or absent
abbrev pub status_words : Status → List Text
status_words Unspent = codes "unspent" ∷ []
status_words (Locked batch) = codes "locked" ∷ decimal batch.lane ∷ decimal batch.number ∷ []
status_words Absent = codes "absent" ∷ []

-- the line that `status` prints of a hash: the hash, and its status
abbrev pub status_line : Text → Status → Text
status_line hash status = line (encode_lower hash ∷ status_words status)

-- the word for the phase in which an open batch stood
abbrev pub phase_word : Phase → Text
phase_word Prepared = codes "prepare"
phase_word Committed = codes "commit"
phase_word Discarded = codes "discard"

-- the line that `recover` prints of a resumed batch: its lane and number, the phase in which it stood, how many were confirmed, how many rejected
abbrev pub resumed_line : BatchId → Phase → ℕ → ℕ → Text
resumed_line batch phase confirmed rejected = line (
    codes "batch" ∷ decimal batch.lane ∷ decimal batch.number ∷ phase_word phase ∷ codes "confirmed" ∷ decimal confirmed
    ∷ codes "rejected" ∷ decimal rejected ∷ []
    )

-- the two lines that end what `recover` prints: how many batches were resumed, and how many hashes are unspent
abbrev pub recovery_text : ℕ → ℕ → Text
recovery_text resumed unspent = counted_line (codes "resumed") resumed ++ counted_line (codes "unspent") unspent

-- the lines of a sound audit: how many coins there are, their value, the value minted, how many transactions were committed, and the money, what
-- was issued and what was redeemed
abbrev pub audit_text : Totals → Text
audit_text found =
    (((((counted_line (codes "coins") found.coins ++ counted_line (codes "value") found.value) ++ counted_line (codes "minted") found.minted)
    ++ counted_line (codes "committed") found.committed) ++ counted_line (codes "money") found.money) ++ counted_line (codes "issued") found.issued)
    ++ counted_line (codes "redeemed") found.redeemed
