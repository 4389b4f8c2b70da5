-- The lines of statuses, and what journals the nodes of a ledger have.
use Rattle.std.specs.Prelude.{ℕ, zero, suc, ◌-◌, ◌++◌, List, [], ◌∷◌, nat_lt, if◌then◌else◌}
use Rattle.cbdc_model.specs.Records.{Digest, Shape, Record}
use Rattle.cbdc_model.specs.Ranges.{shard_of}
use Rattle.cbdc_model.specs.Status.{Status, status}
use Rattle.line_text.specs.Lines.{Text}
use Rattle.line_text.specs.Reports.{status_line}
use Rattle.node_journal.specs.Nodes.{NodeOf}

-- a line for each hash, as long as there are statuses
abbrev pub told_lines : List Digest → List Status → Text
told_lines [] statuses = []
told_lines (x ∷ xs) [] = []
told_lines (x ∷ xs) (s ∷ statuses) = status_line x s ++ told_lines xs statuses

-- the journal of the node at this place of a list, and none past its end
abbrev pub journal_there : {N : Type 0} → (N → List Record) → List N → ℕ → List Record
journal_there journal [] place = []
journal_there journal (x ∷ nodes) zero = journal x
journal_there journal (x ∷ nodes) (suc place) = journal_there journal nodes place

-- the status of a hash at the shard that holds it, of these
abbrev pub status_among : {D : Type 0} → Shape → List (NodeOf D) → Digest → Status
status_among K shards x = status (journal_there (λ s. s.journal) shards (shard_of K x)) x

-- the journals of a ledger's nodes, the coordinators before the shards
abbrev pub journals_at : {D : Type 0} → Shape → List (NodeOf D) → List (NodeOf D) → ℕ → List Record
journals_at K logs shards n =
    if nat_lt n K.coordinators then journal_there (λ l. l.journal) logs n else journal_there (λ s. s.journal) shards (n - K.coordinators)
