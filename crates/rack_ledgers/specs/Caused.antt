-- The history of a ledger's nodes, and whether each of its records is caused.
use Rattle.std.specs.Prelude.{◌≡◌, ◌⊎◌, ◌+◌, ◌++◌, ◌≤◌, ◌<◌, ℕ, List, [], map, reverse, Option}
use Rattle.outside.specs.Images.{Tells}
use Rattle.outside.specs.declared.disk.Disk.{Ghosts}
use Rattle.cbdc_types.specs.Limits.{IsWithinLimits}
use Rattle.cbdc_types.specs.declared.answer.Answer.{Answer}
use Rattle.cbdc_types.specs.declared.answer.Answer.TheVariants as answers
use Rattle.cbdc_types.specs.declared.answer.UnsoundKind.TheVariants.{Cause}
use Rattle.cbdc_model.specs.Records.{Digest, Shape, Header, Record, Row, journal}
use Rattle.cbdc_model.specs.After.{IsJournal}
use Rattle.cbdc_model.specs.History.{header_of, IsOrdered, IsHistoryOf}
use Rattle.audit.specs.Rows.{journal_in}
use Rattle.audit.specs.Walks.{AllCaused, IsFirstUncaused}
use Rattle.node_journal.specs.Nodes.{NodeOf}
use Rattle.rack_ledgers.specs.Racked.{OfTold}
use Rattle.rack_ledgers.specs.Refused.{IsNodeJournal}
use Rattle.rack_ledgers.specs.Ledgers.{AreOpened, IsUnopened}

-- the journals of all nodes, the coordinators first, each with its oldest record first
abbrev pub listed_journals : {D : Type 0} → List (NodeOf D) → List (NodeOf D) → List (List Record)
listed_journals logs shards = map (λ l. reverse l.journal) logs ++ map (λ s. reverse s.journal) shards

-- the rows, the oldest first, are the history of these journals
pub record AreMerged (all : List (List Record)) (rows : List Row) : Type 0 where
  pub journals : (n : ℕ) → journal n rows ≡ journal_in all n
  pub history : IsHistoryOf (λ n. reverse (journal_in all n)) (reverse rows)

-- each row of the journals' history is caused by those before it
pub record AreCaused (K : Shape) (all : List (List Record)) : Type 0 where
  pub rows : List Row
  pub merged : AreMerged all rows
  pub caused : AllCaused K (reverse rows)

-- the row at this place of the journals' history, counted from the oldest, is the first that is not
pub record HasUncaused (K : Shape) (all : List (List Record)) (place : ℕ) : Type 0 where
  pub rows : List Row
  pub merged : AreMerged all rows
  pub first : IsFirstUncaused K rows place

-- the rows, the oldest first, are the history of the ledger with this shape and genesis that the disks tell: each node has a journal among the rows,
-- under its header, to which what is told of its disk opens, no other node has a record there, and the rows are in order
pub record IsToldHistory {D : Type 0} (device : Ghosts D) (held : ℕ → Option D) (K : Shape) (genesis : Digest) (rows : List Row) : Type 0 where
  pub limits : IsWithinLimits K
  pub journals : (n : ℕ) → n < K.coordinators + K.shards → IsJournal (header_of K genesis n) (journal n (reverse rows))
  pub opened : (n : ℕ) → n < K.coordinators + K.shards
      → OfTold (held n) (λ was. Tells (device.content was) (IsNodeJournal (header_of K genesis n) (journal n (reverse rows))))
  pub others : (n : ℕ) → K.coordinators + K.shards ≤ n → journal n (reverse rows) ≡ []
  pub ordered : IsOrdered (reverse rows)

-- there are a shape within its limits, a genesis and rows that are such a history, and each row is caused by those before it
pub record IsCausedLedger {D : Type 0} (device : Ghosts D) (held : ℕ → Option D) : Type 0 where
  pub shape : Shape
  pub genesis : Digest
  pub rows : List Row
  pub history : IsToldHistory device held shape genesis rows
  pub caused : AllCaused shape (reverse rows)

-- all nodes are opened, and the answer is the first place of their history that is not caused
pub record IsUnsound {D : Type 0} (device : Ghosts D) (held : ℕ → Option D) (answer : Answer) : Type 0 where
  pub header : Header
  pub logs : List (NodeOf D)
  pub shards : List (NodeOf D)
  pub opened : AreOpened device held header logs shards
  pub place : ℕ
  pub told : answer ≡ answers.Unsound place Cause
  pub uncaused : HasUncaused header.shape (listed_journals logs shards) place

-- why the nodes of a ledger are not handed out: one can't be opened, or a record is not caused, or memory ran out
abbrev pub IsUnresumed : {D : Type 0} → Ghosts D → (ℕ → Option D) → (ℕ → ℕ) → (ℕ → ℕ) → Answer → Type 0
IsUnresumed device held before now answer =
    IsUnopened device held before now answer ⊎ (IsUnsound device held answer ⊎ (answer ≡ answers.Memory))
