-- What a disk's bytes are as a coordinator's journal.
use Rattle.std.specs.Prelude.{ℕ, List}
use Rattle.cbdc_types.specs.declared.calls.NodeOpenFault.{NodeOpenFault}
use Rattle.cbdc_model.specs.Records.{Header, Record}
pub use Rattle.record_grammar.specs.Kinds.{IsCoord, IsGenesis}
use Rattle.node_journal.specs.Opening.{IsJournalOf, IsNoNodeOf}

-- the bytes open to this journal of a coordinator, the newest record first
abbrev pub IsCoordJournal : Header → List Record → List ℕ → Type 0
IsCoordJournal h J bytes = IsJournalOf IsCoord h J bytes

-- why a disk with these bytes and so much room is no coordinator
abbrev pub IsNoCoord : ℕ → List ℕ → NodeOpenFault → Type 0
IsNoCoord limit bytes fault = IsNoNodeOf IsCoord IsGenesis limit bytes fault
