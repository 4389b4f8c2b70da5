-- What a disk's bytes are as a shard's journal.
use Rattle.std.specs.Prelude.{ℕ, List}
use Rattle.cbdc_types.specs.declared.calls.NodeOpenFault.{NodeOpenFault}
use Rattle.cbdc_model.specs.Records.{Header, Record}
pub use Rattle.record_grammar.specs.Kinds.{IsShardHeader, IsStart}
use Rattle.node_journal.specs.Opening.{IsJournalOf, IsNoNodeOf}

-- the bytes open to this journal of a shard, the newest record first
abbrev pub IsShardJournal : Header → List Record → List ℕ → Type 0
IsShardJournal h J bytes = IsJournalOf IsShardHeader h J bytes

-- why a disk with these bytes and so much room is no shard
abbrev pub IsNoShard : ℕ → List ℕ → NodeOpenFault → Type 0
IsNoShard limit bytes fault = IsNoNodeOf IsShardHeader IsStart limit bytes fault
