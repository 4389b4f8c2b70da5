-- What contracts see of the nodes that lanes share.
use Rattle.cbdc_model.specs.Sights.{Sight}
use Rattle.node_journal.specs.Nodes.{sight as log_seen}
use Rattle.port_sets.specs.declared.locking.SharedShard.{SharedShard}
use Rattle.port_sets.specs.declared.coordinators.SharedLog.{SharedLog}

-- what contracts see of a shard under its wrapper
abbrev pub shard_sight : {S : Type 0} → (S → Sight) → SharedShard S → Sight
shard_sight sight n = sight n.node

-- what contracts see of a coordinator under its wrapper
abbrev pub log_sight : {D : Type 0} → SharedLog D → Sight
log_sight n = log_seen n.node
