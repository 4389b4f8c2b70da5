use Rattle.rack_laws.proofs.complete.node_opens_law.Goals as goal
use Rattle.coord_log.specs.Opening.{IsCoord}
use Rattle.shard_node.specs.Opening.{IsShardHeader}
use Rattle.rack_laws.proofs.Openings.{node_opens}

pub returns-clause-coordinator : goal.returns-clause-coordinator
returns-clause-coordinator c = node_opens IsCoord

pub returns-clause-shard : goal.returns-clause-shard
returns-clause-shard c = node_opens IsShardHeader
