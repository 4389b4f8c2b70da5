use Rattle.std.proofs.Common.{length}
use Rattle.node_rows.proofs.ledgers.+shards_rest.Given as goal

-- the shards that are left
abbrev pub decreases-shards_rest : goal.decreases-shards_rest
decreases-shards_rest l = length l.shards.now
