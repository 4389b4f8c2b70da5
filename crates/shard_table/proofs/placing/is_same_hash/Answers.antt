use Rattle.std.proofs.Common.{◌∙◌}
use Rattle.shard_table.proofs.Digests.{digest_is}
use Rattle.shard_table.proofs.placing.is_same_hash.Goals as goal

pub returns : goal.returns
returns c = c.eq.ensures ∙ digest_is c.args.x.now c.args.y.now
