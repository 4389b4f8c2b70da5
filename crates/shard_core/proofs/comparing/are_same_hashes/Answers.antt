use Rattle.std.proofs.Common.{◌∙◌}
use Rattle.shard_core.proofs.Digests.{pointwise_is}
use Rattle.shard_core.proofs.comparing.are_same_hashes.Goals as goal

pub returns : goal.returns
returns c = c.eq.ensures ∙ pointwise_is c.args.a.now c.args.b.now
