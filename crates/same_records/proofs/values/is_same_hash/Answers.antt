use Rattle.std.proofs.Common.{◌∙◌}
use Rattle.same_records.proofs.Digests.{digest_is}
use Rattle.same_records.proofs.values.is_same_hash.Goals as goal

pub returns : goal.returns
returns c = c.eq.ensures ∙ digest_is c.args.x.now c.args.y.now
