use Rattle.std.proofs.Common.{◌∙◌}
use Rattle.plain_check.proofs.Digests.{any_is}
use Rattle.plain_check.proofs.status.has.Goals as goal

pub returns : goal.returns
returns c = c.contains.ensures.value ∙ any_is c.args.xs.now c.args.x.now
