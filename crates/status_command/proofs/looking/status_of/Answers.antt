use Rattle.std.proofs.Common.{◌∙◌}
use Rattle.status_command.proofs.Items.{status_there, status_past}
use Rattle.status_command.proofs.looking.status_of.Goals as goal

pub returns-in-Some : goal.returns-in-Some
returns-in-Some g c =
    let e = c.in-Some.ensures.lookup in
    c.check_unspent.ensures ∙ status_there c.args.shape.now c.args.shards.now c.args.hash.now c.shard_of.result c.shard_of.ensures.value
    c.in-Some.shard.now e.3.0 e.1

pub returns-in-None : goal.returns-in-None
returns-in-None g c =
    status_past c.args.shape.now c.args.shards.now c.args.hash.now c.shard_of.result c.shard_of.ensures.value c.in-None.ensures.lookup.3
