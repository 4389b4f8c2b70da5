use Rattle.shard_table.proofs.Sizes as sizes
use Rattle.shard_table.proofs.placing.masked.Goals as goal

pub returns : goal.returns
returns c = sizes.masked c.args.number c.args.homes c.requires.size c.requires.some
