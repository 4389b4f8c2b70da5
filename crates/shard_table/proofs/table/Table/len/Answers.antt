use Rattle.shard_table.proofs.Keys.{keys_set}
use Rattle.shard_table.proofs.table.Table.len.Goals as goal

pub returns-clause-set : goal.returns-clause-set
returns-clause-set c = rw (← c.self.view_is) (keys_set c.self.inside.slots.entries c.len.ensures.once)
