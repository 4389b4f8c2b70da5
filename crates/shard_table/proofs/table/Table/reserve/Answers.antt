use Rattle.shard_table.proofs.Keys.{same_members}
use Rattle.shard_table.proofs.table.Table.reserve.Goals as goal

pub returns-clause-same : goal.returns-clause-same
returns-clause-same c = rw (← c.self.view_is) (same_members c.self.inside.slots.entries c.reserve.new.self.entries c.reserve.ensures.kept)
