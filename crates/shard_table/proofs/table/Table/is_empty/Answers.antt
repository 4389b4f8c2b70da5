use Rattle.std.proofs.Common.{ap}
use Rattle.shard_table.proofs.Keys.{keys, keys_empty}
use Rattle.shard_table.proofs.table.Table.is_empty.Goals as goal

pub returns : goal.returns
returns c = rw (← c.self.view_is)
    (λ t. ap keys (c.is_empty.ensures.0 t), λ e. c.is_empty.ensures.1 (keys_empty c.self.inside.slots.entries e))
