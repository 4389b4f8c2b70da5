use Rattle.shard_table.proofs.Prefixes.{gathered_once}
use Rattle.shard_table.proofs.slots.HashSlots.len.Goals as goal

pub returns-clause-once : goal.returns-clause-once
returns-clause-once g c = rw (← c.self.view_is) (gathered_once _ c.self.invariant.sound.once)
