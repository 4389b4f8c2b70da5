use Rattle.std.proofs.Common.{is_some, sym, ap, ◌∙◌}
use Rattle.shard_table.proofs.Keys.{has_is}
use Rattle.shard_table.proofs.table.Table.contains.Goals as goal

pub returns : goal.returns
returns c = rw (← c.self.view_is) (c.is_some.ensures ∙ ap is_some c.get.ensures ∙ sym (has_is c.self.inside.slots.entries c.args.x.now))
