use Rattle.command_line.proofs.form.with_nodes.Goals as goal

pub returns : goal.returns
returns c = c.and_arg.ensures _ _ (c.and_arg-sharded.ensures _ _ c.plain_command-plain.ensures c.shards_arg.ensures) c.coordinators_arg.ensures
