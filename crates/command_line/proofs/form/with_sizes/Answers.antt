use Rattle.command_line.proofs.form.with_sizes.Goals as goal

pub returns : goal.returns
returns c = c.and_arg.ensures _ _ (c.and_arg-laned.ensures _ _ c.with_nodes-nodes.ensures c.lanes_arg.ensures) c.batch_arg.ensures
