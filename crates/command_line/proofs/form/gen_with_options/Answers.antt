use Rattle.command_line.proofs.form.gen_with_options.Goals as goal

pub returns : goal.returns
returns c = c.and_arg.ensures _ _ (c.and_arg-replicated.ensures _ _ c.gen_with_sizes-sized.ensures c.replicas_arg.ensures) c.watch_arg.ensures
