use Rattle.command_line.proofs.form.init_command.Goals as goal

pub returns : goal.returns
returns c = c.and_arg.ensures _ _ c.with_sizes-sized.ensures c.mint_arg.ensures
