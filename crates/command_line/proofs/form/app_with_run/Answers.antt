use Rattle.command_line.proofs.form.app_with_run.Goals as goal

pub returns : goal.returns
returns c = c.and_subcommand.ensures _ _ (c.and_subcommand-with_init.ensures _ _ c.top.ensures c.init_command.ensures) c.run_command.ensures
