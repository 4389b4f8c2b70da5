use Rattle.command_line.proofs.form.app_with_status.Goals as goal

pub returns : goal.returns
returns c = c.and_subcommand.ensures _ _ (c.and_subcommand-with_recover.ensures _ _ c.app_with_run-first.ensures c.recover_command.ensures)
    c.status_command.ensures
