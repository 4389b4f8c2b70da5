use Rattle.command_line.proofs.form.app_with_gen.Goals as goal

pub returns : goal.returns
returns c = c.and_subcommand.ensures _ _ (c.and_subcommand-with_audit.ensures _ _ c.app_with_status-first.ensures c.audit_command.ensures)
    c.gen_command.ensures
