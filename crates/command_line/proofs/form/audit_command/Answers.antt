use Rattle.command_line.proofs.form.audit_command.Goals as goal

pub returns : goal.returns
returns c = c.and_arg.ensures _ _ (c.and_arg-minted.ensures _ _ c.plain_command-plain.ensures c.mint_arg.ensures) c.audit_client_arg.ensures
