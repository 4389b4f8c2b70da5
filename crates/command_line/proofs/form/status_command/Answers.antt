use Rattle.command_line.proofs.form.status_command.Goals as goal

pub returns : goal.returns
returns c = c.and_arg.ensures _ _ c.plain_command-plain.ensures c.hash_arg.ensures
