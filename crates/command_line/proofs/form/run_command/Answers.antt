use Rattle.command_line.proofs.form.run_command.Goals as goal

pub returns : goal.returns
returns c = c.and_arg.ensures _ _ (c.and_arg-repeated.ensures _ _ (c.and_arg-told.ensures _ _ c.plain_command-plain.ensures c.verdicts_arg.ensures)
    c.repeats_arg.ensures) c.client_arg.ensures
