use Rattle.command_line.proofs.form.gen_command.Goals as goal

pub returns : goal.returns
returns c = c.and_arg.ensures _ _ (c.and_arg-seeded.ensures _ _ c.gen_with_options-optional.ensures c.seed_arg.ensures) c.count_arg.ensures
