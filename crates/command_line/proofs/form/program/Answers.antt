use Rattle.std.proofs.lemmas.Result.{IfOk-weaker}
use Rattle.command_line.proofs.form.program.Goals as goal

pub returns : goal.returns
returns c =
    IfOk-weaker c.and_subcommand.result _ _ (λ r is. is.app) (c.and_subcommand.ensures _ _ c.app_with_gen-all.ensures c.help_command.ensures)
