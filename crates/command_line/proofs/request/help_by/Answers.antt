use Rattle.command_line.proofs.Rows.{mistake_of, wish_of}
use Rattle.command_line.proofs.request.help_by.Goals as goal

pub returns-clause-refuses : goal.returns-clause-refuses
returns-clause-refuses c = λ bad. mistake_of _ c.in-Err.error c.in-Err.ensures.fails (c.answer_to.ensures.refuses bad)

pub returns-clause-wish : goal.returns-clause-wish
returns-clause-wish c = λ ok. wish_of _ c.in-Err.error c.in-Err.ensures.fails (c.answer_to.ensures.wish ok)
