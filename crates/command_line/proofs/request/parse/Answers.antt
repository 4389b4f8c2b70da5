use Rattle.command_line.specs.Words.{texts}
use Rattle.command_line.proofs.Rows.{asked_by_wish, refused_by_mistake, wish_of, mistake_of, first_wish, first_mistake}
use Rattle.command_line.proofs.request.parse.Goals as goal

pub returns-in-Err-clause-asked : goal.returns-in-Err-clause-asked
returns-in-Err-clause-asked c =
    asked_by_wish (texts c.args.words.now) c.answer_to.result c.answer_to.ensures.shows
    (λ ok. first_wish _ _ (wish_of _ c.in-Err.error c.in-Err.ensures.fails (c.answer_to.ensures.wish ok)))

pub returns-in-Err-clause-refused : goal.returns-in-Err-clause-refused
returns-in-Err-clause-refused c =
    refused_by_mistake (texts c.args.words.now) c.answer_to.result
    (λ bad. first_mistake _ _ (mistake_of _ c.in-Err.error c.in-Err.ensures.fails (c.answer_to.ensures.refuses bad)))
