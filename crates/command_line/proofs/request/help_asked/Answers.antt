use Rattle.clap.specs.Words.{found_of, rows_of}
use Rattle.command_line.specs.Words.{texts}
use Rattle.command_line.proofs.AskedLemmas.{topic_mistake, topic_wish}
use Rattle.command_line.proofs.Rows.{asked_by_wish, refused_by_mistake}
use Rattle.command_line.proofs.request.help_asked.Goals as goal

pub returns-clause-asked : goal.returns-clause-asked
returns-clause-asked c =
    asked_by_wish (texts c.args.words.now) c.help_request.result c.help_request.ensures.shows
    (λ ok. topic_wish (texts c.args.words.now) (rows_of (found_of c.args.inner.now)) c.requires (c.help_request.ensures.wish ok))

pub returns-clause-refused : goal.returns-clause-refused
returns-clause-refused c =
    refused_by_mistake (texts c.args.words.now) c.help_request.result
    (λ bad. topic_mistake (texts c.args.words.now) (rows_of (found_of c.args.inner.now)) c.requires (c.help_request.ensures.refuses bad))
