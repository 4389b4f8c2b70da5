use Rattle.std.proofs.Common.{inl, inr, ⊎_elim}
use Rattle.command_line.specs.Words.{texts}
use Rattle.command_answers.specs.Scene.{scene}
use Rattle.commands.specs.Outcomes.{AskedWhy, Why}
use Rattle.command_answers.proofs.Answers.{told_by}
use Rattle.commands.proofs.Named.{answered}
use Rattle.commands.proofs.Naming.{asked_name}
use Rattle.commands.proofs.Spared.{of_no_rack, of_no_file}
use Rattle.outside.specs.Counts.{Rose}
use Rattle.command_line.proofs.Refused.{asked_law}
use Rattle.commands.proofs.top.answer_words.Goals as goal

pub returns-in-Ok-clause-cause : goal.returns-in-Ok-clause-cause
returns-in-Ok-clause-cause g c = answered _ _ _ c.in-Ok.request _ c.answer_to-status.result c.in-Ok.ensures.asked
    c.answer_to-status.ensures.kept.cause

pub returns-in-Ok-clause-did : goal.returns-in-Ok-clause-did
returns-in-Ok-clause-did g c well = (c.in-Ok.request, c.in-Ok.ensures.asked, c.answer_to-status.ensures.kept.did well)

pub returns-in-Ok-clause-why : goal.returns-in-Ok-clause-why
returns-in-Ok-clause-why g c =
    let at = scene g.I.Inbox g.R.Rack g.O.Sink in
    let before = at c.args.inbox.now c.args.rack.now c.args.out.now in
    let after = at c.answer_to-status.new.inbox c.answer_to-status.new.rack c.answer_to-status.new.out in
    told_by (Why g.R.Disk.Disk before after c.in-Ok.request) (AskedWhy g.R.Disk.Disk before after (texts c.args.words.now)) c.answer_to-status.result
    (λ a so. (c.in-Ok.request, c.in-Ok.ensures.asked, so)) c.answer_to-status.ensures.kept.why

pub returns-in-Ok-clause-refused_words : goal.returns-in-Ok-clause-refused_words
returns-in-Ok-clause-refused_words g c refused = absurd
    (asked_law (texts c.args.words.now) c.in-Ok.request c.see_request.ensures c.in-Ok.ensures.asked refused)

pub returns-in-Ok-clause-left : goal.returns-in-Ok-clause-left
returns-in-Ok-clause-left g c not_well = ⊎_elim (λ same. inl same) (λ left. inr (c.in-Ok.request, c.in-Ok.ensures.asked, left))
    (c.answer_to-status.ensures.kept.left not_well)

pub returns-in-Ok-clause-named : goal.returns-in-Ok-clause-named
returns-in-Ok-clause-named g c =
    asked_name (texts c.args.words.now) c.in-Ok.request (g.I.Inbox.count c.args.inbox.now) (g.I.Inbox.count c.answer_to-status.new.inbox)
    (Rose (g.O.Sink.count c.args.out.now) (g.O.Sink.count c.answer_to-status.new.out)) c.name_of-name.result.now c.answer_to-status.result
    c.in-Ok.ensures.asked c.answer_to-status.ensures.kept.cause c.name_of-name.ensures

pub returns-in-Ok-clause-spared : goal.returns-in-Ok-clause-spared
returns-in-Ok-clause-spared g c of =
    ⊎_elim (λ bad. absurd (asked_law (texts c.args.words.now) c.in-Ok.request c.see_request.ensures c.in-Ok.ensures.asked bad))
    (λ so. c.answer_to-status.ensures.kept.spared (of_no_rack (texts c.args.words.now) so.0 c.in-Ok.request so.1 c.in-Ok.ensures.asked so.2)) of

pub returns-in-Ok-clause-unread : goal.returns-in-Ok-clause-unread
returns-in-Ok-clause-unread g c of =
    ⊎_elim (λ bad. absurd (asked_law (texts c.args.words.now) c.in-Ok.request c.see_request.ensures c.in-Ok.ensures.asked bad))
    (λ so. c.answer_to-status.ensures.kept.unread (of_no_file (texts c.args.words.now) so.0 c.in-Ok.request so.1 c.in-Ok.ensures.asked so.2)) of

pub returns-in-Ok-clause-untouched : goal.returns-in-Ok-clause-untouched
returns-in-Ok-clause-untouched g c = c.answer_to-status.ensures.kept.untouched

pub returns-in-Ok-clause-inbox : goal.returns-in-Ok-clause-inbox
returns-in-Ok-clause-inbox g c = c.answer_to-status.ensures.kept.inbox

pub returns-in-Ok-clause-silent : goal.returns-in-Ok-clause-silent
returns-in-Ok-clause-silent g c = c.answer_to-status.ensures.kept.silent

pub returns-in-Ok-clause-written_later : goal.returns-in-Ok-clause-written_later
returns-in-Ok-clause-written_later g c = c.answer_to-status.ensures.kept.written_later
