use Rattle.std.proofs.Common.{ℕ, inl, inr, ⊎_elim, ap, subst, arith}
use Rattle.std.proofs.lemmas.Result.{on_err_weaker}
use Rattle.outside.specs.Counts.{Rose}
use Rattle.command_line.specs.Words.{texts}
use Rattle.commands.specs.Causes.{IsAnswerToWords}
use Rattle.command_answers.specs.Scene.{scene}
use Rattle.rack_ledgers.specs.Racked.{disks_in}
use Rattle.commands.proofs.Complete.{complete}
use Rattle.commands.proofs.Exact.{exact}
use Rattle.command_answers.proofs.Counts.{rose_later}
use Rattle.command_answers.proofs.Answers.{told_by}
use Rattle.commands.specs.Outcomes.{AskedWhy}
use Rattle.commands.proofs.Did.{did_by, later_by, left_by, printed_still, why_by}
use Rattle.commands.proofs.Faults.{fault_printed}
use Rattle.commands.proofs.Survival.{survives}
use Rattle.commands.proofs.top.process.Goals as goal

pub returns-clause-did : goal.returns-clause-did
returns-clause-did g c well =
    let before = scene g.I.Inbox g.R.Rack g.O.Sink c.args.inbox.now c.args.rack c.args.out.now in
    let inbox = c.answer_words-status.new.inbox in
    let (r, asked, was) = c.answer_words-status.ensures.did well in (
      r,
      asked,
      did_by g.R.Disk.Disk before (g.I.Inbox.file inbox) (g.I.Inbox.count inbox) (disks_in g.R.Rack c.answer_words-status.new.rack)
          (g.O.Sink.taken c.answer_words-status.new.out) (g.O.Sink.taken c.write_fault.new.out) (g.O.Sink.count c.answer_words-status.new.out)
          (g.O.Sink.count c.write_fault.new.out) c.answer_words-status.result.status
          (λ text. printed_still (g.O.Sink.taken c.args.out.now) (g.O.Sink.taken c.answer_words-status.new.out)
          (g.O.Sink.taken c.write_fault.new.out) c.answer_words-status.result.name.now text c.write_fault.result
          c.answer_words-status.result.status c.write_fault.ensures.prints)
          r was,
    )

pub returns-clause-why : goal.returns-clause-why
returns-clause-why g c =
    let at = scene g.I.Inbox g.R.Rack g.O.Sink in
    let before = at c.args.inbox.now c.args.rack c.args.out.now in
    let inbox = c.answer_words-status.new.inbox in
    let mid = at inbox c.answer_words-status.new.rack c.answer_words-status.new.out in
    let after = at inbox c.answer_words-status.new.rack c.write_fault.new.out in
    told_by (AskedWhy g.R.Disk.Disk before mid (texts c.args.words.now)) (AskedWhy g.R.Disk.Disk before after (texts c.args.words.now))
    c.answer_words-status.result.status
    (λ a why. why_by g.R.Disk.Disk before (g.I.Inbox.file inbox) (g.I.Inbox.count inbox) (disks_in g.R.Rack c.answer_words-status.new.rack)
    (g.O.Sink.taken c.answer_words-status.new.out) (g.O.Sink.taken c.write_fault.new.out) (g.O.Sink.count c.answer_words-status.new.out)
    (g.O.Sink.count c.write_fault.new.out) a (texts c.args.words.now) why)
    c.answer_words-status.ensures.why

pub returns-clause-left : goal.returns-clause-left
returns-clause-left g c ill =
    let before = scene g.I.Inbox g.R.Rack g.O.Sink c.args.inbox.now c.args.rack c.args.out.now in
    let inbox = c.answer_words-status.new.inbox in
    ⊎_elim (λ same. inl same)
    (λ left. inr (left_by g.R.Disk.Disk before (g.I.Inbox.file inbox) (g.I.Inbox.count inbox) (disks_in g.R.Rack c.answer_words-status.new.rack)
    (g.O.Sink.taken c.answer_words-status.new.out) (g.O.Sink.taken c.write_fault.new.out) (g.O.Sink.count c.answer_words-status.new.out)
    (g.O.Sink.count c.write_fault.new.out) c.answer_words-status.result.status (texts c.args.words.now) left))
    (c.answer_words-status.ensures.left ill)

pub returns-clause-bad_words : goal.returns-clause-bad_words
returns-clause-bad_words g c is =
    subst (λ a. IsAnswerToWords (texts c.args.words.now) (g.I.Inbox.count c.args.inbox.now) (g.I.Inbox.count c.answer_words-status.new.inbox)
    (Rose (g.O.Sink.count c.args.out.now) (g.O.Sink.count c.answer_words-status.new.out)) a) is c.answer_words-status.ensures.cause

pub returns-clause-read_fault : goal.returns-clause-read_fault
returns-clause-read_fault g c file is =
    subst (λ a. IsAnswerToWords (texts c.args.words.now) (g.I.Inbox.count c.args.inbox.now) (g.I.Inbox.count c.answer_words-status.new.inbox)
    (Rose (g.O.Sink.count c.args.out.now) (g.O.Sink.count c.answer_words-status.new.out)) a) is c.answer_words-status.ensures.cause

pub returns-clause-write_fault : goal.returns-clause-write_fault
returns-clause-write_fault g c is =
    rose_later (g.O.Sink.count c.args.out.now) (g.O.Sink.count c.args.out.now) (g.O.Sink.count c.answer_words-status.new.out)
    (g.O.Sink.count c.write_fault.new.out) (omega arith) c.write_fault.ensures.cause.later
    (subst (λ a. IsAnswerToWords (texts c.args.words.now) (g.I.Inbox.count c.args.inbox.now) (g.I.Inbox.count c.answer_words-status.new.inbox)
    (Rose (g.O.Sink.count c.args.out.now) (g.O.Sink.count c.answer_words-status.new.out)) a) is c.answer_words-status.ensures.cause)

pub returns-clause-refused_words : goal.returns-clause-refused_words
returns-clause-refused_words g c refused = c.answer_words-status.ensures.refused_words refused

pub returns-clause-fault_line : goal.returns-clause-fault_line
returns-clause-fault_line g c =
    let before = g.O.Sink.count c.args.out.now in
    let mid = g.O.Sink.count c.answer_words-status.new.out in
    let now = g.O.Sink.count c.write_fault.new.out in
    let at = scene g.I.Inbox g.R.Rack g.O.Sink in
    fault_printed (at c.args.inbox.now c.args.rack c.args.out.now)
    (at c.answer_words-status.new.inbox c.answer_words-status.new.rack c.write_fault.new.out)
    (texts c.args.words.now) (g.O.Sink.taken c.answer_words-status.new.out) c.answer_words-status.result.name.now c.write_fault.result
    c.answer_words-status.result.status
    c.answer_words-status.ensures.silent
    c.answer_words-status.ensures.named
    c.write_fault.ensures.prints
    (on_err_weaker c.write_fault.result (rose_later before mid now now c.answer_words-status.ensures.written_later (omega arith))
    c.write_fault.ensures.cause.failed)

pub returns-clause-complete : goal.returns-clause-complete
returns-clause-complete g c r asked free =
    let at = scene g.I.Inbox g.R.Rack g.O.Sink in
    let before = at c.args.inbox.now c.args.rack c.args.out.now in
    let inbox = c.answer_words-status.new.inbox in
    let mid = at inbox c.answer_words-status.new.rack c.answer_words-status.new.out in
    let after = at inbox c.answer_words-status.new.rack c.write_fault.new.out in
    complete g.R.Disk.Disk before after (texts c.args.words.now) r asked free c.answer_words-status.result.status
    (told_by (AskedWhy g.R.Disk.Disk before mid (texts c.args.words.now)) (AskedWhy g.R.Disk.Disk before after (texts c.args.words.now))
    c.answer_words-status.result.status
    (λ a why. why_by g.R.Disk.Disk before (g.I.Inbox.file inbox) (g.I.Inbox.count inbox) (disks_in g.R.Rack c.answer_words-status.new.rack)
    (g.O.Sink.taken c.answer_words-status.new.out) (g.O.Sink.taken c.write_fault.new.out) (g.O.Sink.count c.answer_words-status.new.out)
    (g.O.Sink.count c.write_fault.new.out) a (texts c.args.words.now) why)
    c.answer_words-status.ensures.why)
    (λ is. subst (λ a. IsAnswerToWords (texts c.args.words.now) (g.I.Inbox.count c.args.inbox.now) (g.I.Inbox.count inbox)
    (Rose (g.O.Sink.count c.args.out.now) (g.O.Sink.count c.answer_words-status.new.out)) a) is c.answer_words-status.ensures.cause)

pub returns-clause-exact : goal.returns-clause-exact
returns-clause-exact g c r asked came =
    let at = scene g.I.Inbox g.R.Rack g.O.Sink in
    let inbox = c.answer_words-status.new.inbox in
    exact g.R.Disk.Disk (at c.args.inbox.now c.args.rack c.args.out.now)
    (at c.answer_words-status.new.inbox c.answer_words-status.new.rack c.answer_words-status.new.out)
    (texts c.args.words.now) r c.answer_words-status.result.status asked (⊎_elim (λ well. inl (c.answer_words-status.ensures.did well))
    (λ later. inr (later_by g.R.Disk.Disk (at c.args.inbox.now c.args.rack c.args.out.now) (g.I.Inbox.file inbox) (g.I.Inbox.count inbox)
    (disks_in g.R.Rack c.answer_words-status.new.rack)
    (g.O.Sink.taken c.answer_words-status.new.out) (g.O.Sink.taken c.write_fault.new.out) (g.O.Sink.count c.answer_words-status.new.out)
    (g.O.Sink.count c.write_fault.new.out) c.answer_words-status.result.status r later)) came)

pub returns-clause-survives : goal.returns-clause-survives
returns-clause-survives g c K mint submissions E within shown kept whatever =
    let e = c.answer_words-status.ensures in
    let at = scene g.I.Inbox g.R.Rack g.O.Sink in
    let made = survives g.R.Disk.Disk c.see_images.ensures (at c.args.inbox.now c.args.rack c.args.out.now)
    (at c.answer_words-status.new.inbox c.answer_words-status.new.rack c.answer_words-status.new.out)
    K mint submissions E within shown kept (texts c.args.words.now) whatever
    (λ of n. ap (λ r. g.R.Rack.held r n) (e.spared of)) c.answer_words-status.result.status e.did
    (λ ill. ⊎_elim (λ same. inl (λ (n : ℕ). ap (λ r. g.R.Rack.held r n) same)) (λ left. inr left) (e.left ill)) in
    record { txs = made.txs; handed_in = made.handed_in; grows = made.grows }
