use Rattle.std.proofs.Common.{◌≡◌, refl}
use Rattle.command_answers.specs.Scene.{scene}
use Rattle.rack_ledgers.specs.Racked.{disks_in}
use Rattle.run_command.specs.Promises.{run_promise, run_needs}
use Rattle.cbdc_types.specs.declared.answer.Answer.TheVariants as answers
use Rattle.command_answers.specs.Texts.{IsPrinted}
use Rattle.run_command.proofs.Printed.{did_run}
use Rattle.command_answers.proofs.Kept.{kept_not, kept_done, kept_cut}
use Rattle.run_command.proofs.running.run.Goals as goal

pub returns-in-Err-clause-kept : goal.returns-in-Err-clause-kept
returns-in-Err-clause-kept g c =
    let at = scene g.I.Inbox g.R.Rack g.O.Sink in
    kept_not (run_needs c.args.verdicts.now c.args.clients.now) (run_promise g.R.Disk.Disk c.args.verdicts.now c.args.clients.now)
    (at c.args.inbox.now c.args.rack.now c.args.out.now) (at c.run_all.new.inbox c.run_all.new.rack c.args.out.now)
    (c.run_all.new.rack ≡ c.args.rack.now) (c.run_all.new.inbox ≡ c.args.inbox.now) (λ of. absurd of) (λ of. absurd of) c.run_all.ensures.files
    c.in-Err.fault c.in-Err.ensures.fault c.in-Err.ensures.why c.in-Err.ensures.untouched c.in-Err.ensures.left refl refl

pub returns-in-Ok-write_beside-clause-kept : goal.returns-in-Ok-write_beside-clause-kept
returns-in-Ok-write_beside-clause-kept g c =
    let at = scene g.I.Inbox g.R.Rack g.O.Sink in
    kept_done (run_needs c.args.verdicts.now c.args.clients.now) (run_promise g.R.Disk.Disk c.args.verdicts.now c.args.clients.now)
    (at c.args.inbox.now c.args.rack.now c.args.out.now) (at c.run_all.new.inbox c.run_all.new.rack c.write_beside.new.out)
    (c.run_all.new.rack ≡ c.args.rack.now) (c.run_all.new.inbox ≡ c.args.inbox.now) (λ of. absurd of) (λ of. absurd of) c.run_all.ensures.files
    (did_run g.R.Disk.Disk (g.I.Inbox.file c.args.inbox.now) (disks_in g.R.Rack c.args.rack.now) (disks_in g.R.Rack c.run_all.new.rack)
    (IsPrinted (g.O.Sink.taken c.args.out.now) (g.O.Sink.taken c.write_beside.new.out) answers.Ok)
    c.args.verdicts.now c.args.clients.now c.in-Ok.done.ran c.in-Ok.ensures.did c.in-Ok-write_beside.ensures.prints.prints)
    c.write_beside.ensures.cause.later

pub returns-clause-kept : goal.returns-clause-kept
returns-clause-kept g c =
    let at = scene g.I.Inbox g.R.Rack g.O.Sink in
    kept_cut (run_needs c.args.verdicts.now c.args.clients.now) (run_promise g.R.Disk.Disk c.args.verdicts.now c.args.clients.now)
    (at c.args.inbox.now c.args.rack.now c.args.out.now) (at c.run_all.new.inbox c.run_all.new.rack c.write_beside.new.out)
    (c.run_all.new.rack ≡ c.args.rack.now) (c.run_all.new.inbox ≡ c.args.inbox.now) (λ of. absurd of) (λ of. absurd of) c.run_all.ensures.files
    (did_run g.R.Disk.Disk (g.I.Inbox.file c.args.inbox.now) (disks_in g.R.Rack c.args.rack.now) (disks_in g.R.Rack c.run_all.new.rack)
    (IsPrinted (g.O.Sink.taken c.args.out.now) (g.O.Sink.taken c.write_beside.new.out) answers.WriteFault)
    c.args.verdicts.now c.args.clients.now c.in-Ok.done.ran c.in-Ok.ensures.did c.in-Err-write_beside.ensures.prints.prints)
    c.in-Err-write_beside.ensures.cause.failed c.write_beside.ensures.cause.later
