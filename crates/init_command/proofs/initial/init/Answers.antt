use Rattle.std.proofs.Common.{◌≡◌, refl, subst}
use Rattle.cbdc_types.specs.declared.answer.Answer.TheVariants as answers
use Rattle.line_text.specs.Lines.{init_text}
use Rattle.command_answers.specs.Scene.{scene}
use Rattle.command_answers.specs.Texts.{IsPrinted}
use Rattle.rack_ledgers.specs.Racked.{disks_in}
use Rattle.init_command.specs.Promises.{init_promise, init_needs}
use Rattle.init_command.proofs.Did.{init_by}
use Rattle.command_answers.proofs.Kept.{kept_not, kept_done, kept_cut}
use Rattle.init_command.proofs.initial.init.Goals as goal

pub returns-in-Err-clause-kept : goal.returns-in-Err-clause-kept
returns-in-Err-clause-kept g c =
    let at = scene g.I.Inbox g.R.Rack g.O.Sink in
    kept_not (init_needs c.args.file.now) (init_promise g.R.Disk.Disk c.args.shape.now c.args.file.now)
    (at c.args.inbox.now c.args.rack.now c.args.out.now) (at c.make.new.inbox c.make.new.rack c.args.out.now)
    (c.make.new.rack ≡ c.args.rack.now) (c.make.new.inbox ≡ c.args.inbox.now) (λ of. absurd of) (λ of. absurd of) c.make.ensures.files
    c.in-Err.fault c.in-Err.ensures.fault c.in-Err.ensures.why c.in-Err.ensures.untouched c.in-Err.ensures.left refl refl

pub returns-in-Ok-write_init-clause-kept : goal.returns-in-Ok-write_init-clause-kept
returns-in-Ok-write_init-clause-kept g c =
    let at = scene g.I.Inbox g.R.Rack g.O.Sink in
    let printed = IsPrinted (g.O.Sink.taken c.args.out.now) (g.O.Sink.taken c.write_init.new.out) answers.Ok in
    kept_done (init_needs c.args.file.now) (init_promise g.R.Disk.Disk c.args.shape.now c.args.file.now)
    (at c.args.inbox.now c.args.rack.now c.args.out.now) (at c.make.new.inbox c.make.new.rack c.write_init.new.out)
    (c.make.new.rack ≡ c.args.rack.now) (c.make.new.inbox ≡ c.args.inbox.now) (λ of. absurd of) (λ of. absurd of) c.make.ensures.files
    (init_by g.R.Disk.Disk (g.I.Inbox.file c.args.inbox.now) (disks_in g.R.Rack c.args.rack.now) (disks_in g.R.Rack c.make.new.rack)
    (λ text. init_text c.in-Ok.made.coins c.in-Ok.made.total c.in-Ok.made.genesis ≡ text) printed
    (λ text is. subst printed is c.in-Ok-write_init.ensures.prints)
    c.args.shape.now c.args.file.now c.in-Ok.ensures.made) c.write_init.ensures.cause.later

pub returns-in-Err-write_init-clause-kept : goal.returns-in-Err-write_init-clause-kept
returns-in-Err-write_init-clause-kept g c =
    let at = scene g.I.Inbox g.R.Rack g.O.Sink in
    let printed = IsPrinted (g.O.Sink.taken c.args.out.now) (g.O.Sink.taken c.write_init.new.out) answers.WriteFault in
    kept_cut (init_needs c.args.file.now) (init_promise g.R.Disk.Disk c.args.shape.now c.args.file.now)
    (at c.args.inbox.now c.args.rack.now c.args.out.now) (at c.make.new.inbox c.make.new.rack c.write_init.new.out)
    (c.make.new.rack ≡ c.args.rack.now) (c.make.new.inbox ≡ c.args.inbox.now) (λ of. absurd of) (λ of. absurd of) c.make.ensures.files
    (init_by g.R.Disk.Disk (g.I.Inbox.file c.args.inbox.now) (disks_in g.R.Rack c.args.rack.now) (disks_in g.R.Rack c.make.new.rack)
    (λ text. init_text c.in-Ok.made.coins c.in-Ok.made.total c.in-Ok.made.genesis ≡ text) printed
    (λ text is. subst printed is c.in-Err-write_init.ensures.prints)
    c.args.shape.now c.args.file.now c.in-Ok.ensures.made) c.in-Err-write_init.ensures.cause.failed c.write_init.ensures.cause.later
