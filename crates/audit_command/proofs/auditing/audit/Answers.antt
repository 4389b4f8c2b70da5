use Rattle.std.proofs.Common.{◌≡◌, inl, inr, refl, subst, arith}
use Rattle.audit.specs.declared.verdict.Verdict.TheVariants.{Sound}
use Rattle.file_runs.specs.Runs.{joined}
use Rattle.rack_ledgers.proofs.AuditHistories.{verdicts_account}
use Rattle.audit_command.specs.Audits.{WasAudited}
use Rattle.audit_command.specs.Promises.{audit_promise, audit_needs}
use Rattle.command_answers.specs.Scene.{scene}
use Rattle.rack_ledgers.specs.Racked.{disks_in}
use Rattle.command_answers.proofs.Kept.{kept_not, kept_well}
use Rattle.audit_command.proofs.auditing.audit.Goals as goal

pub returns-in-Err-clause-kept : goal.returns-in-Err-clause-kept
returns-in-Err-clause-kept g c =
    let at = scene g.I.Inbox g.R.Rack g.O.Sink in
    kept_not (audit_needs c.args.mint.now c.args.clients.now) (audit_promise g.R.Disk.Disk c.args.mint.now c.args.clients.now)
    (at c.args.inbox.now c.args.rack.now c.args.out.now) (at c.audit_all.new.inbox c.audit_all.new.rack c.args.out.now)
    (c.audit_all.new.rack ≡ c.args.rack.now) (c.audit_all.new.inbox ≡ c.args.inbox.now) (λ of. absurd of) (λ of. absurd of) c.audit_all.ensures.files
    c.in-Err.fault c.in-Err.ensures.fault (c.audit_all.ensures.held, inr c.in-Err.ensures.why) c.in-Err.ensures.untouched
    (inr c.audit_all.ensures.held) refl refl

pub returns-in-Ok-Sound-clause-kept : goal.returns-in-Ok-Sound-clause-kept
returns-in-Ok-Sound-clause-kept g c =
    let at = scene g.I.Inbox g.R.Rack g.O.Sink in
    let was = subst (λ v. WasAudited g.R.Disk.Disk (g.I.Inbox.file c.args.inbox.now) (disks_in g.R.Rack c.args.rack.now)
    (disks_in g.R.Rack c.audit_all.new.rack) c.args.mint.now c.args.clients.now v) c.in-Ok-Sound.field-0-is c.in-Ok-Sound.ensures.did in
    kept_well (audit_needs c.args.mint.now c.args.clients.now) (audit_promise g.R.Disk.Disk c.args.mint.now c.args.clients.now)
    (at c.args.inbox.now c.args.rack.now c.args.out.now) (at c.audit_all.new.inbox c.audit_all.new.rack c.print.new.out)
    (c.audit_all.new.rack ≡ c.args.rack.now) (c.audit_all.new.inbox ≡ c.args.inbox.now) (λ of. absurd of) (λ of. absurd of) c.audit_all.ensures.files
    c.print.result c.print.ensures.shown
    (record {
      totals = c.in-Ok-Sound.totals;
      was = was;
      sentence = verdicts_account g.R.Disk.Disk (g.R.Rack.held c.args.rack.now) was.mint (joined was.handed) (Sound c.in-Ok-Sound.totals) was.audited;
      prints = c.print.ensures.prints;
    }) (λ file. ⊥) (λ file. ⊥) c.print.ensures.cause c.print.ensures.later

pub returns-in-Ok-Unsound-clause-kept : goal.returns-in-Ok-Unsound-clause-kept
returns-in-Ok-Unsound-clause-kept g c = record {
  cause = tt;
  did = λ well. absurd well;
  why = (
    c.audit_all.ensures.held,
    inl (subst (λ v. WasAudited g.R.Disk.Disk (g.I.Inbox.file c.args.inbox.now) (disks_in g.R.Rack c.args.rack.now)
        (disks_in g.R.Rack c.audit_all.new.rack) c.args.mint.now c.args.clients.now v) c.in-Ok-Unsound.field-0-is c.in-Ok-Unsound.ensures.did),
  );
  untouched = λ taken. absurd taken;
  spared = λ of. absurd of;
  unread = λ of. absurd of;
  inbox = c.audit_all.ensures.files;
  left = λ _. inr c.audit_all.ensures.held;
  silent = refl;
  written_later = omega arith;
}
