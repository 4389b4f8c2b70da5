use Rattle.rack_runs.proofs.Turned.{not_turned, turns_leave}
use Rattle.std.proofs.Common.{◌≤◌, inl, inr, refl, sym, subst}
use Rattle.input_files.specs.Contents.{AreRead, all_txs}
use Rattle.sentinel.specs.Files.{file_verdict}
use Rattle.rack_ledgers.specs.Racked.{disks_in}
use Rattle.rack_runs.specs.Runs.{file_turns}
use Rattle.run_command.proofs.Inputs.{no_inputs_fault}
use Rattle.run_command.proofs.running.run_all.Goals as goal

pub returns-in-Err-clause-fault : goal.returns-in-Err-clause-fault
returns-in-Err-clause-fault g c = no_inputs_fault (g.I.Inbox.file c.args.inbox.now) (g.I.Inbox.count c.args.inbox.now)
    (g.I.Inbox.count c.inputs_in.new.inbox) c.args.clients.now c.args.verdicts.now c.in-Err.fault c.in-Err.ensures.fault

pub returns-in-Err-clause-why : goal.returns-in-Err-clause-why
returns-in-Err-clause-why g c = elim c.in-Err.ensures.fault [ inl first ↦ inl first | inr all ↦ inr (all.0, all.1, inl all.2) ]

pub returns-in-Err-clause-left : goal.returns-in-Err-clause-left
returns-in-Err-clause-left g c = inl refl

pub returns-in-Ok-run_on-clause-did : goal.returns-in-Ok-run_on-clause-did
returns-in-Ok-run_on-clause-did g c = record {
  handed = c.deref.result.now;
  known = c.in-Ok.inputs.verdicts;
  few = subst (λ txs. all_txs txs ≤ 1000000) (sym c.deref.ensures.value) c.in-Ok.ensures.few;
  read = subst (λ txs. AreRead (g.I.Inbox.file c.args.inbox.now) 0 c.args.clients.now txs) (sym c.deref.ensures.value) c.in-Ok.ensures.read;
  verdicts_read = c.in-Ok.ensures.verdicts;
  caused = c.in-Ok-run_on.ensures.caused;
  tells = c.in-Ok-run_on.ensures.told;
}

pub returns-in-Err-run_on-clause-why : goal.returns-in-Err-run_on-clause-why
returns-in-Err-run_on-clause-why g c = inr (
  c.deref.result.now,
  subst (λ txs. AreRead (g.I.Inbox.file c.args.inbox.now) 0 c.args.clients.now txs) (sym c.deref.ensures.value) c.in-Ok.ensures.read,
  inr (c.in-Ok.inputs.verdicts, c.in-Ok.ensures.verdicts, c.in-Err-run_on.ensures.stopped),
)

pub returns-in-Err-run_on-clause-untouched : goal.returns-in-Err-run_on-clause-untouched
returns-in-Err-run_on-clause-untouched g c before =
    absurd (not_turned g.R.Disk.Disk (disks_in g.R.Rack c.args.rack.now) (disks_in g.R.Rack c.run_on.new.rack)
    (file_turns (file_verdict c.in-Ok.inputs.verdicts) c.deref.result.now) c.in-Err-run_on.fault c.in-Err-run_on.ensures.stopped before)

pub returns-in-Err-run_on-clause-left : goal.returns-in-Err-run_on-clause-left
returns-in-Err-run_on-clause-left g c = inr (
  c.deref.result.now,
  subst (λ txs. AreRead (g.I.Inbox.file c.args.inbox.now) 0 c.args.clients.now txs) (sym c.deref.ensures.value) c.in-Ok.ensures.read,
  c.in-Ok.inputs.verdicts,
  c.in-Ok.ensures.verdicts,
  turns_leave g.R.Disk.Disk (disks_in g.R.Rack c.args.rack.now) (disks_in g.R.Rack c.run_on.new.rack)
      (file_turns (file_verdict c.in-Ok.inputs.verdicts) c.deref.result.now) c.in-Err-run_on.fault c.in-Err-run_on.ensures.stopped,
)
