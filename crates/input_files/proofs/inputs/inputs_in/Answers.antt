use Rattle.std.proofs.Common.{inl, inr, subst, IfOk, IfErr}
use Rattle.input_files.specs.Inputs.{AreHadVerdicts, AreNoHadVerdicts}
use Rattle.input_files.proofs.Had.{IsHad, had_read, had_fault}
use Rattle.input_files.proofs.inputs.inputs_in.Goals as goal

pub returns-in-Err-clause-fault : goal.returns-in-Err-clause-fault
returns-in-Err-clause-fault g c = inl c.in-Err.ensures.fault

pub returns-in-Ok-verdicts_of-clause-verdicts : goal.returns-in-Ok-verdicts_of-clause-verdicts
returns-in-Ok-verdicts_of-clause-verdicts g c =
    let name = c.args.verdicts.now.name.now in
    had_read (g.I.Inbox.file c.args.inbox.now name) c.bytes_of-had.result c.in-Ok-verdicts_of.verdicts
    (subst (λ t. IsHad t c.bytes_of-had.result) (c.in-Ok.ensures.same name) c.bytes_of-had.ensures.bytes) c.in-Ok-verdicts_of.ensures.read

pub returns-in-Err-verdicts_of-clause-fault : goal.returns-in-Err-verdicts_of-clause-fault
returns-in-Err-verdicts_of-clause-fault g c =
    let name = c.args.verdicts.now.name.now in
    inr (
      c.in-Ok.files.items,
      c.in-Ok.ensures.read,
      had_fault c.args.verdicts.now.place (g.I.Inbox.file c.args.inbox.now name) (g.I.Inbox.count c.args.inbox.now name)
          (g.I.Inbox.count c.all_clients_in.new.inbox name) (g.I.Inbox.count c.bytes_of-had.new.inbox name)
          c.bytes_of-had.result c.in-Err-verdicts_of.fault (c.in-Ok.ensures.later name)
          (subst (λ t. IsHad t c.bytes_of-had.result) (c.in-Ok.ensures.same name) c.bytes_of-had.ensures.bytes) c.bytes_of-had.ensures.fault
          c.in-Err-verdicts_of.ensures.fault,
    )
