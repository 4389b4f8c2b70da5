use Rattle.std.proofs.Common.{◌≡◌, inl, refl, sym, subst}
use Rattle.command_answers.specs.Promises.{HasKept}
use Rattle.command_answers.specs.Scene.{scene}
use Rattle.command_answers.specs.Texts.{IsPrinted}
use Rattle.command_answers.proofs.Answers.{well_told, told_by}
use Rattle.command_answers.proofs.Kept.{kept_by}
use Rattle.audit_command.specs.Promises.{audit_promise, audit_needs}
use Rattle.gen_command.specs.Generated.{WhyNoWorkload}
use Rattle.gen_command.specs.Promises.{gen_promise}
use Rattle.run_command.specs.Promises.{run_promise, run_needs, recover_promise, recover_needs}
use Rattle.status_command.specs.Promises.{status_promise, status_needs}
use Rattle.commands.specs.Promises.{promise_of, needs_of}
use Rattle.commands.proofs.top.answer_to.Goals as goal

pub returns-in-Init-clause-kept : goal.returns-in-Init-clause-kept
returns-in-Init-clause-kept g c =
    let at = scene g.I.Inbox g.R.Rack g.O.Sink in
    subst (λ r. HasKept (needs_of r) (promise_of g.R.Disk.Disk r) (at c.args.inbox.now c.args.rack.now c.args.out.now)
    (at c.init.new.inbox c.init.new.rack c.init.new.out)
    (c.init.new.rack ≡ c.args.rack.now) (c.init.new.inbox ≡ c.args.inbox.now) c.init.result) (sym c.in-Init.is) c.init.ensures.kept

pub returns-in-Run-clause-kept : goal.returns-in-Run-clause-kept
returns-in-Run-clause-kept g c =
    let at = scene g.I.Inbox g.R.Rack g.O.Sink in
    let before = at c.args.inbox.now c.args.rack.now c.args.out.now in
    let after = at c.run.new.inbox c.run.new.rack c.run.new.out in
    let same = c.run.new.rack ≡ c.args.rack.now in
    let unread = c.run.new.inbox ≡ c.args.inbox.now in
    subst (λ r. HasKept (needs_of r) (promise_of g.R.Disk.Disk r) before after same unread c.run.result) (sym c.in-Run.is)
    (subst (λ files. HasKept (run_needs c.in-Run.verdicts files) (run_promise g.R.Disk.Disk c.in-Run.verdicts files) before after same unread
    c.run.result) c.deref.ensures.value c.run.ensures.kept)

pub returns-in-Recover-clause-kept : goal.returns-in-Recover-clause-kept
returns-in-Recover-clause-kept g c =
    let at = scene g.I.Inbox g.R.Rack g.O.Sink in
    let before = at c.args.inbox.now c.args.rack.now c.args.out.now in
    let after = at c.args.inbox.now c.recover.new.rack c.recover.new.out in
    let same = c.recover.new.rack ≡ c.args.rack.now in
    let unread = c.args.inbox.now ≡ c.args.inbox.now in
    subst (λ r. HasKept (needs_of r) (promise_of g.R.Disk.Disk r) before after same unread c.recover.result) (sym c.in-Recover.is)
    (kept_by recover_needs (recover_promise g.R.Disk.Disk) before after same same (Unit {0}) unread c.recover.result (λ e. e) (λ _. refl)
    (c.recover.ensures.kept (g.I.Inbox.file c.args.inbox.now) (g.I.Inbox.count c.args.inbox.now)))

pub returns-in-Status-clause-kept : goal.returns-in-Status-clause-kept
returns-in-Status-clause-kept g c =
    let at = scene g.I.Inbox g.R.Rack g.O.Sink in
    let before = at c.args.inbox.now c.args.rack.now c.args.out.now in
    let after = at c.args.inbox.now c.status.new.rack c.status.new.out in
    let same = c.status.new.rack ≡ c.args.rack.now in
    let unread = c.args.inbox.now ≡ c.args.inbox.now in
    subst (λ r. HasKept (needs_of r) (promise_of g.R.Disk.Disk r) before after same unread c.status.result) (sym c.in-Status.is)
    (subst (λ hashes. HasKept status_needs (status_promise g.R.Disk.Disk hashes) before after same unread c.status.result)
    c.deref-in-Status.ensures.value
    (kept_by status_needs (status_promise g.R.Disk.Disk c.deref-in-Status.result.now) before after same same (Unit {0}) unread c.status.result
    (λ e. e) (λ _. refl)
    (c.status.ensures.kept (g.I.Inbox.file c.args.inbox.now) (g.I.Inbox.count c.args.inbox.now))))

pub returns-in-Audit-clause-kept : goal.returns-in-Audit-clause-kept
returns-in-Audit-clause-kept g c =
    let at = scene g.I.Inbox g.R.Rack g.O.Sink in
    let before = at c.args.inbox.now c.args.rack.now c.args.out.now in
    let after = at c.audit.new.inbox c.audit.new.rack c.audit.new.out in
    let same = c.audit.new.rack ≡ c.args.rack.now in
    let unread = c.audit.new.inbox ≡ c.args.inbox.now in
    subst (λ r. HasKept (needs_of r) (promise_of g.R.Disk.Disk r) before after same unread c.audit.result) (sym c.in-Audit.is)
    (subst (λ files. HasKept (audit_needs c.in-Audit.mint files) (audit_promise g.R.Disk.Disk c.in-Audit.mint files) before after same unread
    c.audit.result) c.deref-in-Audit.ensures.value c.audit.ensures.kept)

pub returns-in-Gen-clause-kept : goal.returns-in-Gen-clause-kept
returns-in-Gen-clause-kept g c =
    let at = scene g.I.Inbox g.R.Rack g.O.Sink in
    let before = at c.args.inbox.now c.args.rack.now c.args.out.now in
    let after = at c.args.inbox.now c.args.rack.now c.generated.new.out in
    let p = gen_promise g.R.Disk.Disk c.in-Gen.shape c.in-Gen.seed c.in-Gen.count c.in-Gen.options in
    subst (λ r. HasKept (needs_of r) (promise_of g.R.Disk.Disk r) before after (c.args.rack.now ≡ c.args.rack.now)
    (c.args.inbox.now ≡ c.args.inbox.now) c.generated.result) (sym c.in-Gen.is)
    (record {
      cause = c.generated.ensures.cause;
      did = λ well. ((λ n. refl), c.generated.ensures.did well);
      why = told_by (WhyNoWorkload c.in-Gen.shape c.in-Gen.seed c.in-Gen.count c.in-Gen.options.watch) (p.why before after) c.generated.result
          (λ b why. ((λ n. refl), why)) c.generated.ensures.why;
      untouched = λ _. refl;
      spared = λ _. refl;
      unread = λ _. refl;
      inbox = λ name. refl;
      left = λ _. inl refl;
      silent = c.generated.ensures.silent;
      written_later = c.generated.ensures.written_later;
    })

pub returns-in-Show-clause-kept : goal.returns-in-Show-clause-kept
returns-in-Show-clause-kept g c =
    let at = scene g.I.Inbox g.R.Rack g.O.Sink in
    let before = at c.args.inbox.now c.args.rack.now c.args.out.now in
    let after = at c.args.inbox.now c.args.rack.now c.show.new.out in
    subst (λ r. HasKept (needs_of r) (promise_of g.R.Disk.Disk r) before after (c.args.rack.now ≡ c.args.rack.now)
    (c.args.inbox.now ≡ c.args.inbox.now) c.show.result) (sym c.in-Show.is)
    (record {
      cause = c.show.ensures.cause;
      did = λ well. subst (λ text. IsPrinted before.printed after.printed c.show.result text) c.as_str.ensures.value c.show.ensures.prints;
      why = well_told (λ a. ⊥) c.show.result c.show.ensures.shown;
      untouched = λ _. refl;
      spared = λ _. refl;
      unread = λ _. refl;
      inbox = λ name. refl;
      left = λ _. inl refl;
      silent = c.show.ensures.silent;
      written_later = c.show.ensures.written_later;
    })
