use Rattle.std.proofs.Common.{◌≡◌, inr, refl}
use Rattle.rack_runs.proofs.Turned.{not_turned, not_done, turns_leave}
use Rattle.rack_ledgers.specs.Racked.{disks_in}
use Rattle.rack_runs.specs.Runs.{open_turns}
use Rattle.cbdc_types.specs.declared.answer.Answer.TheVariants as answers
use Rattle.command_answers.specs.Scene.{scene_with}
use Rattle.command_answers.specs.Texts.{IsPrinted}
use Rattle.run_command.specs.Promises.{recover_promise, recover_needs}
use Rattle.run_command.proofs.Recovered.{prints_recovery}
use Rattle.command_answers.proofs.Kept.{late_fault, kept_not, kept_done, kept_cut}
use Rattle.run_command.proofs.recovering.recover.Goals as goal

pub returns-in-Err-clause-kept : goal.returns-in-Err-clause-kept
returns-in-Err-clause-kept g c file faults =
    let at = scene_with file faults g.R.Rack g.O.Sink in
    let before = disks_in g.R.Rack c.args.rack.now in
    let after = disks_in g.R.Rack c.recover_on.new.rack in
    let late = not_turned g.R.Disk.Disk before after open_turns c.in-Err.fault c.in-Err.ensures.stopped in
    kept_not recover_needs (recover_promise g.R.Disk.Disk) (at c.args.rack.now c.args.out.now) (at c.recover_on.new.rack c.args.out.now)
    (c.recover_on.new.rack ≡ c.args.rack.now) (Unit {0}) (λ of. absurd of) (λ _. tt) (λ name. refl)
    c.in-Err.fault (late_fault (λ file. ⊥) (λ file. ⊥) c.in-Err.fault late
    (not_done g.R.Disk.Disk before after open_turns c.in-Err.fault c.in-Err.ensures.stopped)) c.in-Err.ensures.stopped
    (λ taken. absurd (late taken)) (inr (turns_leave g.R.Disk.Disk before after open_turns c.in-Err.fault c.in-Err.ensures.stopped)) refl refl

pub returns-in-Ok-write_recovered-clause-kept : goal.returns-in-Ok-write_recovered-clause-kept
returns-in-Ok-write_recovered-clause-kept g c file faults =
    let at = scene_with file faults g.R.Rack g.O.Sink in
    kept_done recover_needs (recover_promise g.R.Disk.Disk) (at c.args.rack.now c.args.out.now) (at c.recover_on.new.rack c.write_recovered.new.out)
    (c.recover_on.new.rack ≡ c.args.rack.now) (Unit {0}) (λ of. absurd of) (λ _. tt) (λ name. refl) (
      c.in-Ok.ensures.caused,
      prints_recovery g.R.Disk.Disk (g.R.Rack.held c.args.rack.now) (g.R.Rack.held c.recover_on.new.rack)
          (IsPrinted (g.O.Sink.taken c.args.out.now) (g.O.Sink.taken c.write_recovered.new.out) answers.Ok)
          c.in-Ok.recovered c.in-Ok.ensures.told c.in-Ok-write_recovered.ensures.prints,
    ) c.write_recovered.ensures.cause.later

pub returns-clause-kept : goal.returns-clause-kept
returns-clause-kept g c file faults =
    let at = scene_with file faults g.R.Rack g.O.Sink in
    kept_cut recover_needs (recover_promise g.R.Disk.Disk) (at c.args.rack.now c.args.out.now) (at c.recover_on.new.rack c.write_recovered.new.out)
    (c.recover_on.new.rack ≡ c.args.rack.now) (Unit {0}) (λ of. absurd of) (λ _. tt) (λ name. refl) (
      c.in-Ok.ensures.caused,
      prints_recovery g.R.Disk.Disk (g.R.Rack.held c.args.rack.now) (g.R.Rack.held c.recover_on.new.rack)
          (IsPrinted (g.O.Sink.taken c.args.out.now) (g.O.Sink.taken c.write_recovered.new.out) answers.WriteFault)
          c.in-Ok.recovered c.in-Ok.ensures.told c.in-Err-write_recovered.ensures.prints,
    ) c.in-Err-write_recovered.ensures.cause.failed c.write_recovered.ensures.cause.later
