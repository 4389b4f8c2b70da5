use Rattle.std.proofs.Common.{◌≡◌, ◌∙◌, inr, map, refl, subst, arith}
use Rattle.cbdc_types.specs.declared.answer.Answer.TheVariants as answers
use Rattle.command_answers.specs.Scene.{scene_with}
use Rattle.command_answers.specs.Texts.{IsPrinted}
use Rattle.status_command.specs.Promises.{status_promise, status_needs}
use Rattle.status_command.specs.Texts.{told_lines, status_among}
use Rattle.status_command.proofs.Ledgers.{did_status, all_back}
use Rattle.command_answers.proofs.Kept.{kept_not, kept_done, kept_cut}
use Rattle.command_answers.proofs.Refusals.{not_refused, refusal_fault}
use Rattle.status_command.proofs.looking.status.Goals as goal

pub returns-in-Err-clause-kept : goal.returns-in-Err-clause-kept
returns-in-Err-clause-kept g c file faults =
    let at = scene_with file faults g.R.Rack g.O.Sink in
    kept_not status_needs (status_promise g.R.Disk.Disk c.args.hashes.now) (at c.args.rack.now c.args.out.now)
    (at c.open_nodes.new.rack c.args.out.now)
    (c.open_nodes.new.rack ≡ c.args.rack.now) (Unit {0}) (λ of. absurd of) (λ _. tt) (λ name. refl)
    c.in-Err.fault (refusal_fault (λ file. ⊥) (λ file. ⊥) c.in-Err.fault c.in-Err.ensures.kind) (c.in-Err.ensures.refusal, c.in-Err.ensures.back.held)
    (λ before. absurd (not_refused c.in-Err.fault c.in-Err.ensures.kind before)) (inr c.in-Err.ensures.back.held) refl refl

pub returns-in_default-clause-kept : goal.returns-in_default-clause-kept
returns-in_default-clause-kept g c file faults =
    let at = scene_with file faults g.R.Rack g.O.Sink in
    let back = all_back g.R.Disk.Disk (g.R.Rack.held c.args.rack.now) c.in-Ok.nodes.header c.in-Ok.nodes.logs.items c.in-Ok.nodes.shards.items
    c.in-Ok.ensures.opened.nodes
    (g.R.Rack.held c.open_nodes.new.rack) (g.R.Rack.held c.close_nodes.new.rack) c.in-Ok.ensures.opened.others_held c.close_nodes.ensures.closed_logs
    c.close_nodes.ensures.closed_shards c.close_nodes.ensures.others_held
    (g.R.Rack.count c.args.rack.now) (g.R.Rack.count c.close_nodes.new.rack) in
    record {
      cause = tt;
      did = λ well. absurd well;
      why = tt;
      untouched = λ taken. absurd taken;
      spared = λ of. absurd of;
      unread = λ _. tt;
      inbox = λ name. refl;
      left = λ _. inr back;
      silent = refl;
      written_later = omega arith;
    }

pub returns-in-Ok-write_statuses-clause-kept : goal.returns-in-Ok-write_statuses-clause-kept
returns-in-Ok-write_statuses-clause-kept g c file faults =
    let at = scene_with file faults g.R.Rack g.O.Sink in
    let held = g.R.Rack.held c.args.rack.now in
    let nodes = c.in-Ok.nodes in
    let printed = IsPrinted (g.O.Sink.taken c.args.out.now) (g.O.Sink.taken c.write_statuses.new.out) answers.Ok in
    let same : c.deref.result.now ≡ map (status_among c.in-Ok.nodes.header.shape c.in-Ok.nodes.shards.items) c.args.hashes.now =
    c.deref.ensures.value ∙ c.in-Ok-told.ensures in
    kept_done status_needs (status_promise g.R.Disk.Disk c.args.hashes.now) (at c.args.rack.now c.args.out.now)
    (at c.close_nodes.new.rack c.write_statuses.new.out)
    (c.close_nodes.new.rack ≡ c.args.rack.now) (Unit {0}) (λ of. absurd of) (λ _. tt) (λ name. refl)
    (did_status g.R.Disk.Disk held nodes.header nodes.logs.items nodes.shards.items c.in-Ok.ensures.opened.nodes
    (g.R.Rack.held c.open_nodes.new.rack) (g.R.Rack.held c.close_nodes.new.rack) c.in-Ok.ensures.opened.others_held c.close_nodes.ensures.closed_logs
    c.close_nodes.ensures.closed_shards c.close_nodes.ensures.others_held
    (g.R.Rack.count c.args.rack.now) (g.R.Rack.count c.close_nodes.new.rack) printed c.args.hashes.now
    (subst (λ ss. printed (told_lines c.args.hashes.now ss)) same c.in-Ok-write_statuses.ensures.prints)) c.write_statuses.ensures.cause.later

pub returns-clause-kept : goal.returns-clause-kept
returns-clause-kept g c file faults =
    let at = scene_with file faults g.R.Rack g.O.Sink in
    let held = g.R.Rack.held c.args.rack.now in
    let nodes = c.in-Ok.nodes in
    let printed = IsPrinted (g.O.Sink.taken c.args.out.now) (g.O.Sink.taken c.write_statuses.new.out) answers.WriteFault in
    let same : c.deref.result.now ≡ map (status_among c.in-Ok.nodes.header.shape c.in-Ok.nodes.shards.items) c.args.hashes.now =
    c.deref.ensures.value ∙ c.in-Ok-told.ensures in
    kept_cut status_needs (status_promise g.R.Disk.Disk c.args.hashes.now) (at c.args.rack.now c.args.out.now)
    (at c.close_nodes.new.rack c.write_statuses.new.out)
    (c.close_nodes.new.rack ≡ c.args.rack.now) (Unit {0}) (λ of. absurd of) (λ _. tt) (λ name. refl)
    (did_status g.R.Disk.Disk held nodes.header nodes.logs.items nodes.shards.items c.in-Ok.ensures.opened.nodes
    (g.R.Rack.held c.open_nodes.new.rack) (g.R.Rack.held c.close_nodes.new.rack) c.in-Ok.ensures.opened.others_held c.close_nodes.ensures.closed_logs
    c.close_nodes.ensures.closed_shards c.close_nodes.ensures.others_held
    (g.R.Rack.count c.args.rack.now) (g.R.Rack.count c.close_nodes.new.rack) printed c.args.hashes.now
    (subst (λ ss. printed (told_lines c.args.hashes.now ss)) same c.in-Err-write_statuses.ensures.prints))
    c.in-Err-write_statuses.ensures.cause.failed c.write_statuses.ensures.cause.later

pub returns-in-Err-clause-back : goal.returns-in-Err-clause-back
returns-in-Err-clause-back g c = c.in-Err.ensures.back.takes

pub close_nodes-requires : goal.close_nodes-requires
close_nodes-requires g c = c.in-Ok.ensures.opened.may_close
