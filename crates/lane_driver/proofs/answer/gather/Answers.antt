use Rattle.std.proofs.Common.{rules, arith, ◌≡◌, get_or, subst, sym}
use Rattle.std.proofs.lemmas.Iterator.Adapters.{YieldsList-from_vec}
use Rattle.std.proofs.lemmas.Iterator.Consumers.{YieldsList-so_far, YieldsList-turn}
use Rattle.lane_driver.specs.Gathering.{gathered_reply}
use Rattle.lane_driver.proofs.Faulted.{fault_here, all_ok}
use Rattle.lane_driver.proofs.answer.gather.Goals as goal

pub returns-in-Err : goal.returns-in-Err
returns-in-Err c =
    let road = YieldsList-from_vec {s = c.into_iter-answer-iterator.result} c.args.answers.items (search rules) (search rules) in
    let at = YieldsList-turn road c.loop-answer.yielded _ c.loop-answer.yielded_by _ c.next.new.self c.in-Some.answer c.in-Some.is
    c.next.ensures.steps in
    let so = YieldsList-so_far road c.loop-answer.yielded _ c.loop-answer.yielded_by in
    let inv = c.loop-answer.invariant in
    fault_here c.args.calls.now c.args.answers.items c.loop-answer.place c.in-Some.answer c.in-Err.fault c.index-calls-place.result
    (omega (arith, at.0, inv.place)) c.requires.as_many
    (subst (λ n. c.in-Some.answer ≡ get_or c.args.answers.items n c.in-Some.answer) (sym inv.place) at.1)
    c.in-Err.is (all_ok gathered_reply c.loop-answer.replies.items c.loop-answer.yielded c.args.answers.items c.loop-answer.place inv.place
    inv.replies so)
