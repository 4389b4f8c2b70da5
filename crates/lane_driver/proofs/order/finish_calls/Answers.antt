use Rattle.std.proofs.Common.{◌≡◌, ◌≤◌, [], length, ap, ◌∙◌, sym, subst, arith}
use Rattle.std.specs.Global.{Vec}
use Rattle.std.specs.Prelude.{Bool}
use Rattle.std.specs.Vec.{vec_capacity}
use Rattle.cbdc_model.specs.Outcomes.{decisions}
use Rattle.std.proofs.lemmas.Grind.{common_steps}
use Rattle.lane_driver.specs.Calls.{finish_call_of}
use Rattle.lane_driver.proofs.Filling.{filled_below, filled_more, last_so, rest_so}
use Rattle.lane_driver.proofs.Rooming.{finish_with}
use Rattle.lane_driver.proofs.order.finish_calls.Goals as goal

pub decisions_of-decisions-requires-clause-empty : goal.decisions_of-decisions-requires-clause-empty
decisions_of-decisions-requires-clause-empty c =
    (last_so (λ (v : Vec Bool). (v.items ≡ []) × (length c.args.outcomes.now ≤ vec_capacity v)) c.loop-lock.rooms.items c.pop.new.self.items
    c.in-Some.room c.in-Some.ensures.items c.loop-lock.invariant.rooms).0

pub decisions_of-decisions-requires-clause-room : goal.decisions_of-decisions-requires-clause-room
decisions_of-decisions-requires-clause-room c =
    let room = (last_so (λ (v : Vec Bool). (v.items ≡ []) × (length c.args.outcomes.now ≤ vec_capacity v)) c.loop-lock.rooms.items
    c.pop.new.self.items c.in-Some.room c.in-Some.ensures.items c.loop-lock.invariant.rooms).1 in
    let small : length c.lock-item.result.1.part ≤ length c.args.outcomes.now =
    subst (λ x. length x.1.part ≤ length c.args.outcomes.now) (sym c.lock-item.is)
    (c.requires.parts c.loop-lock.lock-index c.lock-item.result c.loop-lock-test.true) in
    subst (λ part. length part ≤ vec_capacity c.in-Some.room) (sym c.as_slice.ensures) (omega (arith, room, small))

pub push_reserved-requires : goal.push_reserved-requires
push_reserved-requires c =
    filled_below (finish_call_of c.args.batch.now c.args.cause c.args.outcomes.now) c.args.locks.now c.loop-lock.lock-index _ _ _
    c.loop-lock.out.items c.loop-lock.out.ok.0 c.loop-lock.invariant.made c.loop-lock-test.true c.loop-lock.invariant.room c.requires.room

pub loop-lock-preserved : goal.loop-lock-preserved
loop-lock-preserved c =
    let so = c.loop-lock.invariant in
    let lock = c.lock-item.result in
    record {
      made = filled_more (finish_call_of c.args.batch.now c.args.cause c.args.outcomes.now) c.args.locks.now c.loop-lock.lock-index lock
          c.loop-lock.out.items c.push_reserved.new.self.items _ c.loop-lock-test.true c.lock-item.is so.made
          (ap (finish_with c.args.batch.now c.args.cause lock.0)
          (c.decisions_of-decisions.ensures ∙ ap (decisions c.args.outcomes.now) c.as_slice.ensures)) c.push_reserved.ensures.items;
      room = c.push_reserved.ensures.capacity ∙ so.room;
      rooms = rest_so (λ (v : Vec Bool). (v.items ≡ []) × (length c.args.outcomes.now ≤ vec_capacity v)) c.loop-lock.rooms.items c.pop.new.self.items
          c.in-Some.room c.in-Some.ensures.items so.rooms;
      as_many = omega (arith, so.as_many, c.in-Some.ensures.cases);
    }

pub returns : goal.returns
returns c = grind (arith, common_steps)
