use Rattle.std.proofs.Common.{refl, ◌∙◌, arith}
use Rattle.std.proofs.lemmas.Grind.{common_steps}
use Rattle.lane_driver.specs.Calls.{forget_call_of}
use Rattle.lane_driver.proofs.Filling.{filled_below, filled_more}
use Rattle.lane_driver.proofs.order.forget_calls.Goals as goal

pub push_reserved-requires : goal.push_reserved-requires
push_reserved-requires c =
    filled_below (forget_call_of c.args.batch.now c.args.cause) c.args.locks.now c.loop-lock.lock-index _ _ _ c.loop-lock.out.items
    c.loop-lock.out.ok.0 c.loop-lock.invariant.made c.loop-lock-test.true c.loop-lock.invariant.room c.requires.room

pub loop-lock-preserved : goal.loop-lock-preserved
loop-lock-preserved c = record {
  made = filled_more (forget_call_of c.args.batch.now c.args.cause) c.args.locks.now c.loop-lock.lock-index c.lock-item.result c.loop-lock.out.items
      c.push_reserved.new.self.items _ c.loop-lock-test.true c.lock-item.is c.loop-lock.invariant.made refl c.push_reserved.ensures.items;
  room = c.push_reserved.ensures.capacity ∙ c.loop-lock.invariant.room;
}

pub returns : goal.returns
returns c = grind (arith, common_steps)
