use Rattle.std.proofs.Common.{◌∙◌, arith}
use Rattle.cbdc_model.specs.Records.{Entry}
use Rattle.cbdc_model.specs.Outcomes.{won_at}
use Rattle.std.proofs.lemmas.Grind.{common_steps}
use Rattle.lane_driver.proofs.Filling.{filled_below, filled_more}
use Rattle.lane_driver.proofs.order.decisions_of.Goals as goal

pub push_reserved-requires : goal.push_reserved-requires
push_reserved-requires c =
    filled_below (λ (e : Entry). won_at c.args.outcomes.now e.place) c.args.part.now c.loop-entry.entry-index _ _ _ c.loop-entry.out.items
    c.loop-entry.out.ok.0 c.loop-entry.invariant.made c.loop-entry-test.true c.loop-entry.invariant.room c.requires.room

pub loop-entry-preserved : goal.loop-entry-preserved
loop-entry-preserved c = record {
  made = filled_more (λ (e : Entry). won_at c.args.outcomes.now e.place) c.args.part.now c.loop-entry.entry-index c.entry-item.result
      c.loop-entry.out.items c.push_reserved.new.self.items _ c.loop-entry-test.true c.entry-item.is c.loop-entry.invariant.made c.is_won.ensures
      c.push_reserved.ensures.items;
  room = c.push_reserved.ensures.capacity ∙ c.loop-entry.invariant.room;
}

pub returns : goal.returns
returns c = grind (arith, common_steps)
