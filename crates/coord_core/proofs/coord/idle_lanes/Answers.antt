use Rattle.std.proofs.Common.{arith, ◌∙◌}
use Rattle.std.proofs.lemmas.List.Elements.{All-push, All-same}
use Rattle.coord_core.specs.Lanes.{IsIdleLane}
use Rattle.coord_core.proofs.coord.idle_lanes.Goals as goal

pub loop-preserved : goal.loop-preserved
loop-preserved c = record {
  idle = All-same IsIdleLane c.push_reserved.new.self.items _ c.push_reserved.ensures.items
      (All-push IsIdleLane c.loop.made.items _ c.loop.invariant.idle (record { slot = c.new.ensures.slot; masks = c.new.ensures.masks }));
  count = omega arith;
  room = c.push_reserved.ensures.capacity ∙ c.loop.invariant.room;
}
