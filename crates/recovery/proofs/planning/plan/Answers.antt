use Rattle.std.proofs.Common.{◌∙◌, ◌+◌, ap, sym, subst, take}
use Rattle.std.specs.List.{AllZip}
use Rattle.recovery.specs.Planned.{IsRoomToResume}
use Rattle.recovery.proofs.Rooming.{rooms_more}
use Rattle.recovery.proofs.planning.plan.Goals as goal

pub loop-unfinished-preserved : goal.loop-unfinished-preserved
loop-unfinished-preserved c =
    let so = c.loop-unfinished.invariant in
    let i = c.loop-unfinished.unfinished-index in
    record {
      each = subst (λ rs. AllZip (IsRoomToResume c.args.shape.now) (take (i + 1) c.args.lanes.now) rs) (sym c.push_reserved.ensures.items)
          (rooms_more c.args.shape.now c.args.lanes.now i c.unfinished-item.result c.loop-unfinished-test.true c.unfinished-item.is
          c.loop-unfinished.rooms.items c.in_ok-lane_room.field-0 so.each c.in_ok-lane_room.ensures);
      len = c.push_reserved.ensures.len ∙ ap (λ n. n + 1) so.len;
      room = c.push_reserved.ensures.capacity ∙ so.room;
    }
