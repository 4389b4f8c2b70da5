use Rattle.std.proofs.Common.{rules, ◌<◌, length, ap, ◌∙◌, arith}
use Rattle.std.proofs.lemmas.List.Elements.{AllWithin-more_set}
use Rattle.lane_waves.specs.Lanes.{HasStoppedForMemory}
use Rattle.lane_waves.proofs.Keeping.{map_set}
use Rattle.lane_waves.proofs.lanes.stop_all.Goals as goal

pub loop-place-preserved : goal.loop-place-preserved
loop-place-preserved g c =
    let inv = c.loop-place.invariant in
    let x = c.index_mut.result.now in
    let lt : c.loop-place.place < length c.loop-place.lanes.items =
    omega (arith, c.loop-place-test.true, inv.len, c.len-place-end.ensures, c.args.lanes.now.ok.0) in
    record {
      same = map_set (λ x. x.txs) c.loop-place.lanes.items c.loop-place.place c.stop.new.work x lt
          (c.stop.ensures.same ∙ ap (λ x. x.txs) c.index_mut.ensures.value) ∙ inv.same;
      len = search (rules, inv);
      stopped = AllWithin-more_set c.loop-place.lanes.items c.loop-place.place c.stop.new.work lt HasStoppedForMemory inv.stopped
          c.stop.ensures.stopped;
    }
