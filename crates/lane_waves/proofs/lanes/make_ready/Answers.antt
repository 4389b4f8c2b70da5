use Rattle.std.proofs.Common.{rules, ◌<◌, length, ap, ◌∙◌, arith}
use Rattle.std.proofs.lemmas.List.Elements.{AllWithin-more_set}
use Rattle.lane_waves.specs.Lanes.{IsLaneReady}
use Rattle.lane_waves.proofs.Keeping.{map_set}
use Rattle.lane_waves.proofs.lanes.make_ready.Goals as goal

pub returns-in_err-make_one_ready-clause-same :
    goal.returns-in_err-make_one_ready-clause-same
returns-in_err-make_one_ready-clause-same g c =
    let inv = c.loop-place.invariant in
    let lt : c.loop-place.place < length c.loop-place.lanes.items =
    omega (arith, c.loop-place-test.true, inv.len, c.len-place-end.ensures, c.args.lanes.now.ok.0) in
    map_set (λ x. x.txs) c.loop-place.lanes.items c.loop-place.place c.make_one_ready.new.work c.index_mut.result.now lt
    (c.make_one_ready.ensures.same ∙ ap (λ x. x.txs) c.index_mut.ensures.value) ∙ inv.same

pub loop-place-preserved : goal.loop-place-preserved
loop-place-preserved g c =
    let inv = c.loop-place.invariant in
    let lt : c.loop-place.place < length c.loop-place.lanes.items =
    omega (arith, c.loop-place-test.true, inv.len, c.len-place-end.ensures, c.args.lanes.now.ok.0) in
    record {
      same = map_set (λ x. x.txs) c.loop-place.lanes.items c.loop-place.place c.make_one_ready.new.work c.index_mut.result.now lt
          (c.make_one_ready.ensures.same ∙ ap (λ x. x.txs) c.index_mut.ensures.value) ∙ inv.same;
      len = search (rules, inv);
      ready = AllWithin-more_set c.loop-place.lanes.items c.loop-place.place c.make_one_ready.new.work lt IsLaneReady inv.ready
          c.in_ok-make_one_ready.ensures.ready;
    }
