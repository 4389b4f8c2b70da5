use Rattle.std.proofs.Common.{◌≡◌, map, length}
use Rattle.std.specs.List.{AllWithin}
use Rattle.lane_waves.specs.Lanes.{IsLaneReady}
use Rattle.lane_waves.proofs.lanes.make_ready.Given as goal

abbrev pub invariant-loop-place : goal.invariant-loop-place
invariant-loop-place g l = record {
  same : map (λ x. x.txs) l.lanes.items ≡ map (λ x. x.txs) l.fn.lanes.items;
  len : length l.lanes.items ≡ length l.fn.lanes.items;
  ready : AllWithin IsLaneReady l.lanes.items 0 l.place;
}
