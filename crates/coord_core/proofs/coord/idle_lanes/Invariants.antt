use Rattle.std.proofs.Common.{◌≡◌, vec_len, vec_capacity}
use Rattle.std.specs.Prelude.{All}
use Rattle.coord_core.specs.Lanes.{IsIdleLane}
use Rattle.coord_core.proofs.coord.idle_lanes.Given as goal

abbrev pub invariant-loop : goal.invariant-loop
invariant-loop l = record {
  idle : All IsIdleLane l.made.items;
  count : vec_len l.made ≡ l.counter;
  room : vec_capacity l.made ≡ l.lanes;
}
