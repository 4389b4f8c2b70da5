use Rattle.std.proofs.Common.{◌≡◌, length, map}
use Rattle.std.specs.Vec.{vec_capacity}
use Rattle.ledger_runs.specs.Lanes.{came_of}
use Rattle.file_runs.proofs.waves.wave_of.Given as goal

abbrev pub invariant-works : goal.invariant-works
invariant-works g l = record {
  lanes : l.lanes.items ≡ map came_of l.yielded;
  lanes_room : vec_capacity l.lanes ≡ vec_capacity l.fn.room.lanes;
  sources : length l.sources.items ≡ length l.yielded;
  sources_room : vec_capacity l.sources ≡ vec_capacity l.fn.room.sources;
}
