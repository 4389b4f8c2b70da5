use Rattle.std.proofs.Common.{◌≡◌, ◌≤◌, length, take, drop, reverse, None}
use Rattle.std.specs.List.{All, AllZip}
use Rattle.std.specs.Vec.{vec_capacity, vec_len}
use Rattle.lane_driver.specs.Showing.{lane_sights}
use Rattle.recovery.specs.Open.{IsOpenThrough, LanesRise, AreUnfinished, KeepsListedPorts}
use Rattle.recovery.specs.Planned.{IsRoomToResume}
use Rattle.recovery.proofs.InOrder.{IsOver, CameSo}
use Rattle.recovery.proofs.driving.drive_lanes.Given as goal

abbrev pub invariant-loop-unfinished : goal.invariant-loop-unfinished
invariant-loop-unfinished g l = record {
  keeps : KeepsListedPorts g.L.LogPort g.S.PortSet l.lanes l.initial.ports l.ports;
  open_rest : All (IsOpenThrough g.L.LogPort l.ports.log) (drop l.unfinished-index l.lanes);
  stand : AreUnfinished l.shape (drop l.unfinished-index l.lanes) (g.L.LogPort.sights l.ports.log (g.L.LogPort.at l.ports.log))
      (g.S.PortSet.sights l.ports.shards);
  rise : LanesRise (drop l.unfinished-index l.lanes);
  came : CameSo l.shape g.L.LogPort.alone (take l.unfinished-index l.lanes) l.batches.items l.first
      (lane_sights g.L.LogPort g.S.PortSet l.initial.ports) (lane_sights g.L.LogPort g.S.PortSet l.ports);
  over : l.first ≡ None → All (IsOver (g.L.LogPort.header l.ports.log) (g.L.LogPort.phase l.ports.log) (drop l.unfinished-index l.lanes))
      (take l.unfinished-index l.lanes);
  len : vec_len l.batches ≤ l.unfinished-index;
  room : length l.lanes ≤ vec_capacity l.batches;
  rooms : AllZip (IsRoomToResume l.shape) (drop l.unfinished-index l.lanes) (reverse l.rooms.items);
}
