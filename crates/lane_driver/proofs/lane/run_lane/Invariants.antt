use Rattle.std.proofs.Common.{◌≡◌, ◌+◌, ◌*◌, ◌≤◌, length, reverse}
use Rattle.std.specs.Vec.{vec_capacity, vec_len}
use Rattle.std.specs.List.{All}
use Rattle.cbdc_model.specs.Grammar.{IsCompact}
use Rattle.cbdc_model.specs.Slots.{Idle}
use Rattle.lane_driver.specs.Reports.{IsReported, AreDone}
use Rattle.lane_driver.specs.Showing.{KeepsLanePorts}
use Rattle.lane_driver.proofs.lane.run_lane.Given as goal

abbrev pub invariant-pieces : goal.invariant-pieces
invariant-pieces g l = record {
  done : AreDone l.shape g.L.LogPort.alone l.lane (g.X.Source.all l.fn.source)
      (g.L.LogPort.sights l.initial.ports.log (g.L.LogPort.at l.initial.ports.log)) (g.S.PortSet.sights l.initial.ports.shards)
      (reverse l.batches.items) (g.X.Source.rest l.source)
      (g.L.LogPort.sights l.ports.log (g.L.LogPort.at l.ports.log)) (g.S.PortSet.sights l.ports.shards);
  idle : g.L.LogPort.phase l.ports.log l.lane ≡ Idle;
  keeps : KeepsLanePorts g.L.LogPort g.S.PortSet l.lane l.initial.ports l.ports;
  same : g.X.Source.all l.source ≡ g.X.Source.all l.fn.source;
  limits : All IsCompact (g.X.Source.rest l.source);
  room : length (g.X.Source.rest l.source) + l.shape.batch * vec_len l.batches ≤ l.shape.batch * vec_capacity l.batches;
  report : IsReported l.lane l.shape.batch (g.X.Source.all l.fn.source) (g.X.Source.rest l.source) l.batches.items;
}

abbrev pub decreases-pieces : goal.decreases-pieces
decreases-pieces g l = length (g.X.Source.rest l.source)
