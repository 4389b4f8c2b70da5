use Rattle.std.proofs.Common.{inl, refl, subst}
use Rattle.lane_driver.specs.Showing.{lane_sights}
use Rattle.lane_driver.proofs.Keeping.{log_same, shards_same}
use Rattle.recovery.specs.Planned.{PlanOf}
use Rattle.recovery.specs.Open.{OpenLanesResult, KeepsListedPorts}
use Rattle.recovery.proofs.InOrder.{came_whole}
use Rattle.recovery.proofs.whole.resume.Goals as goal

pub returns-in-Ok-clause-outcome : goal.returns-in-Ok-clause-outcome
returns-in-Ok-clause-outcome g c =
    came_whole c.args.shape.now g.L.LogPort.alone c.args.lanes.now c.go.result (lane_sights g.L.LogPort g.S.PortSet c.args.ports.now)
    (lane_sights g.L.LogPort g.S.PortSet c.go.new.ports)
    (subst (λ (p : PlanOf). OpenLanesResult p.shape g.L.LogPort.alone p.lanes c.go.result (lane_sights g.L.LogPort g.S.PortSet c.args.ports.now)
    (lane_sights g.L.LogPort g.S.PortSet c.go.new.ports)) c.in-Ok.ensures c.go.ensures.outcome)

pub returns-in-Ok-clause-keeps : goal.returns-in-Ok-clause-keeps
returns-in-Ok-clause-keeps g c = subst (λ (p : PlanOf). KeepsListedPorts g.L.LogPort g.S.PortSet p.lanes c.args.ports.now c.go.new.ports)
    c.in-Ok.ensures c.go.ensures.keeps

pub returns-in-Err-clause-outcome : goal.returns-in-Err-clause-outcome
returns-in-Err-clause-outcome g c = inl (c.no_memory.ensures, refl, refl)

pub returns-in-Err-clause-keeps : goal.returns-in-Err-clause-keeps
returns-in-Err-clause-keeps g c = record {
  to_log = log_same c.args.ports.now.log;
  to_shards = shards_same c.args.ports.now.shards;
  others = λ quiet lane is apart. (refl, refl);
}
