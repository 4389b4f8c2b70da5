use Rattle.std.proofs.Common.{subst}
use Rattle.lane_driver.specs.Showing.{lane_sights}
use Rattle.recovery.specs.Planned.{PlanOf}
use Rattle.recovery.specs.Open.{OpenLanesResult, KeepsListedPorts}
use Rattle.recovery.proofs.plans.Plan.go.Goals as goal

pub returns-clause-outcome : goal.returns-clause-outcome
returns-clause-outcome g c =
    subst (λ (p : PlanOf). OpenLanesResult p.shape g.L.LogPort.alone p.lanes c.drive_lanes.result
    (lane_sights g.L.LogPort g.S.PortSet c.args.ports.now) (lane_sights g.L.LogPort g.S.PortSet c.drive_lanes.new.ports)) c.self.view_is
    c.drive_lanes.ensures.outcome

pub returns-clause-keeps : goal.returns-clause-keeps
returns-clause-keeps g c = subst (λ (p : PlanOf). KeepsListedPorts g.L.LogPort g.S.PortSet p.lanes c.args.ports.now c.drive_lanes.new.ports)
    c.self.view_is c.drive_lanes.ensures.keeps
