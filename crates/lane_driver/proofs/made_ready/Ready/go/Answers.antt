use Rattle.std.proofs.Common.{sym, subst}
use Rattle.lane_driver.specs.Readied.{ReadyOf}
use Rattle.lane_driver.specs.Stops.{IsLaneSettled}
use Rattle.lane_driver.specs.Showing.{lane_sights, KeepsLanePorts}
use Rattle.lane_driver.specs.Outcomes.{IsBatchDone, IsFaultOfBatch}
use Rattle.lane_driver.proofs.Outcomes.{stop_granted}
use Rattle.lane_driver.proofs.made_ready.Ready.go.Goals as goal

pub lane_fault-requires : goal.lane_fault-requires
lane_fault-requires g c =
    let settled = subst (λ (r : ReadyOf). IsLaneSettled r.shape r.lane
    (g.L.LogPort.sights c.args.ports.now.log (g.L.LogPort.at c.args.ports.now.log)) (g.S.PortSet.sights c.args.ports.now.shards))
    (sym c.self.view_is) c.requires.settled in
    stop_granted c.self.inside.shape g.L.LogPort.alone c.self.inside.lane c.self.inside.txs.now c.args.repeats
    (lane_sights g.L.LogPort g.S.PortSet c.args.ports.now) (lane_sights g.L.LogPort g.S.PortSet c.drive_batch.new.ports) c.in-Err.stop
    c.in-Err.ensures.outcome settled.0 settled.1

pub returns-in-Ok-clause-outcome : goal.returns-in-Ok-clause-outcome
returns-in-Ok-clause-outcome g c =
    subst (λ (r : ReadyOf). IsBatchDone r.shape g.L.LogPort.alone r.lane r.txs c.args.repeats (lane_sights g.L.LogPort g.S.PortSet c.args.ports.now)
    (lane_sights g.L.LogPort g.S.PortSet c.drive_batch.new.ports) c.in-Ok.report) c.self.view_is c.in-Ok.ensures.outcome

pub returns-in-Ok-clause-keeps : goal.returns-in-Ok-clause-keeps
returns-in-Ok-clause-keeps g c = subst (λ (r : ReadyOf). KeepsLanePorts g.L.LogPort g.S.PortSet r.lane c.args.ports.now c.drive_batch.new.ports)
    c.self.view_is c.in-Ok.ensures.keeps

pub returns-in-Err-clause-outcome : goal.returns-in-Err-clause-outcome
returns-in-Err-clause-outcome g c =
    subst (λ (r : ReadyOf). IsFaultOfBatch r.shape g.L.LogPort.alone r.lane r.txs c.args.repeats
    (lane_sights g.L.LogPort g.S.PortSet c.args.ports.now) (lane_sights g.L.LogPort g.S.PortSet c.drive_batch.new.ports) c.lane_fault.result)
    c.self.view_is
    (c.in-Err.stop, c.lane_fault.ensures, c.in-Err.ensures.outcome)

pub returns-in-Err-clause-keeps : goal.returns-in-Err-clause-keeps
returns-in-Err-clause-keeps g c = subst (λ (r : ReadyOf). KeepsLanePorts g.L.LogPort g.S.PortSet r.lane c.args.ports.now c.drive_batch.new.ports)
    c.self.view_is c.in-Err.ensures.keeps
