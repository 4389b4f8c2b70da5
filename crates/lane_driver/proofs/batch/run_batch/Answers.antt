use Rattle.std.proofs.Common.{rules, inl, inr, refl, subst}
use Rattle.lane_driver.specs.Readied.{ReadyOf}
use Rattle.lane_driver.specs.Showing.{lane_sights, KeepsLanePorts}
use Rattle.lane_driver.specs.Outcomes.{IsBatchDone, IsFaultOfBatch}
use Rattle.lane_driver.proofs.Keeping.{ports_same}
use Rattle.lane_driver.proofs.batch.run_batch.Goals as goal

pub returns-in-Err-clause-outcome : goal.returns-in-Err-clause-outcome
returns-in-Err-clause-outcome g c = inl (c.no_memory.ensures, refl, refl)

pub returns-in-Err-clause-keeps : goal.returns-in-Err-clause-keeps
returns-in-Err-clause-keeps g c = ports_same g.L.LogPort g.S.PortSet c.args.lane c.args.ports.now

pub returns-in-Err-ready-clause-outcome : goal.returns-in-Err-ready-clause-outcome
returns-in-Err-ready-clause-outcome g c = inl (c.no_memory-in-Err-ready.ensures, refl, refl)

pub returns-in-Err-ready-clause-keeps : goal.returns-in-Err-ready-clause-keeps
returns-in-Err-ready-clause-keeps g c = ports_same g.L.LogPort g.S.PortSet c.args.lane c.args.ports.now

pub returns-in-Ok-go-clause-outcome : goal.returns-in-Ok-go-clause-outcome
returns-in-Ok-go-clause-outcome g c = (
  c.in-Ok-go.report,
  search rules,
  subst (λ (r : ReadyOf). IsBatchDone r.shape g.L.LogPort.alone r.lane r.txs c.args.repeats (lane_sights g.L.LogPort g.S.PortSet c.args.ports.now)
      (lane_sights g.L.LogPort g.S.PortSet c.go.new.ports) c.in-Ok-go.report) c.in-Ok-ready.ensures c.in-Ok-go.ensures.outcome,
)

pub returns-in-Ok-go-clause-keeps : goal.returns-in-Ok-go-clause-keeps
returns-in-Ok-go-clause-keeps g c = subst (λ (r : ReadyOf). KeepsLanePorts g.L.LogPort g.S.PortSet r.lane c.args.ports.now c.go.new.ports)
    c.in-Ok-ready.ensures c.in-Ok-go.ensures.keeps

pub returns-in-Err-go-clause-outcome : goal.returns-in-Err-go-clause-outcome
returns-in-Err-go-clause-outcome g c =
    inr (subst (λ (r : ReadyOf). IsFaultOfBatch r.shape g.L.LogPort.alone r.lane r.txs c.args.repeats
    (lane_sights g.L.LogPort g.S.PortSet c.args.ports.now) (lane_sights g.L.LogPort g.S.PortSet c.go.new.ports) c.in-Err-go.fault)
    c.in-Ok-ready.ensures c.in-Err-go.ensures.outcome)

pub returns-in-Err-go-clause-keeps : goal.returns-in-Err-go-clause-keeps
returns-in-Err-go-clause-keeps g c = subst (λ (r : ReadyOf). KeepsLanePorts g.L.LogPort g.S.PortSet r.lane c.args.ports.now c.go.new.ports)
    c.in-Ok-ready.ensures c.in-Err-go.ensures.keeps
