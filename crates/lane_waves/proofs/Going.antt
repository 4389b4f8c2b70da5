-- The result of a lane's run, from what its driver tells.
use Rattle.std.proofs.Common.{◌≡◌, ℕ, false, List, [], Some, Result, subst}
use Rattle.std.specs.Prelude.{IfOk, OnOk}
use Rattle.cbdc_model.specs.Records.{Shape, Compact}
use Rattle.cbdc_model.specs.Slots.{Idle}
use Rattle.lane_driver.specs.Outcomes.{LaneResult}
use Rattle.lane_driver.specs.Reports.{IsReported}
use Rattle.lane_driver.specs.declared.fault.LaneFault.{LaneFault}
use Rattle.lane_driver.specs.declared.fault.LaneReport.{LaneReport}
use Rattle.cbdc_model.specs.Sights.{Sight}
use Rattle.node_lock.specs.Seats.{TableId, knows}
use Rattle.port_sets.specs.declared.tables.Locks.{Ghosts}
use Rattle.port_sets.specs.Nodes.{log_sight}
use Rattle.port_sets.specs.Seated.{seat_sight, seat_phase}
use Rattle.lane_waves.specs.declared.runs.LaneRun.{LaneRun}
use Rattle.lane_waves.specs.Held.{sights_of, HasRun}

module _ {W D S B X : Type 0} {G : Ghosts B} (sight : S → Sight) (tables : ℕ → TableId) (K : Shape) (r q : LaneRun W D S B X G) (xs : List Compact)
    (e : xs ≡ r.work.txs) (repeats : ℕ) (m : repeats ≡ r.work.repeats) where
  pub has_run : (came : Result LaneReport LaneFault)
      → LaneResult K false r.lane xs repeats came (sights_of sight tables K r) (sights_of sight tables K q)
      → OnOk came (seat_phase (knows q.ports.log.seat).lane (seat_sight (log_sight {D = D}) q.ports.log.seat) r.lane ≡ Idle)
      → IfOk came (λ o. IsReported r.lane K.batch xs [] o.batches) → HasRun sight tables K r q (Some came)
  has_run came o i n = record {
    outcome = subst (λ n. LaneResult K false r.lane r.work.txs n came (sights_of sight tables K r) (sights_of sight tables K q)) m
        (subst (λ ys. LaneResult K false r.lane ys repeats came (sights_of sight tables K r) (sights_of sight tables K q)) e o);
    idle = i;
    named = subst (λ ys. IfOk came (λ (o : LaneReport). IsReported r.lane K.batch ys [] o.batches)) e n;
  }
