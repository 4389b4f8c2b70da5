-- Whose fault ends a wave.
use Rattle.std.proofs.Common.{◌≡◌, ℕ, ◌*◌, List, length, Some, subst, arith}
use Rattle.std.specs.Prelude.{slice_get}
use Rattle.std.proofs.lemmas.Option.{slice_get_within}
use Rattle.cbdc_model.specs.Records.{Shape, Compact, Record}
use Rattle.ledger_laws.proofs.Cuts.{end_self}
use Rattle.lane_driver.specs.declared.fault.LaneFault.{LaneFault}
use Rattle.ledger_runs.specs.Waving.{HaveSent, FirstFaultIs}
use Rattle.ledger_runs.specs.Pieces.{IsNextPiece}
use Rattle.ledger_runs.specs.Faults.{HaveCauses}
use Rattle.ledger_runs.specs.Least.{LaneHasRun, RunTheirs, IsLeastFault}
use Rattle.ledger_runs.specs.Lanes.{LaneOf}
use Rattle.ledger_runs.proofs.Faulting.{cause_since}
use Rattle.ledger_runs.proofs.WaveKeeping.{at_place}

-- the first fault is the least lane's
pub least_fault : (K : Shape) (sent : ℕ → List Compact) (next : ℕ → List Compact → Type 0) (I J : ℕ → List Record) (failed : ℕ → Type 0)
    (holds : ℕ → ℕ → Type 0) (lanes : List LaneOf) → length lanes ≡ K.coordinators * K.lanes
    → HaveSent sent lanes → ((lane : ℕ) (x : LaneOf) → slice_get lanes lane ≡ Some x → (txs : List Compact) → IsNextPiece K lane x.txs I J txs
    → next lane txs) → HaveCauses K I J failed holds lanes → RunTheirs K I J lanes
    → (e : LaneFault) → FirstFaultIs lanes (Some e) → IsLeastFault K sent next I J failed holds e
least_fault K sent next I J failed holds lanes many have piece causes theirs e (lane, x, there, is, least) = record {
  lane = lane;
  is_lane = omega (arith, slice_get_within lanes lane x there, many);
  cause = cause_since K lane (IsNextPiece K lane x.txs I J) (next lane) I I J failed holds (λ n. end_self (I n)) (piece lane x there) e
      (causes lane x there e is);
  lesser = λ other low.
      let y = at_place lanes other (omega (arith, low, slice_get_within lanes lane x there)) in
      subst (λ all. LaneHasRun K other all I J) (have other y.0 y.1) (theirs other y.0 y.1 (least other y.0 low y.1));
}
