use Rattle.std.proofs.Common.{◌≡◌, ◌≤◌, ◌<◌, ◌*◌, ℕ, Some, None, length, get_or, drop, reverse}
use Rattle.std.specs.List.{AllZip}
use Rattle.std.specs.Vec.{vec_len, vec_capacity}
use Rattle.cbdc_model.specs.Slots.{Idle}
use Rattle.cbdc_model.specs.Lanes.{IsEnd}
use Rattle.run_laws.specs.WaveSteps.{ResumedSo}
use Rattle.lane_driver.specs.declared.fault.LaneFault.{LaneFault}
use Rattle.ledger_runs.specs.Keeping.{KeepsLedger}
use Rattle.ledger_runs.specs.Turning.{lane_phase, OfKept, StaysKept}
use Rattle.ledger_runs.specs.Flying.{FliesOn, Launches}
use Rattle.ledger_runs.specs.Telling.{TellResumed, SamePrepared}
use Rattle.ledger_runs.specs.Faults.{TookLanes, HaveFailed, MayHoldBytes, Nothing, IsLaneUntouched, RestsOrWaits}
use Rattle.ledger_runs.specs.Planning.{IsFound, IsPlanOf}
use Rattle.ledger_runs.proofs.Onward.{FirstBelow}
use Rattle.ledger_runs.proofs.resuming.resume_all.Given as goal

abbrev pub invariant-lanes : goal.invariant-lanes
invariant-lanes g l =
    let K = g.L.Turns.shape l.fn.ledger in
    let E = g.L.Turns.journals l.fn.ledger in
    let J = g.L.Turns.journals l.ledger in
    record {
      keeps_ledger : KeepsLedger g.L.Turns.shape g.L.Turns.opened g.L.Turns.faults g.L.Turns.capacity g.L.Turns.holds l.fn.ledger l.ledger;
      count : l.count ≡ K.coordinators * K.lanes;
      idle : l.first ≡ None → (lane : ℕ) → lane < l.lane → lane_phase K J lane ≡ Idle;
      keeps : OfKept K E (StaysKept K E J);
      so : l.first ≡ None → OfKept K E (λ _ _. ResumedSo K l.lane E J);
      told : l.first ≡ None → OfKept K E (λ _ _. TellResumed K E J l.lane l.batches.items);
      prepares : SamePrepared K E J;
      quiet : l.first ≡ None → g.L.Turns.quiet l.fn.ledger → g.L.Turns.quiet l.ledger;
      flies : OfKept K E (FliesOn K E J (g.L.Turns.flights l.fn.ledger) (g.L.Turns.flights l.ledger));
      launches : Launches K (λ _. Nothing) E J (g.L.Turns.flights l.fn.ledger) (g.L.Turns.flights l.ledger);
      checked : g.L.Turns.checked l.ledger;
      grows : (n : ℕ) → IsEnd (E n) (J n);
      order : TookLanes l.lane E J;
      untouched : (lane : ℕ) → l.lane ≤ lane → IsLaneUntouched lane E J;
      first : (e : LaneFault) → l.first ≡ Some e → FirstBelow K l.lane E J (HaveFailed (g.L.Turns.opened l.ledger) (g.L.Turns.faults l.ledger))
          (MayHoldBytes (g.L.Turns.capacity l.ledger)) e;
      rests : (lane : ℕ) → lane < l.lane → RestsOrWaits K lane E J (HaveFailed (g.L.Turns.opened l.ledger) (g.L.Turns.faults l.ledger))
          (g.L.Turns.wanting l.ledger lane);
      as_many : length l.found ≡ l.count;
      found : (k : ℕ) → l.lane ≤ k → k < l.count → IsFound K J (g.L.Turns.opens l.ledger) k (get_or l.found k None);
      plans : AllZip (IsPlanOf K) (drop l.lane l.found) (reverse l.plans.items);
      len : vec_len l.batches ≤ l.lane;
      room : vec_capacity l.batches ≡ l.count;
    }
