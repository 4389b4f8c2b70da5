use Rattle.std.proofs.Common.{◌≡◌, ℕ, ◌*◌, ◌<◌, length, get_or, None}
use Rattle.std.specs.Vec.{vec_capacity}
use Rattle.ledger_runs.specs.Planning.{IsFound}
use Rattle.ledger_runs.proofs.openings.open_lanes.Given as goal

abbrev pub invariant-loop-lane : goal.invariant-loop-lane
invariant-loop-lane g l =
    let K = g.L.Turns.shape l.fn.ledger in
    record {
      count : l.count ≡ K.coordinators * K.lanes;
      len : length l.found.items ≡ l.lane;
      room : vec_capacity l.found ≡ l.count;
      each : (k : ℕ) → k < l.lane → IsFound K (g.L.Turns.journals l.fn.ledger) (g.L.Turns.opens l.fn.ledger) k (get_or l.found.items k None);
    }
