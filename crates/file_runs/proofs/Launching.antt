-- Prepares in flight are those of next pieces, file after file.
use Rattle.std.proofs.Common.{◌≡◌, ℕ, ◌*◌, List, length, Option, arith}
use Rattle.cbdc_model.specs.Records.{Shape, Compact, Record}
use Rattle.cbdc_model.specs.Coins.{FullTx}
use Rattle.submissions.specs.Checks.{VerdictsOf}
use Rattle.ledger_runs.specs.Waving.{HaveSent}
use Rattle.ledger_runs.specs.Flying.{Launches, AreNextPieces}
use Rattle.ledger_runs.specs.Lanes.{LaneOf}
use Rattle.ledger_runs.proofs.WaveKeeping.{at_place}
use Rattle.ledger_runs.proofs.Launching.{launches_by}
use Rattle.file_runs.specs.Runs.{AreLanesOf, IsSentPiece}
use Rattle.file_runs.proofs.Causing.{sent_piece}

-- the wave of a file
pub file_launches : (K : Shape) (verdicts : VerdictsOf) (file : List FullTx) (lanes after : List LaneOf) (I J : ℕ → List Record)
    (F G : ℕ → Option Record)
    → length after ≡ K.coordinators * K.lanes → AreLanesOf K verdicts file lanes
    → ((sent : ℕ → List Compact) → HaveSent sent lanes → HaveSent sent after)
    → Launches K (AreNextPieces K after I J) I J F G → Launches K (IsSentPiece K verdicts file I J) I J F G
file_launches K verdicts file lanes after I J F G count are keeps =
    launches_by K (AreNextPieces K after I J) (IsSentPiece K verdicts file I J) I J F G
    (λ lane txs inside pieces. (let x = at_place after lane (omega (arith, inside, count)) in
    sent_piece K verdicts file lanes after I J are keeps lane x.0 x.1 txs (pieces x.0 x.1)))
