-- The cause of a fault that ends a file's wave, or the files.
use Rattle.std.proofs.Common.{◌≡◌, inl, ℕ, ◌*◌, List, length, refl, subst, arith, Option, Some, None}
use Rattle.std.specs.Prelude.{slice_get}
use Rattle.std.proofs.lemmas.Option.{slice_get_within}
use Rattle.cbdc_model.specs.Records.{Shape, Compact, Record}
use Rattle.cbdc_model.specs.Coins.{FullTx}
use Rattle.cbdc_model.specs.Waves.{sent_to}
use Rattle.ledger_laws.proofs.Cuts.{end_self}
use Rattle.submissions.specs.Checks.{VerdictsOf}
use Rattle.lane_driver.specs.declared.fault.LaneFault.{LaneFault}
use Rattle.ledger_runs.specs.Waving.{HaveSent, FirstFaultIs}
use Rattle.ledger_runs.specs.Pieces.{HasPreparedAll, HasBegun, IsNextPiece, HaveBegun, HavePreparedAll}
use Rattle.ledger_runs.specs.Faults.{IsRunCause, HaveCauses, LaneRests, LanesRest}
use Rattle.ledger_runs.specs.Least.{RunTheirs}
use Rattle.ledger_runs.specs.Lanes.{LaneOf}
use Rattle.ledger_runs.proofs.WaveKeeping.{at_place}
use Rattle.ledger_runs.proofs.Faulting.{cause_since, cause_any, rests_by}
use Rattle.file_runs.proofs.Sending.{sent_is}
use Rattle.file_runs.specs.Runs.{AreLanesOf, HavePreparedFile, IsSentPiece, HaveBegunFile}

-- the next piece of what a lane got is that of what the file sends it
pub sent_piece : (K : Shape) (verdicts : VerdictsOf) (file : List FullTx) (lanes after : List LaneOf) (I J : ℕ → List Record)
    → AreLanesOf K verdicts file lanes → ((sent : ℕ → List Compact) → HaveSent sent lanes → HaveSent sent after)
    → (lane : ℕ) (x : LaneOf) → slice_get after lane ≡ Some x → (txs : List Compact) → IsNextPiece K lane x.txs I J txs
    → IsSentPiece K verdicts file I J lane txs
sent_piece K verdicts file lanes after I J are keeps lane x there txs piece sound tells =
    subst (λ all. IsNextPiece K lane all I J txs)
    (keeps (sent_to K sound file) (λ l y t. sent_is K verdicts file lanes are sound tells l y t) lane x there) piece

-- the least lane with a fault has its cause
pub file_cause : (K : Shape) (verdicts : VerdictsOf) (file : List FullTx) (lanes after : List LaneOf) (I J : ℕ → List Record) (failed : ℕ → Type 0)
    (holds : ℕ → ℕ → Type 0)
    → length after ≡ K.coordinators * K.lanes → AreLanesOf K verdicts file lanes
    → ((sent : ℕ → List Compact) → HaveSent sent lanes → HaveSent sent after)
    → HaveCauses K I J failed holds after → (e : LaneFault) → FirstFaultIs after (Some e)
    → IsRunCause K (IsSentPiece K verdicts file I J) I J failed holds e
file_cause K verdicts file lanes after I J failed holds count are keeps causes e (lane, x, there, is, least) =
    cause_any K lane (IsSentPiece K verdicts file I J) I J failed holds (omega (arith, slice_get_within after lane x there, count)) e
    (cause_since K lane (IsNextPiece K lane x.txs I J) (IsSentPiece K verdicts file I J lane) I I J failed holds (λ n. end_self (I n))
    (sent_piece K verdicts file lanes after I J are keeps lane x there) e (causes lane x there e is))

-- behind a wave each lane rests
pub wave_rests : (K : Shape) (after : List LaneOf) (I J : ℕ → List Record) (failed : ℕ → Type 0) (holds : ℕ → ℕ → Type 0)
    → length after ≡ K.coordinators * K.lanes → HaveCauses K I J failed holds after → RunTheirs K I J after → LanesRest K J failed
wave_rests K after I J failed holds count causes theirs lane inside = go there.0 there.1 there.0.fault refl
  where
    there : (x : LaneOf) × (slice_get after lane ≡ Some x)
    there = at_place after lane (omega (arith, inside, count))

    go : (x : LaneOf) → slice_get after lane ≡ Some x → (o : Option LaneFault) → x.fault ≡ o → LaneRests K lane J failed
    go x at None none = inl (inl (theirs lane x at none).1)
    go x at (Some e) is = rests_by K lane (IsNextPiece K lane x.txs I J) I J failed holds e (causes lane x at e is)

-- without a fault each lane has prepared what the file sends it
pub file_done : (K : Shape) (verdicts : VerdictsOf) (file : List FullTx) (lanes after : List LaneOf) (I J : ℕ → List Record)
    → length after ≡ K.coordinators * K.lanes → AreLanesOf K verdicts file lanes
    → ((sent : ℕ → List Compact) → HaveSent sent lanes → HaveSent sent after)
    → HavePreparedAll K I J after → HavePreparedFile K verdicts file I J
file_done K verdicts file lanes after I J count are keeps have lane inside sound tells =
    let x : (x : LaneOf) × (slice_get after lane ≡ Some x) = at_place after lane (omega (arith, inside, count)) in
    subst (λ all. HasPreparedAll K lane all I J) (keeps (sent_to K sound file) (λ l y t. sent_is K verdicts file lanes are sound tells l y t) lane
    x.0 x.1) (have lane x.0 x.1)

-- with a fault or without each lane has begun with it
pub file_begun : (K : Shape) (verdicts : VerdictsOf) (file : List FullTx) (lanes after : List LaneOf) (I J : ℕ → List Record)
    → length after ≡ K.coordinators * K.lanes → AreLanesOf K verdicts file lanes
    → ((sent : ℕ → List Compact) → HaveSent sent lanes → HaveSent sent after)
    → HaveBegun K I J after → HaveBegunFile K verdicts file I J
file_begun K verdicts file lanes after I J count are keeps have lane inside sound tells =
    let x : (x : LaneOf) × (slice_get after lane ≡ Some x) = at_place after lane (omega (arith, inside, count)) in
    subst (λ all. HasBegun K lane all I J) (keeps (sent_to K sound file) (λ l y t. sent_is K verdicts file lanes are sound tells l y t) lane x.0 x.1)
    (have lane x.0 x.1)
