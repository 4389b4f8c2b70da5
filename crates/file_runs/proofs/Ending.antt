-- Whose fault ended files.
use Rattle.std.proofs.Common.{◌≡◌, inl, inr, ℕ, ◌*◌, ◌+◌, ◌<◌, List, [], ◌∷◌, ◌++◌, length, take, drop, get_or, Option, Some, None, refl, sym, ap}
use Rattle.std.proofs.Common.{◌∙◌, subst, arith}
use Rattle.std.specs.Prelude.{slice_get}
use Rattle.std.proofs.lemmas.List.{append_assoc, take-append-drop}
use Rattle.cbdc_model.specs.Records.{Shape, Compact, Record}
use Rattle.cbdc_model.specs.Coins.{FullTx}
use Rattle.cbdc_model.specs.World.{AreIdle}
use Rattle.cbdc_model.specs.Waves.{sent_to}
use Rattle.cbdc_model.specs.Lanes.{IsEnd}
use Rattle.submissions.specs.Checks.{VerdictsOf}
use Rattle.lane_driver.specs.declared.fault.LaneFault.{LaneFault}
use Rattle.lane_driver.specs.declared.fault.LaneFaultKind.TheVariants.{Memory as NoMemory}
use Rattle.ledger_runs.specs.Waving.{HaveSent, FirstFaultIs}
use Rattle.ledger_runs.specs.Faults.{HaveCauses}
use Rattle.ledger_runs.specs.Least.{LaneHasRun, RunTheirs}
use Rattle.ledger_runs.specs.Pieces.{IsNextPiece}
use Rattle.ledger_runs.specs.Lanes.{LaneOf}
use Rattle.ledger_runs.proofs.Least.{least_fault}
use Rattle.ledger_runs.proofs.Faulting.{cause_since}
use Rattle.ledger_runs.proofs.WaveKeeping.{at_place}
use Rattle.ledger_laws.proofs.Cuts.{end_self}
use Rattle.file_runs.proofs.Sending.{sent_is}
use Rattle.file_runs.specs.Runs.{AreLanesOf, HavePreparedFiles, HaveBegunFile, IsSentPiece}
use Rattle.file_runs.specs.Endings.{HasRunOrMet, EndsFile, EndsFirst, EndsFiles}
use Rattle.file_runs.proofs.Causing.{sent_piece}
use Rattle.file_runs.proofs.Pieces.{file_unbegun}
use Rattle.file_runs.proofs.Joining.{so_far}

-- each lane has run all that it got, or met a fault of its own
run_or_met : (K : Shape) (sent : ℕ → List Compact) (next : ℕ → List Compact → Type 0) (I J : ℕ → List Record) (failed : ℕ → Type 0)
    (holds : ℕ → ℕ → Type 0) (lanes : List LaneOf) → HaveSent sent lanes
    → ((lane : ℕ) (x : LaneOf) → slice_get lanes lane ≡ Some x → (txs : List Compact) → IsNextPiece K lane x.txs I J txs → next lane txs)
    → HaveCauses K I J failed holds lanes → RunTheirs K I J lanes
    → (lane : ℕ) → lane < length lanes → HasRunOrMet K lane (sent lane) (next lane) I J failed holds
run_or_met K sent next I J failed holds lanes have piece causes theirs lane inside =
    let y = at_place lanes lane inside in
    go y.0 y.1 y.0.fault refl
  where
    go : (x : LaneOf) → slice_get lanes lane ≡ Some x → (met : Option LaneFault) → x.fault ≡ met
        → HasRunOrMet K lane (sent lane) (next lane) I J failed holds
    go x there None none = inl (subst (λ all. LaneHasRun K lane all I J) (have lane x there) (theirs lane x there none))
    go x there (Some own) some = inr (
      own,
      cause_since K lane (IsNextPiece K lane x.txs I J) (next lane) I I J failed holds (λ n. end_self (I n)) (piece lane x there) own
          (causes lane x there own some),
    )

-- the first fault of a file's lanes
pub file_ends : (K : Shape) (verdicts : VerdictsOf) (file : List FullTx) (lanes after : List LaneOf) (I J : ℕ → List Record) (failed : ℕ → Type 0)
    (holds : ℕ → ℕ → Type 0)
    → length after ≡ K.coordinators * K.lanes → AreLanesOf K verdicts file lanes
    → ((sent : ℕ → List Compact) → HaveSent sent lanes → HaveSent sent after)
    → HaveCauses K I J failed holds after → RunTheirs K I J after → (e : LaneFault) → FirstFaultIs after (Some e)
    → EndsFile K verdicts file I J failed holds e
file_ends K verdicts file lanes after I J failed holds count are keeps causes theirs e first =
    inr (λ sound tells.
    let have : HaveSent (sent_to K sound file) after = keeps (sent_to K sound file) (λ l y t. sent_is K verdicts file lanes are sound tells l y t) in
    let next : ℕ → List Compact → Type 0 = IsSentPiece K verdicts file I J in
    record {
      least = least_fault K (sent_to K sound file) next I J failed holds after count have
          (λ lane x there txs piece. sent_piece K verdicts file lanes after I J are keeps lane x there txs piece) causes theirs e first;
      greater = λ lane inside low.
          run_or_met K (sent_to K sound file) next I J failed holds after have
          (λ l x there txs piece. sent_piece K verdicts file lanes after I J are keeps l x there txs piece) causes theirs lane
          (omega (arith, inside, count));
    })

unbegun_first : (K : Shape) (verdicts : VerdictsOf) (more : List (List FullTx)) (I : ℕ → List Record) (failed : ℕ → Type 0) (holds : ℕ → ℕ → Type 0)
    (e : LaneFault) → e.fault ≡ NoMemory → EndsFirst K verdicts more I I failed holds e
unbegun_first K verdicts [] I failed holds e is = (is, λ n. refl)
unbegun_first K verdicts (file ∷ more) I failed holds e is = (inl (is, λ n. refl), file_unbegun K verdicts file I)

-- memory ran out behind files that have been run
pub unbegun_files : (K : Shape) (verdicts : VerdictsOf) (files : List (List FullTx)) (i : ℕ) (I J : ℕ → List Record) (failed : ℕ → Type 0)
    (holds : ℕ → ℕ → Type 0) (e : LaneFault)
    → ((n : ℕ) → IsEnd (I n) (J n)) → HavePreparedFiles K verdicts (take i files) I J → AreIdle K J → e.fault ≡ NoMemory
    → EndsFiles K verdicts files I J failed holds e
unbegun_files K verdicts files i I J failed holds e grows so idle is = record {
  done = take i files;
  more = drop i files;
  are = sym (take-append-drop i files);
  middle = J;
  grows = grows;
  onward = λ n. ([], refl);
  before = so;
  idle = idle;
  ends = unbegun_first K verdicts (drop i files) J failed holds e is;
}

-- a file's fault ends the files
pub files_end_so : (K H : Shape) (verdicts : VerdictsOf) (files : List (List FullTx)) (i : ℕ) (file : List FullTx) (I J L : ℕ → List Record)
    (failed : ℕ → Type 0) (holds : ℕ → ℕ → Type 0) (e : LaneFault)
    → H ≡ K → i < length files → file ≡ get_or files i file → ((n : ℕ) → IsEnd (I n) (J n)) → HavePreparedFiles K verdicts (take i files) I J
    → AreIdle K J
    → EndsFile H verdicts file J L failed holds e → (0 < H.batch → HaveBegunFile H verdicts file J L) → ((n : ℕ) → IsEnd (J n) (L n))
    → EndsFiles K verdicts files I L failed holds e
files_end_so K H verdicts files i file I J L failed holds e same low is grows so idle ends begun onward = record {
  done = take i files;
  more = file ∷ drop (i + 1) files;
  are = sym (sym (append_assoc (take i files) (file ∷ []) (drop (i + 1) files)) ∙ ap (λ fs. fs ++ drop (i + 1) files) (so_far files i file low is)
      ∙ take-append-drop (i + 1) files);
  middle = J;
  grows = grows;
  onward = onward;
  before = so;
  idle = idle;
  ends = (
    subst (λ k. EndsFile k verdicts file J L failed holds e) same ends,
    subst (λ k. 0 < k.batch → HaveBegunFile k verdicts file J L) same begun,
  );
}
