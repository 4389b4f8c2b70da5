-- One file behind others: the deed of all.
use Rattle.std.proofs.Common.{◌≡◌, ◌+◌, ◌<◌, ◌≤◌, ◌++◌, [], ◌∷◌, ℕ, inl, List, Bool, length, take, drop, get_or, Result, Ok, Err, refl, sym, ap, ◌∙◌}
use Rattle.std.proofs.Common.{subst}
use Rattle.std.specs.Prelude.{IfOk, IfErr, OnOk}
use Rattle.std.specs.Global.{Vec}
use Rattle.std.proofs.lemmas.List.{append-nil, take_all, take-append-drop}
use Rattle.outside.specs.declared.disk.Disk.{Ghosts}
use Rattle.cbdc_model.specs.Records.{Shape, Record}
use Rattle.cbdc_model.specs.Coins.{FullTx}
use Rattle.cbdc_model.specs.World.{AreIdle}
use Rattle.cbdc_model.specs.Waves.{IsFileRun, Waves, sent_to}
use Rattle.run_laws.proofs.WaveTurns.{waves_begin_law, waves_step_law}
use Rattle.lane_driver.specs.declared.fault.LaneFault.{LaneFault}
use Rattle.lane_driver.specs.declared.fault.LaneFaultKind.TheVariants.{Memory as NoMemory}
use Rattle.submissions.specs.Checks.{VerdictsOf, TellsSound, AreChecked}
use Rattle.ledger_runs.specs.Turning.{OfKept}
use Rattle.ledger_runs.specs.Faults.{HaveFailed, MayHoldBytes, LanesRest}
use Rattle.file_runs.specs.declared.waves.Wave.{Wave}
use Rattle.file_runs.specs.Runs.{joined, HavePreparedFile}
use Rattle.file_runs.specs.declared.ledger.Ledger.{Ledger}
use Rattle.file_runs.specs.Endings.{EndsFile}
use Rattle.file_runs.specs.FileRuns.{RanFile}
use Rattle.file_runs.specs.Ledgers.{ledger_journals, ledger_faults, ledger_opened, ledger_capacity}
use Rattle.file_runs.specs.Telling.{TellsFile}
use Rattle.file_runs.specs.Stretches.{LedgerSight, ledger_sight, failed_at, may_hold_at, Stretch, Joins, Widens}
use Rattle.file_runs.specs.Deeds.{DidFile, DidFiles, file_deed, first_files, files_deed}
use Rattle.file_runs.proofs.Joining.{joined_append, so_far, KeepsFiles, FilesSo}
use Rattle.file_runs.proofs.Cutting.{cut_behind, cut_at}
use Rattle.file_runs.proofs.Ending.{unbegun_files, files_end_so}
use Rattle.file_runs.proofs.FileTelling.{told_files}
use Rattle.file_runs.proofs.Filing.{stays_more}
use Rattle.file_runs.proofs.Pieces.{none_prepared, file_prepared, files_piece, files_begun, files_unbegun}
use Rattle.file_runs.proofs.Stretching.{stretch_none, stretch_on, stretch_cut, stretch_as, stretch_cut_as, stretch_short}

module _ (verdicts : VerdictsOf) (files : List (List FullTx)) where
  -- so many of them have been run
  so_of : (K : Shape) (i : ℕ) (I J : ℕ → List Record) (ws : List Wave) → KeepsFiles K (take i files) I J → DidFiles K verdicts (take i files) I J ws
      → FilesSo K verdicts (take i files) I J
  so_of K i I J ws keeps did = record { idle = did.idle; keeps = keeps; waves = did.waves }

  -- the next file behind those before it
  pub next_file : (i : ℕ) (file : List FullTx) (ws : List Wave) → i < length files → file ≡ get_or files i file
      → Joins (first_files verdicts files i) (file_deed verdicts file) (first_files verdicts files (i + 1)) ws (λ w now. now ≡ ws ++ w ∷ [])
  next_file i file ws low is = record {
    handed = ap (λ l. joined (take i files) ++ l) (sym (append-nil file)) ∙ sym (joined_append (take i files) (file ∷ []))
        ∙ ap joined (so_far files i file low is);
    next_still = λ K E M X lane txs at inside none piece sound tells.
        (let (pieces, are, next) = piece sound tells in (pieces, are, (next.0, next.1, next.2, none ∙ next.3)));
    next_then = λ K E M X lane txs at inside piece. files_piece K verdicts files i file E M X lane txs low is at.did.prepared inside piece;
    begun = λ K E M X at. (
      files_begun K K verdicts files i file E M X refl low is at.did.prepared at.begins,
      cut_behind K K verdicts files i file E M X refl low is (so_of K i E M ws at.keeps at.did) at.onward at.begins,
    );
    did = λ K E M X w now at pushed one. record {
      idle = one.idle;
      waves = λ mint submissions kept sound B tells resumed.
          subst (λ fs. Waves K sound fs B X) (so_far files i file low is)
          (waves_step_law K sound (take i files) file B M X (at.did.waves mint submissions kept sound B tells resumed)
          (one.runs mint (submissions ++ joined (take i files)) (at.keeps mint submissions kept).kept sound tells));
      told = told_files K K verdicts files i file E M X ws now w refl low is at.keeps pushed at.did.told one.told;
      prepared = file_prepared K K verdicts files i file E M X refl low is at.did.prepared one.prepared;
    };
    ends = λ K E M X failed holds f at ended. (
      files_end_so K K verdicts files i file E M X failed holds f refl low is at.grows at.did.prepared at.did.idle ended.0 at.begins at.onward,
      ended.1,
    );
  }

  -- what was said of the first is said of all
  pub some_files : (i : ℕ) → length files ≤ i → Widens (first_files verdicts files i) (files_deed verdicts files) (λ ws all. all.items ≡ ws)
  some_files i past = record {
    more = [];
    handed = append-nil (joined (take i files)) ∙ ap joined (take_all i files past);
    next = λ K E X lane txs inside piece. piece;
    begun = λ K E X begun. begun;
    did = λ K E X ws all same did. subst (λ v. DidFiles K verdicts files E X v) (sym same)
        (subst (λ fs. DidFiles K verdicts fs E X ws) (take_all i files past) did);
    ends = λ K E X failed holds f begun ends. ends;
  }

  pub cut_files : (i : ℕ) → Widens (first_files verdicts files i) (files_deed verdicts files) (λ ws all. ⊥)
  cut_files i = record {
    more = joined (drop i files);
    handed = sym (joined_append (take i files) (drop i files)) ∙ ap joined (take-append-drop i files);
    next = λ K E X lane txs inside piece. piece;
    begun = λ K E X begun. begun;
    did = λ K E X ws all never did. absurd never;
    ends = λ K E X failed holds f begun ends. ends;
  }

  -- none has been run
  pub none_run : (s : LedgerSight) (ws : List Wave) → s.checked → AreIdle s.shape s.journals → ws ≡ []
      → Stretch (first_files verdicts files 0) s s (Ok ws)
  none_run s ws checked idle none =
      let did : DidFiles s.shape verdicts [] s.journals s.journals ws = record {
        idle = idle;
        waves = λ mint submissions kept sound E tells resumed. waves_begin_law s.shape sound E s.journals resumed;
        told = λ mint submissions kept. (none, λ n. refl);
        prepared = none_prepared s.shape verdicts s.journals;
      } in
      stretch_none (first_files verdicts files 0) s (Ok ws) checked (
        files_unbegun s.shape verdicts files s.journals,
        cut_at s.shape verdicts files 0 s.journals s.journals (so_of s.shape 0 s.journals s.journals ws (stays_more s.shape s.journals []) did),
      ) did tt tt

  -- memory ran out behind so many of them
  pub short_run : (i : ℕ) (a b : LedgerSight) (ws : List Wave) (e : LaneFault) → e.fault ≡ NoMemory
      → Stretch (first_files verdicts files i) a b (Ok ws) → Stretch (files_deed verdicts files) a b (Err e)
  short_run i a b ws e memory s =
      stretch_cut_as (first_files verdicts files i) (files_deed verdicts files) (λ ws all. ⊥) (cut_files i) a b e
      (stretch_short (first_files verdicts files i) a b ws e memory s (
        unbegun_files a.shape verdicts files i a.journals b.journals (failed_at b) (may_hold_at b) e s.is.grows s.is.did.prepared s.is.did.idle
            memory,
        λ lane inside. inl (inl (s.is.did.idle lane inside)),
      ))

  -- the next file was run, or a lane met a fault in it
  pub file_more : (i : ℕ) (file : List FullTx) (a m b : LedgerSight) (ws now : List Wave) (w : Wave) → i < length files → file ≡ get_or files i file
      → now ≡ ws ++ w ∷ []
      → Stretch (first_files verdicts files i) a m (Ok ws) → Stretch (file_deed verdicts file) m b (Ok w)
      → Stretch (first_files verdicts files (i + 1)) a b (Ok now)
  file_more i file a m b ws now w low is pushed one two =
      stretch_on (first_files verdicts files i) (file_deed verdicts file) (first_files verdicts files (i + 1)) ws (λ w now. now ≡ ws ++ w ∷ [])
      (next_file i file ws low is) a m b w now pushed one two

  pub file_cut : (i : ℕ) (file : List FullTx) (a m b : LedgerSight) (ws : List Wave) (e : LaneFault) → i < length files → file ≡ get_or files i file
      → Stretch (first_files verdicts files i) a m (Ok ws) → Stretch (file_deed verdicts file) m b (Err e)
      → Stretch (files_deed verdicts files) a b (Err e)
  file_cut i file a m b ws e low is one two =
      stretch_cut_as (first_files verdicts files (i + 1)) (files_deed verdicts files) (λ ws all. ⊥) (cut_files (i + 1)) a b e
      (stretch_cut (first_files verdicts files i) (file_deed verdicts file) (first_files verdicts files (i + 1)) ws (λ w now. now ≡ ws ++ w ∷ [])
      (next_file i file ws low is) a m b e one two)

  pub files_all : (i : ℕ) (a b : LedgerSight) (ws : Vec Wave) → length files ≤ i → Stretch (first_files verdicts files i) a b (Ok ws.items)
      → Stretch (files_deed verdicts files) a b (Ok ws)
  files_all i a b ws past s = stretch_as (first_files verdicts files i) (files_deed verdicts files) (λ ws all. all.items ≡ ws) (some_files i past) a
      b ws.items ws refl s

-- what the run of a file leaves, as a stretch
pub file_stretch : {D : Type 0} (device : Ghosts D) (verdicts : VerdictsOf) (file : List FullTx) (before now : Ledger D)
    (came : Result Wave LaneFault) → RanFile device verdicts file before now came
    → Stretch (file_deed verdicts file) (ledger_sight device before) (ledger_sight device now) came
file_stretch device verdicts file before now came r = record {
  shape_same = r.keeps_ledger.shape_same;
  is = record {
    opened_same = r.keeps_ledger.opened_same;
    capacity_same = r.keeps_ledger.capacity_same;
    later = r.keeps_ledger.later;
    held = r.keeps_ledger.held;
    checked = r.still;
    quiet = r.quiet;
    grows = r.grows;
    keeps = r.keeps;
    flies = r.flies;
    launches = r.launches;
    begun = r.begun;
    did = did_of came r.idle r.runs r.checked r.told r.prepared;
    cause = r.fault;
    ends = ends_of came r.least;
  };
}
  where
    K : Shape
    K = before.header.shape

    I : ℕ → List Record
    I = ledger_journals before

    J : ℕ → List Record
    J = ledger_journals now

    did_of : (o : Result Wave LaneFault) → OnOk o (AreIdle K J)
        → OnOk o (OfKept K I (λ _ _. (sound : FullTx → Bool) → TellsSound verdicts sound → IsFileRun K (sent_to K sound file) I J))
        → IfOk o (λ w. AreChecked K verdicts file w.checked.items) → IfOk o (λ w. OfKept K I (λ _ _. TellsFile K verdicts file I J w))
        → OnOk o (HavePreparedFile K verdicts file I J)
        → IfOk o (DidFile K verdicts file I J)
    did_of (Ok w) idle runs checked told prepared = record { idle = idle; runs = runs; checked = checked; told = told; prepared = prepared }
    did_of (Err e) idle runs checked told prepared = tt

    ends_of : (o : Result Wave LaneFault) → IfErr o
        (EndsFile K verdicts file I J (HaveFailed (ledger_opened now) (ledger_faults now)) (MayHoldBytes (ledger_capacity now)))
        → IfErr o (λ e. EndsFile K verdicts file I J (HaveFailed (ledger_opened now) (ledger_faults now)) (MayHoldBytes (ledger_capacity now)) e
        × LanesRest K J (HaveFailed (ledger_opened now) (ledger_faults now)))
    ends_of (Ok w) ends = tt
    ends_of (Err e) ends = (ends, r.rests)
