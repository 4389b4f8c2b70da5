-- The numbers of a run, and its lines, by what its waves tell.
use Rattle.std.proofs.Common.{◌≡◌, ℕ, zero, suc, ◌*◌, ◌<◌, ◌≤◌, Bool, List, [], ◌∷◌, ◌++◌, sym, ap, ◌∙◌, subst, arith}
use Rattle.cbdc_types.specs.Limits.{IsWithinLimits}
use Rattle.cbdc_model.specs.Records.{Shape, Record}
use Rattle.cbdc_model.specs.Coins.{FullTx}
use Rattle.cbdc_model.specs.Lanes.{IsEnd}
use Rattle.ledger_laws.proofs.Cuts.{end_self, end_trans}
use Rattle.submissions.specs.Checks.{VerdictsOf, TellsSound}
use Rattle.input_files.specs.Contents.{all_txs}
use Rattle.line_text.specs.Lines.{Text, summary_text}
use Rattle.file_runs.specs.Telling.{TellFiles, TellsRun}
use Rattle.file_runs.specs.declared.waves.Wave.{Wave}
use Rattle.printed_lines.specs.declared.report.Report.{Report}
use Rattle.printed_lines.specs.Recoveries.{resumed_count}
use Rattle.printed_lines.specs.Decided.{new_batches}
use Rattle.printed_lines.specs.Runs.{is_confirmed, is_rejected, is_refused, count_in, files_lines, run_lines, AreAllReports}
use Rattle.file_runs.specs.declared.ran.Ran.{Ran}
use Rattle.run_lines.specs.Told.{told_files, told_total, batches_told, IsCountable, numbers_of, ran_text}
use Rattle.run_lines.proofs.Resumed.{count_below}
use Rattle.run_lines.proofs.Reports.{all_reported}
use Rattle.run_lines.proofs.Batched.{total_few, batches_are}

times_few : (a b x y : ℕ) → a ≤ x → b ≤ y → a * b ≤ x * y
times_few zero b x y le low = omega arith
times_few (suc a) b zero y le low = absurd (omega (arith, le))
times_few (suc a) b (suc x) y le low = let h = times_few a b x y (omega (arith, le)) low in omega (arith, h, low)

-- there is a lane
pub lanes_there : (K : Shape) → IsWithinLimits K → 0 < K.coordinators * K.lanes
lanes_there K within = times_few 1 1 K.coordinators K.lanes within.some_coordinator within.some_lane

-- journals grow over the files
files_grow : (K : Shape) (verdicts : VerdictsOf) (sound : FullTx → Bool) (tells : TellsSound verdicts sound) (files : List (List FullTx))
    (I J : ℕ → List Record) (ws : List Wave) → TellFiles K verdicts files I J ws → (n : ℕ) → IsEnd (I n) (J n)
files_grow K verdicts sound tells [] I J ws told n = subst (λ l. IsEnd (I n) l) (sym (told.1 n)) (end_self (I n))
files_grow K verdicts sound tells (file ∷ files) I J ws (M, w, more, is, one, rest) n =
    end_trans (I n) (M n) (J n) ((one.runs sound tells).adds.grows n) (files_grow K verdicts sound tells files M J more rest n)

module _ (K : Shape) (verdicts : VerdictsOf) (files : List (List FullTx)) (few : all_txs files ≤ 1000000) (within : IsWithinLimits K)
    (E X : ℕ → List Record) (ran : Ran) (told : TellsRun K verdicts files E X ran.resumed.items ran.waves.items) where
  lanes_few : K.coordinators * K.lanes ≤ 256
  lanes_few = times_few K.coordinators K.lanes 16 16 within.coordinators within.lanes

  some_lane : 0 < K.coordinators * K.lanes
  some_lane = lanes_there K within

  batches : (sound : FullTx → Bool) → TellsSound verdicts sound
      → (batches_told ran.waves.items ≡ new_batches K E X) × (batches_told ran.waves.items ≤ (K.coordinators * K.lanes) * all_txs files)
  batches sound tells =
      batches_are K verdicts sound tells files E told.middle X ran.waves.items
      (λ n. end_trans (E n) (told.middle n) (X n) (told.grows n)
      (files_grow K verdicts sound tells files told.middle X ran.waves.items told.told n)) told.unprepared few told.told

  pub countable : (sound : FullTx → Bool) → TellsSound verdicts sound → IsCountable ran
  countable sound tells =
      let b = (batches sound tells).1 in
      let t = times_few (K.coordinators * K.lanes) (all_txs files) 256 1000000 lanes_few few in
      record {
        batches = omega (arith, b, t);
        submissions = λ test. (let s = total_few K verdicts test files told.middle X ran.waves.items told.told in omega (arith, s, few));
      }

  -- the results of the submissions, their lines, and the numbers behind them
  abbrev pub numbers : List (List Report) → Text
  numbers all = summary_text (resumed_count K E) (new_batches K E X) (count_in is_confirmed all) (count_in is_rejected all) (count_in is_refused all)
      ran.unspent

  abbrev Told : (FullTx → Bool) → Type 0
  Told sound = (all : List (List Report)) × AreAllReports K verdicts sound E X files all × (told_files 1 ran.waves.items ≡ files_lines 1 files all)
      × (numbers_of ran ≡ numbers all)

  all_told : (sound : FullTx → Bool) → TellsSound verdicts sound → Told sound
  all_told sound tells =
      let ws = ran.waves.items in
      let r = all_reported K verdicts sound tells some_lane E told.middle X told.grows told.unprepared files ws told.told in
      let resumed = count_below K E told.middle (K.coordinators * K.lanes) ran.resumed.items told.batches in (
        r.0,
        r.1,
        r.2,
        ap (λ n. summary_text n (batches_told ws) (told_total is_confirmed ws) (told_total is_rejected ws) (told_total is_refused ws) ran.unspent)
            resumed
            ∙ ap (λ n. summary_text (resumed_count K E) n (told_total is_confirmed ws) (told_total is_rejected ws) (told_total is_refused ws)
            ran.unspent) (batches sound tells).0
            ∙ ap (λ n. summary_text (resumed_count K E) (new_batches K E X) n (told_total is_rejected ws) (told_total is_refused ws) ran.unspent)
            (sym (r.3 is_confirmed))
            ∙ ap (λ n. summary_text (resumed_count K E) (new_batches K E X) (count_in is_confirmed r.0) n (told_total is_refused ws) ran.unspent)
            (sym (r.3 is_rejected))
            ∙ ap (λ n. summary_text (resumed_count K E) (new_batches K E X) (count_in is_confirmed r.0) (count_in is_rejected r.0) n ran.unspent)
            (sym (r.3 is_refused)),
      )

  -- the numbers alone
  pub run_numbers : (sound : FullTx → Bool) → TellsSound verdicts sound
      → (all : List (List Report)) × AreAllReports K verdicts sound E X files all × (numbers_of ran ≡ numbers all)
  run_numbers sound tells = let t = all_told sound tells in (t.0, t.1, t.3)

  pub run_text : (sound : FullTx → Bool) → TellsSound verdicts sound
      → (all : List (List Report)) × ((AreAllReports K verdicts sound E X files all) × (ran_text ran ≡ run_lines K E X files all ran.unspent))
  run_text sound tells =
      let t = all_told sound tells in
      (t.0, (t.1, ap (λ l. l ++ numbers_of ran) t.2 ∙ ap (λ l. files_lines 1 files t.0 ++ l) t.3))
