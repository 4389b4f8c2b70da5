-- What the waves of a run tell of its submissions, and their lines.
use Rattle.std.specs.Prelude.{◌≡◌, ◌≤◌, ℕ, suc, ◌+◌, length, sum_by, Bool, if◌then◌else◌, List, [], ◌∷◌, ◌++◌, Option, Some, None, option_map}
use Rattle.std.specs.Prelude.{slice_get}
use Rattle.cbdc_model.specs.Records.{Digest}
use Rattle.submissions.specs.declared.Checked.{Checked}
use Rattle.submissions.specs.declared.Judgement.{Judgement}
use Rattle.submissions.specs.declared.Judgement.TheVariants as judged
use Rattle.ledger_runs.specs.declared.lanes.Decided.{Decided}
use Rattle.ledger_runs.specs.declared.lanes.Lane.{Lane}
use Rattle.file_runs.specs.declared.waves.Wave.{Wave}
use Rattle.line_text.specs.Lines.{Text, summary_text}
use Rattle.line_text.specs.declared.summary.Summary.{Summary}
use Rattle.printed_lines.specs.declared.report.Report.{Report}
use Rattle.printed_lines.specs.declared.report.Report.TheVariants as reports
use Rattle.printed_lines.specs.Runs.{report_line, is_confirmed, is_rejected, is_refused}
use Rattle.file_runs.specs.declared.ran.Ran.{Ran}
use Rattle.run_lines.specs.declared.report.Counts.{Counts}

-- what a lane keeps at a place, none where there is no such lane or place
abbrev pub kept_in_lane : Option Lane → ℕ → Option Decided
kept_in_lane None place = None
kept_in_lane (Some x) place = slice_get x.decided.items place

-- what is told of a submission: that it was refused, and why; or the batch and the outcome that its lane keeps at its place
abbrev pub told_report : List Lane → Judgement → Option Report
told_report lanes (judged.Refused why) = Some (reports.Refused why)
told_report lanes (judged.Sound lane place) = option_map (λ d. reports.Decided d.batch d.outcome) (kept_in_lane (slice_get lanes lane) place)

-- the line of a submission, by what is told of it; none where nothing is
abbrev pub told_line : ℕ → ℕ → Digest → Option Report → Text
told_line file place id None = []
told_line file place id (Some r) = report_line file place id r

-- those of a file's submissions from a place on
abbrev pub told_file : ℕ → ℕ → List Lane → List Checked → Text
told_file file place lanes [] = []
told_file file place lanes (c ∷ cs) = told_line file place c.id (told_report lanes c.judgement) ++ told_file file (suc place) lanes cs

-- those of files, from a number on
abbrev pub told_files : ℕ → List Wave → Text
told_files file [] = []
told_files file (w ∷ ws) = told_file file 0 w.lanes.items w.checked.items ++ told_files (suc file) ws

-- 1 where what is told of a submission passes a test, else 0
abbrev pub one_where : (Report → Bool) → Option Report → ℕ
one_where test None = 0
one_where test (Some r) = if test r then 1 else 0

-- of how many submissions of a file what is told passes a test
abbrev pub told_count : (Report → Bool) → List Lane → List Checked → ℕ
told_count test lanes [] = 0
told_count test lanes (c ∷ cs) = one_where test (told_report lanes c.judgement) + told_count test lanes cs

-- of how many submissions of all files
abbrev pub told_total : (Report → Bool) → List Wave → ℕ
told_total test [] = 0
told_total test (w ∷ ws) = told_count test w.lanes.items w.checked.items + told_total test ws

-- how many batches lanes tell
abbrev pub batches_in : List Lane → ℕ
batches_in lanes = sum_by (λ x. x.batches) lanes

-- how many the lanes of all files tell
abbrev pub batches_told : List Wave → ℕ
batches_told ws = sum_by (λ w. batches_in w.lanes.items) ws

-- a number is this count, where 64 bits count that far
abbrev pub IsCounted : ℕ → ℕ → Type 0
IsCounted n m = m ≤ 18446744073709551615 → n ≡ m

-- how many submissions were confirmed, rejected and refused, each where 64 bits count that far
abbrev pub AreCounts : Counts → ((Report → Bool) → ℕ) → Type 0
AreCounts c many = IsCounted c.confirmed (many is_confirmed) × IsCounted c.rejected (many is_rejected) × IsCounted c.refused (many is_refused)

-- 64 bits count all batches of a run, and by every test its submissions
pub record IsCountable (ran : Ran) : Type 0 where
  pub batches : batches_told ran.waves.items ≤ 18446744073709551615
  pub submissions : (test : Report → Bool) → told_total test ran.waves.items ≤ 18446744073709551615

-- the six numbers that end the text of a run, by what it tells
pub record AreNumbers (ran : Ran) (s : Summary) : Type 0 where
  pub resumed : s.resumed ≡ length ran.resumed.items
  pub batches : s.batches ≡ batches_told ran.waves.items
  pub confirmed : s.confirmed ≡ told_total is_confirmed ran.waves.items
  pub rejected : s.rejected ≡ told_total is_rejected ran.waves.items
  pub refused : s.refused ≡ told_total is_refused ran.waves.items
  pub unspent : s.unspent ≡ ran.unspent

-- the numbers that end the text of a run, as lines
abbrev pub numbers_of : Ran → Text
numbers_of ran =
    summary_text (length ran.resumed.items) (batches_told ran.waves.items) (told_total is_confirmed ran.waves.items)
    (told_total is_rejected ran.waves.items) (told_total is_refused ran.waves.items) ran.unspent

-- what a run that tells this prints: the lines of its files, which count from 1, and these numbers
abbrev pub ran_text : Ran → Text
ran_text ran = told_files 1 ran.waves.items ++ numbers_of ran
