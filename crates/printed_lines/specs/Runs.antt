-- What `run` prints: a line for each submission, in order of file and place, and the summary.
use Rattle.std.specs.Prelude.{◌≡◌, ℕ, suc, ◌+◌, ◌*◌, ◌%◌, Bool, true, false, not, List, [], ◌∷◌, ◌++◌, length, take, sum_by, Some, slice_get}
use Rattle.std.specs.List.{filter}
use Rattle.cbdc_model.specs.Records.{Digest, Shape, Batch, Outcome, Record, is_won, Won, Lacks, Blocked}
use Rattle.cbdc_model.specs.Coins.{FullTx, tx_id}
use Rattle.cbdc_model.specs.Waves.{sent_to}
use Rattle.sentinel.specs.FirstRefusal.{IsSoundTx, IsFirstRefusal}
use Rattle.submissions.specs.Checks.{VerdictsOf, TellsSound}
use Rattle.line_text.specs.Lines.{Text, confirmed_line, rejected_line, refused_line, summary_text}
use Rattle.printed_lines.specs.declared.report.Report.{Report}
use Rattle.printed_lines.specs.declared.report.Report.TheVariants.{Refused, Decided}
use Rattle.printed_lines.specs.Unspent.{IsUnspentCount}
use Rattle.printed_lines.specs.Recoveries.{resumed_count}
use Rattle.printed_lines.specs.Decided.{decided_at, new_batches}

-- the lane that the submission at a place of its file goes to
abbrev pub lane_at : Shape → ℕ → ℕ
lane_at K place = place % (K.coordinators * K.lanes)

-- how many sound submissions of files went to a lane
abbrev pub sent_before : Shape → (FullTx → Bool) → List (List FullTx) → ℕ → ℕ
sent_before K sound files lane = sum_by (λ file. length (sent_to K sound file lane)) files

-- how many sound submissions of its lane come before the one at a place of a file: those of the files before it, and those before it in its own
abbrev pub turn : Shape → (FullTx → Bool) → List (List FullTx) → List FullTx → ℕ → ℕ
turn K sound earlier file place = sent_before K sound earlier (lane_at K place) + length (sent_to K sound (take place file) (lane_at K place))

-- the result of the submission t at a place of a file behind earlier ones: it was refused for the first reason that applies; or it is sound, and
-- stands at its turn among the transactions of its lane's new Prepares, with its batch and outcome
abbrev pub IsReport : Shape → VerdictsOf → (FullTx → Bool) → (ℕ → List Record) → (ℕ → List Record) → List (List FullTx) → List FullTx → ℕ → FullTx
    → Report → Type 0
IsReport K verdicts sound E X earlier file place t (Refused why) = IsFirstRefusal t (verdicts (tx_id t)) why
IsReport K verdicts sound E X earlier file place t (Decided batch outcome) =
    IsSoundTx t (verdicts (tx_id t)) × (decided_at K E X (lane_at K place) (turn K sound earlier file place) ≡ Some (batch, outcome))

-- the line of a decided submission: Held confirms it
abbrev pub decided_line : ℕ → ℕ → Digest → Batch → Outcome → Text
decided_line file place id batch Won = confirmed_line file place id batch
decided_line file place id batch (Lacks shard x) = rejected_line file place id (Lacks shard x) batch
decided_line file place id batch (Blocked shard x by) = rejected_line file place id (Blocked shard x by) batch

-- the line of a submission; files count from 1, places from 0
abbrev pub report_line : ℕ → ℕ → Digest → Report → Text
report_line file place id (Refused why) = refused_line file place id why
report_line file place id (Decided batch outcome) = decided_line file place id batch outcome

-- the line of the submission t at a place of a file behind earlier ones
abbrev pub IsSubmissionLine : Shape → VerdictsOf → (FullTx → Bool) → (ℕ → List Record) → (ℕ → List Record) → List (List FullTx) → List FullTx → ℕ
    → FullTx → Text → Type 0
IsSubmissionLine K verdicts sound E X earlier file place t text =
    (r : Report) × IsReport K verdicts sound E X earlier file place t r × (text ≡ report_line (suc (length earlier)) place (tx_id t) r)

-- the result of each submission of a file
pub record AreReports (K : Shape) (verdicts : VerdictsOf) (sound : FullTx → Bool) (E X : ℕ → List Record) (earlier : List (List FullTx))
    (file : List FullTx) (reports : List Report) : Type 0 where
  pub count : length reports ≡ length file
  pub each : (place : ℕ) (t : FullTx) (r : Report) → slice_get file place ≡ Some t → slice_get reports place ≡ Some r
      → IsReport K verdicts sound E X earlier file place t r

-- and of each file
pub record AreAllReports (K : Shape) (verdicts : VerdictsOf) (sound : FullTx → Bool) (E X : ℕ → List Record) (files : List (List FullTx))
    (all : List (List Report)) : Type 0 where
  pub count : length all ≡ length files
  pub each : (k : ℕ) (file : List FullTx) (reports : List Report) → slice_get files k ≡ Some file → slice_get all k ≡ Some reports
      → AreReports K verdicts sound E X (take k files) file reports

-- the lines of submissions of a file, the first of which has this place
abbrev pub file_lines : ℕ → ℕ → List FullTx → List Report → Text
file_lines file place [] rs = []
file_lines file place (t ∷ ts) [] = []
file_lines file place (t ∷ ts) (r ∷ rs) = report_line file place (tx_id t) r ++ file_lines file (suc place) ts rs

-- the lines of files, the first of which has this number
abbrev pub files_lines : ℕ → List (List FullTx) → List (List Report) → Text
files_lines n [] all = []
files_lines n (file ∷ files) [] = []
files_lines n (file ∷ files) (rs ∷ all) = file_lines n 0 file rs ++ files_lines (suc n) files all

-- whether the submission was confirmed: decided, and its transaction is committed
abbrev pub is_confirmed : Report → Bool
is_confirmed (Refused why) = false
is_confirmed (Decided batch outcome) = is_won outcome

-- whether the submission was rejected: decided, and its transaction is not committed
abbrev pub is_rejected : Report → Bool
is_rejected (Refused why) = false
is_rejected (Decided batch outcome) = not (is_won outcome)

-- whether the submission was refused
abbrev pub is_refused : Report → Bool
is_refused (Refused why) = true
is_refused (Decided batch outcome) = false

-- of how many submissions this is so
abbrev pub count_in : (Report → Bool) → List (List Report) → ℕ
count_in test all = sum_by (λ rs. length (filter test rs)) all

-- the lines of all submissions, and the summary
abbrev pub run_lines : Shape → (ℕ → List Record) → (ℕ → List Record) → List (List FullTx) → List (List Report) → ℕ → Text
run_lines K E X files all unspent =
    files_lines 1 files all
    ++ summary_text (resumed_count K E) (new_batches K E X) (count_in is_confirmed all) (count_in is_rejected all) (count_in is_refused all) unspent

-- the text of a run of files from journals E to journals X, by a test that tells sound submissions
pub record IsRunText (K : Shape) (verdicts : VerdictsOf) (sound : FullTx → Bool) (files : List (List FullTx)) (E X : ℕ → List Record) (text : Text) :
    Type 0 where
  pub all : List (List Report)
  pub are : AreAllReports K verdicts sound E X files all
  pub unspent : ℕ
  pub counted : IsUnspentCount K X unspent
  pub text_is : text ≡ run_lines K E X files all unspent

-- the same by each such test
abbrev pub IsRunLines : Shape → VerdictsOf → List (List FullTx) → (ℕ → List Record) → (ℕ → List Record) → Text → Type 0
IsRunLines K verdicts files E X text = (sound : FullTx → Bool) → TellsSound verdicts sound → IsRunText K verdicts sound files E X text
