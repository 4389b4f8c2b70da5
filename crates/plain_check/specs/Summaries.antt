-- What the parts of the plain program hand to each other.
use Rattle.std.specs.Prelude.{◌≡◌, ℕ, Bool, List}
use Rattle.std.specs.List.{AllZip}
use Rattle.cbdc_model.specs.Records.{Shape, Record}
use Rattle.cbdc_model.specs.Coins.{FullTx}
use Rattle.line_text.specs.declared.summary.Summary.{Summary}
use Rattle.plain_check.specs.declared.counting.Told.{Told}
use Rattle.plain_check.specs.declared.counting.Told.TheVariants.{Confirmed, Rejected, Refused}
use Rattle.submissions.specs.Checks.{VerdictsOf, TellsSound, IsSaid}
use Rattle.submissions.specs.declared.Checked.{Checked}
use Rattle.printed_lines.specs.declared.report.Report.{Report}
use Rattle.printed_lines.specs.Recoveries.{resumed_count}
use Rattle.printed_lines.specs.Decided.{new_batches}
use Rattle.printed_lines.specs.Runs.{is_confirmed, is_rejected, is_refused, count_in, IsReport, AreReports, AreAllReports}

-- what a report may tell of its submission
abbrev pub tells : Told → Report → Bool
tells Confirmed = is_confirmed
tells Rejected = is_rejected
tells Refused = is_refused

-- the numbers that end the text of a run
pub record IsSummary (K : Shape) (E X : ℕ → List Record) (all : List (List Report)) (unspent : ℕ) (s : Summary) : Type 0 where
  pub resumed : s.resumed ≡ resumed_count K E
  pub batches : s.batches ≡ new_batches K E X
  pub confirmed : s.confirmed ≡ count_in is_confirmed all
  pub rejected : s.rejected ≡ count_in is_rejected all
  pub refused : s.refused ≡ count_in is_refused all
  pub unspent_is : s.unspent ≡ unspent

-- the report is that of each submission of which this was said, by each test that tells sound ones
abbrev pub Fits : Shape → VerdictsOf → (ℕ → List Record) → (ℕ → List Record) → List (List FullTx) → Checked → Report → Type 0
Fits K verdicts E X earlier c r =
    (sound : FullTx → Bool) → TellsSound verdicts sound → (file : List FullTx) (place : ℕ) (t : FullTx)
    → IsSaid K verdicts file place t c.judgement → IsReport K verdicts sound E X earlier file place t r

-- so for each of these, in order
abbrev pub AllFit : Shape → VerdictsOf → (ℕ → List Record) → (ℕ → List Record) → List (List FullTx) → List Checked → List Report → Type 0
AllFit K verdicts E X earlier cs rs = AllZip (Fits K verdicts E X earlier) cs rs

-- the reports are those of a file's submissions, by each test that tells sound ones
abbrev pub AreTold : Shape → VerdictsOf → (ℕ → List Record) → (ℕ → List Record) → List (List FullTx) → List FullTx → List Report → Type 0
AreTold K verdicts E X earlier file rs = (sound : FullTx → Bool) → TellsSound verdicts sound → AreReports K verdicts sound E X earlier file rs

-- the reports are those of all files' submissions, by each test that tells sound ones
abbrev pub AreAllTold : Shape → VerdictsOf → (ℕ → List Record) → (ℕ → List Record) → List (List FullTx) → List (List Report) → Type 0
AreAllTold K verdicts E X files all = (sound : FullTx → Bool) → TellsSound verdicts sound → AreAllReports K verdicts sound E X files all
