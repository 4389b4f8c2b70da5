-- What a source of a lane knows of its file.
use Rattle.std.specs.Prelude.{◌≡◌, ◌+◌, ◌*◌, ◌<◌, ◌≤◌, ℕ, List, ◌∷◌, map, length, drop, slice_get, Some}
use Rattle.std.specs.List.{filter}
use Rattle.std.specs.Global.{Vec}
use Rattle.std.specs.Vec.{vec_capacity}
use Rattle.cbdc_model.specs.Records.{Shape, Compact}
use Rattle.cbdc_model.specs.Coins.{FullTx, compact, tx_id}
use Rattle.cbdc_model.specs.Waves.{share, sent_to}
use Rattle.submissions.specs.SoundTest.{sound_by}
use Rattle.submissions.specs.Checks.{VerdictsOf, IsSaid, IsRuled}
use Rattle.submissions.specs.declared.Checked.{Checked}
use Rattle.submissions.specs.declared.Ruled.{Ruled}
use Rattle.submissions.specs.declared.Ruling.{Ruling}
use Rattle.submissions.specs.declared.Ruling.TheVariants.{Refused, Sound}

-- what contracts see of a source: its lane, the place of its next submission in the file, what it gave last, and what was said of its submissions so
-- far
pub record SourceOf : Type 0 where
  pub lane : ℕ
  pub at : ℕ
  pub given : List Compact
  pub checked : List Checked

-- how many lanes there are
abbrev pub count_of_lanes : Shape → ℕ
count_of_lanes K = K.coordinators * K.lanes

-- what a file sends to a lane: the compact forms of its sound submissions, in order
abbrev pub all_for_lane : Shape → VerdictsOf → List FullTx → ℕ → List Compact
all_for_lane K verdicts file lane = sent_to K (sound_by verdicts) file lane

-- what a file sends to a lane of the submissions from this place on
abbrev pub left_at : Shape → VerdictsOf → List FullTx → ℕ → ℕ → List Compact
left_at K verdicts file lane at = map compact (filter (sound_by verdicts) (share (count_of_lanes K) lane at (drop at file)))

-- what was said of the first submissions of a lane, in order: the i-th stands at place lane + i * lanes
abbrev pub AreSaid : Shape → VerdictsOf → List FullTx → ℕ → List Checked → Type 0
AreSaid K verdicts file lane checked = (i : ℕ) (c : Checked) (t : FullTx) → slice_get checked i ≡ Some c
    → slice_get file (lane + count_of_lanes K * i) ≡ Some t
    → (c.id ≡ tx_id t) × IsSaid K verdicts file (lane + count_of_lanes K * i) t c.judgement

-- it has come to this place: it said so much of the submissions before it, `sent` of which are sound
pub record HasComeTo (K : Shape) (verdicts : VerdictsOf) (file : List FullTx) (lane at sent : ℕ) (checked : List Checked) : Type 0 where
  pub within : lane < count_of_lanes K
  pub at_is : at ≡ lane + count_of_lanes K * length checked
  pub sent_is : sent + length (left_at K verdicts file lane at) ≡ length (all_for_lane K verdicts file lane)
  pub said : AreSaid K verdicts file lane checked

-- and there is room for what it says of the others
pub record IsSource (K : Shape) (verdicts : VerdictsOf) (file : List FullTx) (lane at sent : ℕ) (checked : Vec Checked) : Type 0 where
  pub come : HasComeTo K verdicts file lane at sent checked.items
  pub room : length file ≤ count_of_lanes K * vec_capacity checked

-- so it is of the submission at a place, where there is one
abbrev pub SubmissionAt : List FullTx → ℕ → (FullTx → Type 0) → Type 0
SubmissionAt file at P = (t : FullTx) → slice_get file at ≡ Some t → P t

-- the source is this lane's, and has come to the end of the file
abbrev pub IsSourceFinished : List FullTx → ℕ → SourceOf → Type 0
IsSourceFinished file lane s = (s.lane ≡ lane) × (length file ≤ s.at)

-- each source is its lane's, by its place in the list, and has come to the end of the file
abbrev pub AreFinished : List FullTx → List SourceOf → Type 0
AreFinished file sources = (lane : ℕ) (s : SourceOf) → slice_get sources lane ≡ Some s → IsSourceFinished file lane s

-- what contracts see of a ruling: the place of the submission, and what is made of it
pub record RuledOf : Type 0 where
  pub place : ℕ
  pub ruled : Ruled

-- it is what a sentinel makes of the submission there
abbrev pub IsRuledAt : VerdictsOf → List FullTx → ℕ → Ruled → Type 0
IsRuledAt verdicts file place ruled = SubmissionAt file place (λ t. IsRuled verdicts t ruled)

-- what is left from a place on, by what is made of the submission there: its compact form, where it is sound, and what is left behind it
abbrev pub LeavesBehind : Shape → VerdictsOf → List FullTx → ℕ → ℕ → Ruling → Type 0
LeavesBehind K verdicts file lane at (Refused why) = left_at K verdicts file lane at ≡ left_at K verdicts file lane (at + count_of_lanes K)
LeavesBehind K verdicts file lane at (Sound own) = left_at K verdicts file lane at ≡ own ∷ left_at K verdicts file lane (at + count_of_lanes K)
