-- What sentinels make of the submissions of a file.
use Rattle.std.specs.Prelude.{◌≡◌, ◌≢◌, ◌↔◌, ℕ, ◌*◌, ◌%◌, Bool, true, List, [], ◌∷◌, ◌++◌, length, take, slice_get, Option, None, Some, All, Contains}
use Rattle.std.specs.Global.{Vec}
use Rattle.cbdc_types.specs.declared.tx.CompactTx.{CompactTx}
use Rattle.cbdc_model.specs.Records.{Shape}
use Rattle.cbdc_model.specs.Coins.{FullTx, compact, tx_id}
use Rattle.cbdc_model.specs.Waves.{sent_to}
use Rattle.base_types.specs.declared.faults.Refusal.{Refusal}
use Rattle.sentinel.specs.declared.verifier.Verdict.{Verdict}
use Rattle.sentinel.specs.FirstRefusal.{IsSoundTx, IsFirstRefusal}
use Rattle.submissions.specs.declared.Checked.{Checked}
use Rattle.submissions.specs.declared.Judgement.{Judgement}
use Rattle.submissions.specs.declared.Judgement.TheVariants.{Refused, Sound}
use Rattle.submissions.specs.declared.Judged.{Judged}
use Rattle.submissions.specs.declared.Ruled.{Ruled}
use Rattle.submissions.specs.declared.Ruling.{Ruling}
use Rattle.submissions.specs.declared.Ruling.TheVariants as ruling
use Rattle.submissions.specs.declared.Submitted.{Submitted}

-- a verdict on the witness of each input of each transaction, by id and place
abbrev pub VerdictsOf : Type 0
VerdictsOf = List ℕ → ℕ → Verdict

-- a test that says yes exactly for sound transactions
abbrev pub TellsSound : VerdictsOf → (FullTx → Bool) → Type 0
TellsSound verdicts sound = (t : FullTx) → (sound t ≡ true) ↔ IsSoundTx t (verdicts (tx_id t))

-- nothing in any list
abbrev pub AllEmpty : List (Vec CompactTx) → Type 0
AllEmpty lanes = (lane : ℕ) (list : Vec CompactTx) → slice_get lanes lane ≡ Some list → list.items ≡ []

-- what a sentinel says of a transaction by itself: it is sound, or the first reason to refuse it
abbrev pub IsRefusal : VerdictsOf → FullTx → Option Refusal → Type 0
IsRefusal verdicts t None = IsSoundTx t (verdicts (tx_id t))
IsRefusal verdicts t (Some r) = IsFirstRefusal t (verdicts (tx_id t)) r

-- what a sentinel says of a transaction, with the transaction's id
abbrev pub IsJudged : VerdictsOf → FullTx → Judged → Type 0
IsJudged verdicts t j = (j.id ≡ tx_id t) × IsRefusal verdicts t j.refusal

-- what a sentinel makes of a transaction by itself: the first reason to refuse it; or it is sound, and this is its compact form
abbrev pub IsRuling : VerdictsOf → FullTx → Ruling → Type 0
IsRuling verdicts t (ruling.Refused r) = IsFirstRefusal t (verdicts (tx_id t)) r
IsRuling verdicts t (ruling.Sound k) = IsSoundTx t (verdicts (tx_id t)) × (k ≡ compact t)

-- what a sentinel makes of a transaction by itself, with the transaction's id
abbrev pub IsRuled : VerdictsOf → FullTx → Ruled → Type 0
IsRuled verdicts t r = (r.id ≡ tx_id t) × IsRuling verdicts t r.ruling

-- what is kept of a ruling: why the transaction is refused; or where it is sound its place at the end of a lane's list, which gets its compact form
abbrev pub IsDealtBy : Ruling → ℕ → List CompactTx → List CompactTx → Judgement → Type 0
IsDealtBy (ruling.Refused why) at before after j = (j ≡ Refused why) × (after ≡ before)
IsDealtBy (ruling.Sound k) at before after j = (j ≡ Sound at (length before)) × (after ≡ before ++ k ∷ [])

-- what is kept of a ruling in a lane's list, with the transaction's id
abbrev pub IsDealt : Ruled → ℕ → List CompactTx → List CompactTx → Checked → Type 0
IsDealt r at before after c = (c.id ≡ r.id) × IsDealtBy r.ruling at before after c.judgement

-- what is kept of a ruling in the list of one lane, with the lists of the others as before
pub record IsDealtAt (r : Ruled) (at : ℕ) (old new : List (Vec CompactTx)) (c : Checked) : Type 0 where
  pub count : length new ≡ length old
  pub own : (was list : Vec CompactTx) → slice_get old at ≡ Some was → slice_get new at ≡ Some list → IsDealt r at was.items list.items c
  pub others : (lane : ℕ) → lane ≢ at → slice_get new lane ≡ slice_get old lane

-- each lane has what is sent to it
abbrev pub AreSent : Shape → VerdictsOf → List FullTx → List (Vec CompactTx) → Type 0
AreSent K verdicts file lanes =
    (sound : FullTx → Bool) → TellsSound verdicts sound
    → (lane : ℕ) (list : Vec CompactTx) → slice_get lanes lane ≡ Some list → list.items ≡ sent_to K sound file lane

-- the compact form of a sound one of these transactions
abbrev pub IsSentFrom : VerdictsOf → List FullTx → CompactTx → Type 0
IsSentFrom verdicts file k = (t : FullTx) × Contains file t × IsSoundTx t (verdicts (tx_id t)) × (k ≡ compact t)

-- each lane has such forms alone
abbrev pub AreSentFrom : VerdictsOf → List FullTx → List (Vec CompactTx) → Type 0
AreSentFrom verdicts file lanes = (lane : ℕ) (list : Vec CompactTx) → slice_get lanes lane ≡ Some list → All (IsSentFrom verdicts file) list.items

-- what is said of the submission at place j: the first reason to refuse it; or it is sound, and goes to lane j modulo the lanes, behind the sound
-- ones before it
abbrev pub IsSaid : Shape → VerdictsOf → List FullTx → ℕ → FullTx → Judgement → Type 0
IsSaid K verdicts file j t (Refused r) = IsFirstRefusal t (verdicts (tx_id t)) r
IsSaid K verdicts file j t (Sound lane place) =
    IsSoundTx t (verdicts (tx_id t)) × (lane ≡ j % (K.coordinators * K.lanes))
    × ((sound : FullTx → Bool) → TellsSound verdicts sound → place ≡ length (sent_to K sound (take j file) lane))

-- as many as there are submissions, each with its id and what is said of it
pub record AreChecked (K : Shape) (verdicts : VerdictsOf) (file : List FullTx) (checked : List Checked) : Type 0 where
  pub count : length checked ≡ length file
  pub each : (j : ℕ) (t : FullTx) (c : Checked) → slice_get file j ≡ Some t → slice_get checked j ≡ Some c
      → (c.id ≡ tx_id t) × IsSaid K verdicts file j t c.judgement

-- what becomes of a file's submissions: a list for each lane of what is sent to it, sound alone; and what is said of each
pub record AreSubmitted (K : Shape) (verdicts : VerdictsOf) (file : List FullTx) (s : Submitted) : Type 0 where
  pub lanes : length s.lanes.items ≡ K.coordinators * K.lanes
  pub sent : AreSent K verdicts file s.lanes.items
  pub sound : AreSentFrom verdicts file s.lanes.items
  pub checked : AreChecked K verdicts file s.checked.items
