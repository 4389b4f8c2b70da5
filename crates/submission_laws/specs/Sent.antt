-- Where the sound submissions of a run went.
use Rattle.std.specs.Prelude.{◌≡◌, ℕ, false, List, [], Option, Some, take, slice_get}
use Rattle.cbdc_model.specs.Records.{Shape, Compact, Record, txs_of}
use Rattle.cbdc_model.specs.Ranges.{home_of}
use Rattle.cbdc_model.specs.Coins.{FullTx, tx_id}
use Rattle.cbdc_model.specs.Waves.{has_prepare}
use Rattle.cbdc_model.specs.Places.{PlaceIn, sized_onto, place_of}
use Rattle.sentinel.specs.FirstRefusal.{IsSoundTx}
use Rattle.submissions.specs.Checks.{VerdictsOf}
use Rattle.submissions.specs.SoundTest.{sound_by}
use Rattle.printed_lines.specs.Decided.{added}
use Rattle.printed_lines.specs.Runs.{lane_at, turn}
use Rattle.run_laws.specs.Placing.{tx_at}

-- a sound submission of a run: the transaction at place j of the file numbered k
pub record IsSent (verdicts : VerdictsOf) (files : List (List FullTx)) (k j : ℕ) (t : FullTx) : Type 0 where
  pub file : List FullTx
  pub file_is : slice_get files k ≡ Some file
  pub tx_is : slice_get file j ≡ Some t
  pub sound : IsSoundTx t (verdicts (tx_id t))

-- the place of the q-th transaction of a lane's new Prepares joined, by the journals E at entry and X at exit
abbrev pub new_place : Shape → (ℕ → List Record) → (ℕ → List Record) → ℕ → ℕ → Option PlaceIn
new_place K E X lane q = place_of (sized_onto lane (added (E (home_of K lane)) (X (home_of K lane))) []) q

-- the place of the submission at place j of this file, which has the number k: that of its turn among the sound ones of its lane
abbrev pub place_at : Shape → VerdictsOf → List (List FullTx) → (ℕ → List Record) → (ℕ → List Record) → ℕ → List FullTx → ℕ → Option PlaceIn
place_at K verdicts files E X k file j = new_place K E X (lane_at K j) (turn K (sound_by verdicts) (take k files) file j)

-- a batch that was prepared newly has this transaction at the place
pub record IsNewlyPrepared (K : Shape) (E X : ℕ → List Record) (p : PlaceIn) (c : Compact) : Type 0 where
  pub new : has_prepare K E p.batch ≡ false
  pub holds : tx_at (txs_of (X (home_of K p.batch.lane)) p.batch) p.at ≡ Some c
