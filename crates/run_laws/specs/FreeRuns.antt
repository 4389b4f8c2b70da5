-- The same in a whole run, at its place among all that its lane prepared newly.
use Rattle.std.specs.Prelude.{◌≡◌, ℕ, ◌+◌, ◌*◌, ◌<◌, Bool, true, List, [], ◌∷◌, ◌++◌, length, Some}
use Rattle.cbdc_model.specs.Records.{Digest, Shape, Record, Won}
use Rattle.cbdc_model.specs.Status.{has}
use Rattle.cbdc_model.specs.Ranges.{home_of}
use Rattle.cbdc_model.specs.Coins.{Output, FullTx, compact}
use Rattle.cbdc_model.specs.World.{KeptJournals, IsUnspent}
use Rattle.cbdc_model.specs.Waves.{sent_to, IsFileRun, AreFilesRun}
use Rattle.cbdc_model.specs.Places.{PlaceIn, sized_onto, place_of, outcome_in}
use Rattle.run_laws.specs.Free.{IsAlone, lane_behind, sound_behind}
use Rattle.run_laws.specs.Placing.{sent_of_all}

-- the lane's q-th new transaction is committed
pub record IsWonAt (lane q : ℕ) (more J : List Record) : Type 0 where
  pub place : PlaceIn
  pub stands : place_of (sized_onto lane more []) q ≡ Some place
  pub won : outcome_in J place ≡ Some Won

-- journals R at the run's begin, M before the submission's file and N behind it, X at the end
abbrev pub FreeRunLaw : Type 0
FreeRunLaw = (K : Shape) (mint : List Output) (submissions : List FullTx) (sound : FullTx → Bool) (earlier later : List (List FullTx))
    (before : List FullTx) (t : FullTx) (behind : List FullTx) (R M N X : ℕ → List Record) (more : List Record)
    → 0 < K.shards → 0 < K.coordinators * K.lanes
    → KeptJournals K mint submissions M → KeptJournals K mint submissions N → KeptJournals K mint submissions X
    → AreFilesRun K sound earlier R M → IsFileRun K (sent_to K sound (before ++ t ∷ behind)) M N → AreFilesRun K sound later N X
    → X (home_of K (lane_behind K before)) ≡ more ++ R (home_of K (lane_behind K before))
    → sound t ≡ true → ((x : Digest) → has (compact t).inputs x ≡ true → IsUnspent K M x) → IsAlone sound t (before ++ behind)
    → IsWonAt (lane_behind K before) (length (sent_of_all K sound earlier (lane_behind K before)) + sound_behind K sound before) more
    (X (home_of K (lane_behind K before)))
