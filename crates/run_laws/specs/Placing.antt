-- Where the submissions of a run went.
use Rattle.std.specs.Prelude.{◌≡◌, ℕ, zero, suc, ◌*◌, ◌<◌, ◌≤◌, Bool, List, [], ◌∷◌, ◌++◌, length, Option, Some, None}
use Rattle.cbdc_model.specs.Records.{Shape, Compact, Outcome, Record, txs_of}
use Rattle.cbdc_model.specs.Ranges.{home_of}
use Rattle.cbdc_model.specs.Coins.{Output, FullTx}
use Rattle.cbdc_model.specs.World.{KeptJournals, AreIdle}
use Rattle.cbdc_model.specs.Waves.{sent_to, AreFilesRun}
use Rattle.cbdc_model.specs.Places.{PlaceIn, sized_onto, place_of, outcome_in}

-- what a lane gets of files, one after another
abbrev pub sent_of_all : Shape → (FullTx → Bool) → List (List FullTx) → ℕ → List Compact
sent_of_all K sound [] lane = []
sent_of_all K sound (file ∷ files) lane = sent_to K sound file lane ++ sent_of_all K sound files lane

-- the transaction at a place
abbrev pub tx_at : List Compact → ℕ → Option Compact
tx_at [] k = None
tx_at (t ∷ ts) zero = Some t
tx_at (t ∷ ts) (suc k) = tx_at ts k

-- the lane's new Prepares have this transaction at place q, counted over all of them, and an outcome is written down for it
pub record IsTxPlaced (lane q : ℕ) (t : Compact) (more J : List Record) : Type 0 where
  pub place : PlaceIn
  pub stands : place_of (sized_onto lane more []) q ≡ Some place
  pub lane_is : place.batch.lane ≡ lane
  pub holds : tx_at (txs_of J place.batch) place.at ≡ Some t
  pub outcome : Outcome
  pub decided : outcome_in J place ≡ Some outcome

-- each sound submission of a run has its one place in the new Prepares of its lane, and nothing else has one
abbrev pub PlaceLaw : Type 0
PlaceLaw = (K : Shape) (mint : List Output) (submissions : List FullTx) (sound : FullTx → Bool) (files : List (List FullTx)) (lane : ℕ)
    (I J : ℕ → List Record) (more : List Record)
    → 0 < K.shards → lane < K.coordinators * K.lanes → KeptJournals K mint submissions I → KeptJournals K mint submissions J → AreIdle K I
    → AreFilesRun K sound files I J → J (home_of K lane) ≡ more ++ I (home_of K lane)
    → ((q : ℕ) (t : Compact) → tx_at (sent_of_all K sound files lane) q ≡ Some t → IsTxPlaced lane q t more (J (home_of K lane)))
    × ((q : ℕ) → length (sent_of_all K sound files lane) ≤ q → place_of (sized_onto lane more []) q ≡ None)
