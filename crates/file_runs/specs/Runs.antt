-- Client files that are run one after another.
use Rattle.std.specs.Prelude.{◌≡◌, ℕ, ◌*◌, Bool, List, [], ◌∷◌, ◌++◌, length, Option, None, Some, slice_get}
use Rattle.cbdc_model.specs.Records.{Shape, Compact, Record}
use Rattle.cbdc_model.specs.Coins.{Output, FullTx}
use Rattle.cbdc_model.specs.Waves.{IsCut, sent_to}
use Rattle.submissions.specs.Checks.{VerdictsOf, TellsSound}
use Rattle.ledger_runs.specs.Turning.{IsLaneOf}
use Rattle.ledger_runs.specs.Pieces.{HasPreparedPieces, HasPreparedAll, IsNextOf, IsNextPiece, HasBegun}
use Rattle.ledger_runs.specs.Flying.{AllMayCome}
use Rattle.ledger_runs.specs.Lanes.{LaneOf}
use Rattle.lane_sources.specs.Sources.{all_for_lane}

-- all in one list
abbrev pub joined : {A : Type 0} → List (List A) → List A
joined [] = []
joined (xs ∷ more) = xs ++ joined more

-- from journals I to J each lane has prepared all that a file sends it
abbrev pub HavePreparedFile : Shape → VerdictsOf → List FullTx → (ℕ → List Record) → (ℕ → List Record) → Type 0
HavePreparedFile K verdicts file I J = (lane : ℕ) → IsLaneOf K lane → (sound : FullTx → Bool) → TellsSound verdicts sound
    → HasPreparedAll K lane (sent_to K sound file lane) I J

-- the next piece of what a file sends to a lane
abbrev pub IsSentPiece : Shape → VerdictsOf → List FullTx → (ℕ → List Record) → (ℕ → List Record) → ℕ → List Compact → Type 0
IsSentPiece K verdicts file I J lane txs = (sound : FullTx → Bool) → TellsSound verdicts sound
    → IsNextPiece K lane (sent_to K sound file lane) I J txs

-- these are the pieces of what files send to a lane, each file's behind those of the files before it
abbrev pub AreFilesPieces : Shape → (FullTx → Bool) → ℕ → List (List FullTx) → List (List Compact) → Type 0
AreFilesPieces K sound lane [] pieces = pieces ≡ []
AreFilesPieces K sound lane (file ∷ files) pieces =
    (own : List (List Compact)) × (more : List (List Compact)) × IsCut K.batch (sent_to K sound file lane) own
    × AreFilesPieces K sound lane files more × (pieces ≡ own ++ more)

-- from journals I to J each lane has prepared all that files send it
abbrev pub HavePreparedFiles : Shape → VerdictsOf → List (List FullTx) → (ℕ → List Record) → (ℕ → List Record) → Type 0
HavePreparedFiles K verdicts files I J =
    (lane : ℕ) → IsLaneOf K lane → (sound : FullTx → Bool) → TellsSound verdicts sound
    → (pieces : List (List Compact)) × AreFilesPieces K sound lane files pieces × HasPreparedPieces K lane pieces I J

-- the next of them
abbrev pub IsFilesPiece : Shape → VerdictsOf → List (List FullTx) → (ℕ → List Record) → (ℕ → List Record) → ℕ → List Compact → Type 0
IsFilesPiece K verdicts files I J lane txs =
    (sound : FullTx → Bool) → TellsSound verdicts sound
    → (pieces : List (List Compact)) × AreFilesPieces K sound lane files pieces × IsNextOf K lane pieces I J txs

-- where what is in flight may come next at its node of journals I, so may it at journals J, with more submissions
abbrev pub FliesWith : Shape → List FullTx → (ℕ → List Record) → (ℕ → List Record) → (ℕ → Option Record) → (ℕ → Option Record) → List Output
    → List FullTx → Type 0
FliesWith K more I J before after mint submissions = AllMayCome K mint submissions I before → AllMayCome K mint (submissions ++ more) J after

-- from journals I to J each lane has prepared the first of the pieces that a file sends it, in order, and nothing else
abbrev pub HaveBegunFile : Shape → VerdictsOf → List FullTx → (ℕ → List Record) → (ℕ → List Record) → Type 0
HaveBegunFile K verdicts file I J = (lane : ℕ) → IsLaneOf K lane → (sound : FullTx → Bool) → TellsSound verdicts sound
    → HasBegun K lane (sent_to K sound file lane) I J

-- of those that files send it
abbrev pub HaveBegunFiles : Shape → VerdictsOf → List (List FullTx) → (ℕ → List Record) → (ℕ → List Record) → Type 0
HaveBegunFiles K verdicts files I J = (lane : ℕ) → IsLaneOf K lane → (sound : FullTx → Bool) → TellsSound verdicts sound
    → (done : List (List Compact)) × (more : List (List Compact)) × AreFilesPieces K sound lane files (done ++ more)
    × HasPreparedPieces K lane done I J

-- a lane for each of the ledger's, which gets what the file sends it, has done nothing and has not stopped
pub record AreLanesOf (K : Shape) (verdicts : VerdictsOf) (file : List FullTx) (lanes : List LaneOf) : Type 0 where
  pub count : length lanes ≡ K.coordinators * K.lanes
  pub each : (n : ℕ) (x : LaneOf) → slice_get lanes n ≡ Some x → x.txs ≡ all_for_lane K verdicts file n
  pub fresh : (n : ℕ) (x : LaneOf) → slice_get lanes n ≡ Some x → x.fault ≡ None
  pub untold : (n : ℕ) (x : LaneOf) → slice_get lanes n ≡ Some x → (x.decided.items ≡ []) × (x.batches ≡ 0)
