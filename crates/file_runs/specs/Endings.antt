-- Whose fault ends files that are run one after another.
use Rattle.std.specs.Prelude.{◌≡◌, ◌⊎◌, ℕ, ◌<◌, Bool, List, [], ◌∷◌, ◌++◌}
use Rattle.cbdc_model.specs.Records.{Shape, Compact, Record}
use Rattle.cbdc_model.specs.Coins.{Output, FullTx}
use Rattle.cbdc_model.specs.Lanes.{IsEnd}
use Rattle.cbdc_model.specs.World.{AreIdle, KeptJournals}
use Rattle.cbdc_model.specs.Waves.{sent_to, Waves}
use Rattle.submissions.specs.Checks.{VerdictsOf, TellsSound}
use Rattle.lane_driver.specs.declared.fault.LaneFault.{LaneFault}
use Rattle.ledger_runs.specs.Least.{LaneHasRun, IsLeastFault, IsUnbegunForMemory}
use Rattle.ledger_runs.specs.Faults.{IsLaneCause}
use Rattle.ledger_runs.specs.Turning.{IsLaneOf}
use Rattle.ledger_runs.specs.Pieces.{HasBegun}
use Rattle.file_runs.specs.Runs.{IsSentPiece, HavePreparedFiles, HaveBegunFile}

-- the lane has run all that it got, or met a fault of its own, which has its cause; that memory ran out for it is one, too
abbrev pub HasRunOrMet : Shape → ℕ → List Compact → (List Compact → Type 0) → (ℕ → List Record) → (ℕ → List Record) → (ℕ → Type 0) → (ℕ → ℕ → Type 0)
    → Type 0
HasRunOrMet K lane all next I J failed may_hold = LaneHasRun K lane all I J ⊎ ((own : LaneFault) × IsLaneCause K lane next I J failed may_hold own)

-- it is the fault of the least lane that met one, each lesser lane has run all that a file sends it, and each greater one has, too, or met a fault of
-- its own
pub record EndsWave (K : Shape) (sent : ℕ → List Compact) (next : ℕ → List Compact → Type 0) (I J : ℕ → List Record) (failed : ℕ → Type 0)
    (may_hold : ℕ → ℕ → Type 0) (e : LaneFault) : Type 0 where
  pub least : IsLeastFault K sent next I J failed may_hold e
  pub greater : (lane : ℕ) → IsLaneOf K lane → least.lane < lane → HasRunOrMet K lane (sent lane) (next lane) I J failed may_hold

-- a file's: memory ran out before its wave, or `EndsWave`
abbrev pub EndsFile : Shape → VerdictsOf → List FullTx → (ℕ → List Record) → (ℕ → List Record) → (ℕ → Type 0) → (ℕ → ℕ → Type 0) → LaneFault → Type 0
EndsFile K verdicts file I J failed may_hold e =
    IsUnbegunForMemory I J e ⊎ ((sound : FullTx → Bool) → TellsSound verdicts sound
    → EndsWave K (sent_to K sound file) (IsSentPiece K verdicts file I J) I J failed may_hold e)

-- the first of more files; without one memory ran out and nothing was done; no lane has prepared anything of the files behind it, only the first
-- pieces of what it sends
abbrev pub EndsFirst : Shape → VerdictsOf → List (List FullTx) → (ℕ → List Record) → (ℕ → List Record) → (ℕ → Type 0) → (ℕ → ℕ → Type 0) → LaneFault
    → Type 0
EndsFirst K verdicts [] I J failed may_hold e = IsUnbegunForMemory I J e
EndsFirst K verdicts (file ∷ more) I J failed may_hold e = EndsFile K verdicts file I J failed may_hold e
    × (0 < K.batch → HaveBegunFile K verdicts file I J)

-- of files from journals I to J: those before have been run by all lanes, which were idle then, and the first of those behind them was ended
pub record EndsFiles (K : Shape) (verdicts : VerdictsOf) (files : List (List FullTx)) (I J : ℕ → List Record) (failed : ℕ → Type 0)
    (may_hold : ℕ → ℕ → Type 0) (e : LaneFault) : Type 0 where
  pub done : List (List FullTx)
  pub more : List (List FullTx)
  pub are : files ≡ done ++ more
  pub middle : ℕ → List Record
  pub grows : (n : ℕ) → IsEnd (I n) (middle n)
  pub onward : (n : ℕ) → IsEnd (middle n) (J n)
  pub before : HavePreparedFiles K verdicts done I middle
  pub idle : AreIdle K middle
  pub ends : EndsFirst K verdicts more middle J failed may_hold e

-- of more files the first alone has been begun: each lane has prepared the first pieces of what it sends; without one nothing was done
abbrev pub HasBegunFirst : Shape → (FullTx → Bool) → List (List FullTx) → (ℕ → List Record) → (ℕ → List Record) → Type 0
HasBegunFirst K sound [] M X = (n : ℕ) → X n ≡ M n
HasBegunFirst K sound (file ∷ more) M X = 0 < K.batch → (lane : ℕ) → IsLaneOf K lane → HasBegun K lane (sent_to K sound file lane) M X

-- files that were run or cut short, from journals E, in which batches were open, to X: the open batches and the waves of the files before are at
-- their end, those journals are kept with all lanes idle, and from there on they have grown by the first of the other files alone
pub record AreRunOrCut (K : Shape) (sound : FullTx → Bool) (files : List (List FullTx)) (mint : List Output) (E X : ℕ → List Record) : Type 0 where
  pub done : List (List FullTx)
  pub more : List (List FullTx)
  pub are : files ≡ done ++ more
  pub middle : ℕ → List Record
  pub waves : Waves K sound done E middle
  pub submissions : List FullTx
  pub kept : KeptJournals K mint submissions middle
  pub idle : AreIdle K middle
  pub onward : (n : ℕ) → IsEnd (middle n) (X n)
  pub first : HasBegunFirst K sound more middle X
