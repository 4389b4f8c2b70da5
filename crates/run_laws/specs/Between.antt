-- Where the wave of a file begins.
use Rattle.std.specs.Prelude.{ℕ, ◌<◌, Bool, List, take, drop}
use Rattle.cbdc_model.specs.Records.{Shape, Record}
use Rattle.cbdc_model.specs.Coins.{Output, FullTx}
use Rattle.cbdc_model.specs.World.{KeptJournals}
use Rattle.cbdc_model.specs.Waves.{IsResumed, AreFilesRun, Waves}

-- journals M between those at entry and at exit, at which the wave of the file numbered k begins: the open batches and the waves of the files before
-- it are at their end, and its own wave and those of the files behind it are still to come
pub record BeginsWave (K : Shape) (sound : FullTx → Bool) (files : List (List FullTx)) (k : ℕ) (E X M : ℕ → List Record) : Type 0 where
  pub resumed : ℕ → List Record
  pub is_resumed : IsResumed K E resumed
  pub before : AreFilesRun K sound (take k files) resumed M
  pub behind : AreFilesRun K sound (drop k files) M X

-- each file's wave begins somewhere between the journals at entry and at exit
abbrev pub BeginLaw : Type 0
BeginLaw = (K : Shape) (sound : FullTx → Bool) (files : List (List FullTx)) (k : ℕ) (E X : ℕ → List Record) → Waves K sound files E X
    → (M : ℕ → List Record) × BeginsWave K sound files k E X M

-- and where the journals at entry and at exit are kept, so are those at which a file's wave begins
abbrev pub BetweenLaw : Type 0
BetweenLaw = (K : Shape) (mint : List Output) (submissions : List FullTx) (sound : FullTx → Bool) (files : List (List FullTx)) (k : ℕ)
    (E X M : ℕ → List Record)
    → 0 < K.shards → KeptJournals K mint submissions E → KeptJournals K mint submissions X → BeginsWave K sound files k E X M
    → KeptJournals K mint submissions M
