-- What runs tell of what they did.
use Rattle.std.specs.Prelude.{◌≡◌, ℕ, ◌+◌, List, [], ◌∷◌, Option}
use Rattle.outside.specs.declared.disk.Disk.{Ghosts}
use Rattle.cbdc_model.specs.Records.{Shape, Record}
use Rattle.cbdc_model.specs.Coins.{Output, FullTx}
use Rattle.shard_core.specs.Counts.{CountsUnspent}
use Rattle.submissions.specs.Checks.{VerdictsOf}
use Rattle.file_runs.specs.Telling.{TellsRun}
use Rattle.printed_lines.specs.Unspent.{IsUnspentCount}
use Rattle.rack_runs.specs.Runs.{IsRun}
use Rattle.file_runs.specs.declared.ran.Ran.{Ran}

-- how many hashes are unspent in the journals of some shards
abbrev pub CountAll : List (List Record) → ℕ → Type 0
CountAll [] n = n ≡ 0
CountAll (J ∷ more) n = (own : ℕ) × (rest : ℕ) × CountsUnspent J own × CountAll more rest × (n ≡ own + rest)

-- `IsRun` holds, and the run tells what it did, by the journals at entry and those at its exit
pub record IsRunTold {D : Type 0} (device : Ghosts D) (held : ℕ → Option D) (verdicts : VerdictsOf) (files : List (List FullTx)) (ran : Ran)
    (K : Shape) (mint : List Output) (submissions : List FullTx) (E : ℕ → List Record) : Type 0 where
  pub run : IsRun device held verdicts files K mint submissions E
  pub tells : TellsRun K verdicts files E run.exit ran.resumed.items ran.waves.items
  pub unspent : IsUnspentCount K run.exit ran.unspent
