-- Files that hold what is asked of them.
use Rattle.std.specs.Prelude.{◌≡◌, ℕ, ◌+◌, List, [], ◌∷◌, length, Option, Some, Result, Ok}
use Rattle.outside.specs.Counts.{Rose}
use Rattle.cbdc_types.specs.declared.tx.FullTx.{FullTx}
use Rattle.client_files.specs.declared.fault.BadFile.{BadFile}
use Rattle.sentinel.specs.Files.{ReadsVerdicts}
use Rattle.sentinel.specs.declared.file.VerdictFile.{VerdictFile}
use Rattle.clap.specs.Words.{Text}
use Rattle.input_files.specs.Contents.{front, goes_on, txs_of_file}

-- the file of this name is told, and reads as this; and its count of faults does not rise
pub record HoldsFile {X : Type 0} (files : Text → Option (List ℕ)) (before now : Text → ℕ) (read : List ℕ → Result X BadFile) (name : Text)
    (held : X) : Type 0 where
  pub bytes : List ℕ
  pub told : files name ≡ Some bytes
  pub reads : read bytes ≡ Ok held
  pub steady : Rose (before name) (now name) → ⊥

-- the client files of these names hold these transactions, in order, where so many stand before them
abbrev pub HoldClients : (Text → Option (List ℕ)) → (Text → ℕ) → (Text → ℕ) → ℕ → List Text → List (List FullTx) → Type 0
HoldClients files before now count [] [] = Unit {0}
HoldClients files before now count [] (txs ∷ more) = ⊥
HoldClients files before now count (name ∷ names) [] = ⊥
HoldClients files before now count (name ∷ names) (txs ∷ more) = HoldsFile files before now (txs_of_file count) name txs
    × HoldClients files before now (count + length txs) names more

-- the verdict file of this name reads as these verdicts
pub record HoldsVerdicts (files : Text → Option (List ℕ)) (before now : Text → ℕ) (name : Text) (known : VerdictFile) : Type 0 where
  pub bytes : List ℕ
  pub told : files name ≡ Some bytes
  pub reads : ReadsVerdicts (goes_on bytes) (front bytes) (Ok known)
  pub steady : Rose (before name) (now name) → ⊥
