-- What is read of the files that words name, and why one is not read.
use Rattle.std.specs.Prelude.{◌≡◌, ◌⊎◌, ℕ, ◌+◌, nat_lt, Bool, List, [], ◌∷◌, ◌++◌, length, take, Option, Result, Ok, Err}
use Rattle.outside.specs.Counts.{Rose}
use Rattle.outside.specs.Images.{Tells}
use Rattle.cbdc_types.specs.declared.answer.Answer.{Answer}
use Rattle.cbdc_types.specs.declared.answer.Answer.TheVariants as answers
use Rattle.base_types.specs.declared.faults.InputKind.TheVariants.{Large}
use Rattle.cbdc_types.specs.declared.tx.Output.{Output}
use Rattle.cbdc_types.specs.declared.tx.FullTx.{FullTx}
use Rattle.client_files.specs.Files.{clients_in, mint_in}
pub use Rattle.client_files.specs.Files.{front, goes_on}
use Rattle.client_files.specs.declared.fault.BadFile.{BadFile}
use Rattle.client_files.specs.declared.fault.FileFault.{FileFault}
use Rattle.client_files.specs.declared.fault.FileFault.TheVariants.{Bad, Memory}
use Rattle.client_files.specs.declared.fault.StreamFault.{StreamFault}
use Rattle.client_files.specs.declared.fault.StreamFault.TheVariants as stream_fault
use Rattle.sentinel.specs.Files.{ReadsVerdicts}
use Rattle.sentinel.specs.declared.file.VerdictFile.{VerdictFile}
use Rattle.sentinel.specs.declared.file.VerdictFault.{VerdictFault}
use Rattle.sentinel.specs.declared.file.VerdictFault.TheVariants as verdict_fault
use Rattle.requests.specs.declared.FileWord.{FileWord}
use Rattle.clap.specs.Words.{Text}

-- the transactions of a client file, where so many stand in the files before it
abbrev pub txs_of_file : ℕ → List ℕ → Result (List FullTx) BadFile
txs_of_file before c = clients_in before (goes_on c) (front c)

-- the outputs of a mint file
abbrev pub mint_of_file : List ℕ → Result (List Output) BadFile
mint_of_file c = mint_in (goes_on c) (front c)

-- the file at this place of the words is outside its grammar, there; or its count of faults rose; or memory ran out
abbrev pub IsNotRead : {X : Type 0} → ℕ → Option (List ℕ) → (List ℕ → Result X BadFile) → ℕ → ℕ → Answer → Type 0
IsNotRead place told read before now (answers.BadInput file at kind) = (file ≡ place)
    × Tells told (λ c. read c ≡ Err (record { at = at; kind = kind }))
IsNotRead place told read before now (answers.ReadFault file) = (file ≡ place) × Rose before now
IsNotRead place told read before now answers.Memory = Unit {0}
IsNotRead place told read before now other = ⊥

-- the client files hold these transactions, in order, where so many stand before them
abbrev pub AreRead : (Text → Option (List ℕ)) → ℕ → List FileWord → List (List FullTx) → Type 0
AreRead told before [] [] = Unit {0}
AreRead told before [] (txs ∷ more) = ⊥
AreRead told before (file ∷ files) [] = ⊥
AreRead told before (file ∷ files) (txs ∷ more) = Tells (told file.name.now) (λ c. txs_of_file before c ≡ Ok txs)
    × AreRead told (before + length txs) files more

-- the number of transactions of some files
abbrev pub all_txs : List (List FullTx) → ℕ
all_txs [] = 0
all_txs (txs ∷ more) = length txs + all_txs more

-- one of the client files is the first that is not read
pub record FirstNotRead (told : Text → Option (List ℕ)) (before now : Text → ℕ) (files : List FileWord) (answer : Answer) : Type 0 where
  pub ahead : List FileWord
  pub file : FileWord
  pub behind : List FileWord
  pub read : List (List FullTx)
  pub parts : files ≡ ahead ++ file ∷ behind
  pub are_read : AreRead told 0 ahead read
  pub is_not : IsNotRead file.place (told file.name.now) (txs_of_file (all_txs read)) (before file.name.now) (now file.name.now) answer

-- the verdicts of a file, by its lines, where its content is told
abbrev pub AreVerdicts : Option (List ℕ) → VerdictFile → Type 0
AreVerdicts told file = Tells told (λ c. ReadsVerdicts (goes_on c) (front c) (Ok file))

-- the verdict file at this place of the words has a bad line, the first one, or is too large; or its count of faults rose; or memory ran out
abbrev pub IsNoVerdicts : ℕ → Option (List ℕ) → ℕ → ℕ → Answer → Type 0
IsNoVerdicts place told before now (answers.BadInput file at kind) =
    (file ≡ place) × Tells told (λ c. ReadsVerdicts (goes_on c) (front c) (Err (verdict_fault.Bad (record { line = at; kind = kind })))
    ⊎ (ReadsVerdicts (goes_on c) (front c) (Err verdict_fault.Large) × (at ≡ 1073741824) × (kind ≡ Large)))
IsNoVerdicts place told before now (answers.ReadFault file) = (file ≡ place) × Rose before now
IsNoVerdicts place told before now answers.Memory = Unit {0}
IsNoVerdicts place told before now other = ⊥

-- a file that could not be had: its count of faults rose, or memory ran out
abbrev pub IsUnfetched : ℕ → ℕ → ℕ → Answer → Type 0
IsUnfetched place before now (answers.ReadFault file) = (file ≡ place) × Rose before now
IsUnfetched place before now answers.Memory = Unit {0}
IsUnfetched place before now other = ⊥

-- what a fault of the file at this place of the words is answered with: its bad place, or that memory ran out
abbrev pub IsFileFaultOf : ℕ → FileFault → Answer → Type 0
IsFileFaultOf place (Bad bad) answer = answer ≡ answers.BadInput place bad.at bad.kind
IsFileFaultOf place Memory answer = answer ≡ answers.Memory

-- what a fault of a client file, which is read piece by piece, is answered with: its bad place, a fault of its reading, or that memory ran out
abbrev pub IsStreamFaultOf : ℕ → StreamFault → Answer → Type 0
IsStreamFaultOf place (stream_fault.Bad bad) answer = answer ≡ answers.BadInput place bad.at bad.kind
IsStreamFaultOf place stream_fault.ReadFault answer = answer ≡ answers.ReadFault place
IsStreamFaultOf place stream_fault.Memory answer = answer ≡ answers.Memory

-- what a fault of the verdict file is answered with: its bad line, that it is too large, or that memory ran out
abbrev pub IsVerdictFaultOf : ℕ → VerdictFault → Answer → Type 0
IsVerdictFaultOf place (verdict_fault.Bad bad) answer = answer ≡ answers.BadInput place bad.line bad.kind
IsVerdictFaultOf place verdict_fault.Large answer = answer ≡ answers.BadInput place 1073741824 Large
IsVerdictFaultOf place verdict_fault.Memory answer = answer ≡ answers.Memory
