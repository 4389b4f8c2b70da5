-- What is read of client files and of the verdicts behind them.
use Rattle.std.specs.Prelude.{◌≡◌, ◌⊎◌, ℕ, List, Option, Result, Ok, Err}
use Rattle.cbdc_types.specs.declared.answer.Answer.{Answer}
use Rattle.cbdc_types.specs.declared.tx.FullTx.{FullTx}
use Rattle.sentinel.specs.Files.{ReadsVerdicts}
use Rattle.sentinel.specs.declared.file.VerdictFile.{VerdictFile}
use Rattle.sentinel.specs.declared.file.VerdictFault.{VerdictFault}
use Rattle.requests.specs.declared.FileWord.{FileWord}
use Rattle.input_files.specs.Contents.{AreRead, FirstNotRead, IsNoVerdicts, IsVerdictFaultOf}
use Rattle.input_files.specs.declared.fetched.Fetched.{Fetched}
use Rattle.clap.specs.Words.{Text}

-- the file was had, and these are its verdicts
abbrev pub AreHadVerdicts : Result Fetched Answer → VerdictFile → Type 0
AreHadVerdicts (Ok had) file = ReadsVerdicts had.more had.bytes (Ok file)
AreHadVerdicts (Err answer) file = ⊥

-- the file at this place was not had, for this answer; or it was, and has a fault that is answered so
abbrev pub AreNoHadVerdicts : ℕ → Result Fetched Answer → Answer → Type 0
AreNoHadVerdicts place (Ok had) answer = (fault : VerdictFault) × ReadsVerdicts had.more had.bytes (Err fault) × IsVerdictFaultOf place fault answer
AreNoHadVerdicts place (Err why) answer = answer ≡ why

-- a client file is the first that is not read; or all client files were read, and the verdicts are not
abbrev pub AreNoInputs : (Text → Option (List ℕ)) → (Text → ℕ) → (Text → ℕ) → List FileWord → FileWord → Answer → Type 0
AreNoInputs told before now clients verdicts answer =
    FirstNotRead told before now clients answer
    ⊎ ((handed : List (List FullTx)) × AreRead told 0 clients handed
    × IsNoVerdicts verdicts.place (told verdicts.name.now) (before verdicts.name.now) (now verdicts.name.now) answer)
