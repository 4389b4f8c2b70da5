-- What is read of a verdict file.
use Rattle.std.specs.Prelude.{◌≡◌, ◌≢◌, ◌+◌, ℕ, Bool, true, false, List, [], ◌∷◌, ◌++◌, length, Option, Some, None, Result, Ok, Err, IsSome}
use Rattle.std.specs.Map.{lookup}
use Rattle.base_types.specs.declared.faults.InputKind.{InputKind}
use Rattle.base_types.specs.declared.faults.InputKind.TheVariants.{Form, Repeated}
use Rattle.sentinel.specs.Lines.{Line, IsLine, spelled, HasNoLineEnd, is_key, said, BeginsWithLines}
use Rattle.sentinel.specs.declared.verifier.Verdict.{Verdict}
use Rattle.sentinel.specs.declared.verifier.Verdict.TheVariants.{Good, Bad, Absent}
use Rattle.sentinel.specs.declared.line.Key.{Key}
use Rattle.sentinel.specs.declared.file.VerdictFile.{VerdictFile}
use Rattle.sentinel.specs.declared.file.VerdictFault.{VerdictFault}
use Rattle.sentinel.specs.declared.file.VerdictFault.TheVariants as fault

-- nothing said is Absent
abbrev pub verdict_by : Option Bool → Verdict
verdict_by None = Absent
verdict_by (Some true) = Good
verdict_by (Some false) = Bad

-- what is kept of an input
abbrev pub kept_verdict : VerdictFile → List ℕ → ℕ → Option Bool
kept_verdict file tx index = lookup (λ (k : Key). is_key tx index k.tx k.index) file.words.entries

-- the verdict that a file gives
abbrev pub file_verdict : VerdictFile → List ℕ → ℕ → Verdict
file_verdict file tx index = verdict_by (kept_verdict file tx index)

-- what is wrong with the line behind these: it is no line, or speaks of the same input as one of them
abbrev pub IsLineWrong : Bool → List Line → List ℕ → InputKind → Type 0
IsLineWrong more lines rest Form = (rest ≢ []) × (more ≡ true → ¬ HasNoLineEnd rest)
    × ((l : Line) (behind : List ℕ) → IsLine l → rest ≢ spelled l ++ 10 ∷ behind)
IsLineWrong more lines rest Repeated = (l : Line) × (behind : List ℕ) × IsLine l × (rest ≡ spelled l ++ 10 ∷ behind)
    × IsSome (said lines l.tx l.index)
IsLineWrong more lines rest _ = ⊥

-- What is read of the first bytes of a file, which goes on behind them where `more` holds: its lines, or the
-- first wrong line, or that it is too large.
abbrev pub ReadsVerdicts : Bool → List ℕ → Result VerdictFile VerdictFault → Type 0
ReadsVerdicts more bytes (Ok file) = (more ≡ false)
    × ((lines : List Line) × BeginsWithLines bytes lines [] × ((tx : List ℕ) (index : ℕ) → kept_verdict file tx index ≡ said lines tx index))
ReadsVerdicts more bytes (Err (fault.Bad bad)) = (lines : List Line) × (rest : List ℕ) × BeginsWithLines bytes lines rest
    × (bad.line ≡ length lines + 1) × IsLineWrong more lines rest bad.kind
ReadsVerdicts more bytes (Err fault.Large) = (more ≡ true)
    × ((lines : List Line) × (rest : List ℕ) × BeginsWithLines bytes lines rest × HasNoLineEnd rest)
ReadsVerdicts more bytes (Err fault.Memory) = Unit {0}
