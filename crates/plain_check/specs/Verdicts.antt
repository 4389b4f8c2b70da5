-- Verdicts in a list, by place: Absent past its end.
use Rattle.std.specs.Prelude.{ℕ, List, slice_index_or}
use Rattle.sentinel.specs.declared.verifier.Verdict.{Verdict}
use Rattle.sentinel.specs.declared.verifier.Verdict.TheVariants.{Absent}

-- verdicts of the program as those of the definitions
abbrev pub verdicts_in : List Verdict → ℕ → Verdict
verdicts_in vs i = slice_index_or vs i Absent
