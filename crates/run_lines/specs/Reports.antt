-- What is written of a run.
use Rattle.std.specs.Prelude.{Option, Result}
use Rattle.line_text.specs.Lines.{Prints, Text}
use Rattle.line_text.specs.declared.WriteFault.{WriteFault}
use Rattle.file_runs.specs.declared.ran.Ran.{Ran}
use Rattle.run_lines.specs.Told.{IsCountable, ran_text}

-- the lines of a run whose numbers fit their fields are written, or a beginning of them
pub record Reports (before now : Option Text) (ran : Ran) (result : Result (Unit {0}) WriteFault) : Type 0 where
  pub prints : IsCountable ran → Prints before now (ran_text ran) result
