-- What is printed of a fault.
use Rattle.std.specs.Prelude.{◌≡◌, ◌⊎◌, ℕ, ◌++◌, List, take, Some}
use Rattle.outside.specs.Images.{Tells}
use Rattle.cbdc_types.specs.declared.answer.Answer.{Answer}
use Rattle.cbdc_types.specs.declared.answer.Answer.TheVariants as answers
use Rattle.line_text.specs.Lines.{Text}
use Rattle.printed_lines.specs.Reports.{IsFaultLine}
use Rattle.outside.specs.Counts.{Rose}
use Rattle.command_answers.specs.Scene.{Scene}
use Rattle.commands.specs.Causes.{AskedName}

-- where the work was not done, the sink has taken the line of the fault and nothing else, or it failed and has taken a front of it; a file that the
-- line speaks of is one that the words ask for
abbrev pub IsFaultPrinted : {D : Type 0} → Scene D → Scene D → List Text → Answer → Type 0
IsFaultPrinted before after words answers.Ok = Unit {0}
IsFaultPrinted before after words answers.WriteFault = Unit {0}
IsFaultPrinted before after words other = (text : Text) × IsFaultLine (AskedName words) other text
    × Tells before.printed (λ t. (after.printed ≡ Some (t ++ text))
    ⊎ (Rose before.print_faults after.print_faults × ((n : ℕ) × (after.printed ≡ Some (t ++ take n text)))))
