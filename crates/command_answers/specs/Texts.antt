-- What is printed where the work was done, and where it was not.
use Rattle.std.specs.Prelude.{◌≡◌, ℕ, ◌++◌, take, Option, Some}
use Rattle.outside.specs.Images.{Tells}
use Rattle.cbdc_types.specs.declared.answer.Answer.{Answer}
use Rattle.cbdc_types.specs.declared.answer.Answer.TheVariants as answers
use Rattle.line_text.specs.Lines.{Text}

-- the sink has taken the text, or where the output failed a front of it
abbrev pub IsPrinted : Option Text → Option Text → Answer → Text → Type 0
IsPrinted before now answers.Ok text = Tells before (λ t. now ≡ Some (t ++ text))
IsPrinted before now answers.WriteFault text = Tells before (λ t. (n : ℕ) × (now ≡ Some (t ++ take n text)))
IsPrinted before now other text = Unit {0}

-- where the work was not done, nothing was printed
abbrev pub IsSilent : Option Text → Option Text → Answer → Type 0
IsSilent before now answers.Ok = Unit {0}
IsSilent before now answers.WriteFault = Unit {0}
IsSilent before now other = now ≡ before
