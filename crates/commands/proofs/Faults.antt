-- What is printed of a fault.
use Rattle.std.proofs.Common.{◌≡◌, ◌⊎◌, inl, inr, ◌++◌, ◌∙◌, ℕ, List, take, Option, Some, Result, Ok, Err, refl}
use Rattle.std.specs.Prelude.{OnErr}
use Rattle.outside.specs.Images.{Tells}
use Rattle.cbdc_types.specs.declared.answer.Answer.{Answer}
use Rattle.cbdc_types.specs.declared.answer.Answer.TheVariants as answers
use Rattle.line_text.specs.Faults.{fault_text}
use Rattle.line_text.specs.Lines.{Text, Prints}
use Rattle.printed_lines.specs.Reports.{Names}
use Rattle.outside.specs.Counts.{Rose}
use Rattle.command_answers.specs.Scene.{Scene}
use Rattle.commands.specs.Causes.{AskedName}
use Rattle.command_answers.specs.Texts.{IsSilent}
use Rattle.commands.specs.Texts.{IsFaultPrinted}

-- a text that was printed, or a front of it where the sink failed
text_printed : {E : Type 0} (old mid new : Option Text) (text : Text) (failed : Type 0) (r : Result (Unit {0}) E) → mid ≡ old → Prints mid new text r
    → OnErr r failed → Tells old (λ t. (new ≡ Some (t ++ text)) ⊎ (failed × ((n : ℕ) × (new ≡ Some (t ++ take n text)))))
text_printed old mid new text failed (Ok done) same prints cause = λ t is. inl (prints t (same ∙ is))
text_printed old mid new text failed (Err e) same prints cause = λ t is. inr (cause, prints t (same ∙ is))

pub fault_printed : {D E : Type 0} (before after : Scene D) (words : List Text) (mid : Option Text) (name : Text) (r : Result (Unit {0}) E)
    (a : Answer) → IsSilent before.printed mid a → Names (AskedName words) a name
    → Prints mid after.printed (fault_text a name) r → OnErr r (Rose before.print_faults after.print_faults) → IsFaultPrinted before after words a
fault_printed before after words mid name r answers.Ok silent named prints cause = tt
fault_printed before after words mid name r answers.BadWords silent named prints cause = (
  fault_text answers.BadWords name,
  (name, named, refl),
  text_printed before.printed mid after.printed (fault_text answers.BadWords name) (Rose before.print_faults after.print_faults) r silent prints
      cause,
)
fault_printed before after words mid name r (answers.BadInput file at kind) silent named prints cause = (
  fault_text (answers.BadInput file at kind) name,
  (name, named, refl),
  text_printed before.printed mid after.printed (fault_text (answers.BadInput file at kind) name) (Rose before.print_faults after.print_faults) r
      silent prints cause,
)
fault_printed before after words mid name r (answers.TooMuch total) silent named prints cause = (
  fault_text (answers.TooMuch total) name,
  (name, named, refl),
  text_printed before.printed mid after.printed (fault_text (answers.TooMuch total) name) (Rose before.print_faults after.print_faults) r silent
      prints cause,
)
fault_printed before after words mid name r (answers.NotReady k) silent named prints cause = (
  fault_text (answers.NotReady k) name,
  (name, named, refl),
  text_printed before.printed mid after.printed (fault_text (answers.NotReady k) name) (Rose before.print_faults after.print_faults) r silent prints
      cause,
)
fault_printed before after words mid name r (answers.Foreign k kept asked) silent named prints cause = (
  fault_text (answers.Foreign k kept asked) name,
  (name, named, refl),
  text_printed before.printed mid after.printed (fault_text (answers.Foreign k kept asked) name) (Rose before.print_faults after.print_faults) r
      silent prints cause,
)
fault_printed before after words mid name r (answers.NotEmpty k) silent named prints cause = (
  fault_text (answers.NotEmpty k) name,
  (name, named, refl),
  text_printed before.printed mid after.printed (fault_text (answers.NotEmpty k) name) (Rose before.print_faults after.print_faults) r silent prints
      cause,
)
fault_printed before after words mid name r (answers.Full k used need capacity) silent named prints cause = (
  fault_text (answers.Full k used need capacity) name,
  (name, named, refl),
  text_printed before.printed mid after.printed (fault_text (answers.Full k used need capacity) name) (Rose before.print_faults after.print_faults) r
      silent prints cause,
)
fault_printed before after words mid name r (answers.Unsound spot kind) silent named prints cause = (
  fault_text (answers.Unsound spot kind) name,
  (name, named, refl),
  text_printed before.printed mid after.printed (fault_text (answers.Unsound spot kind) name) (Rose before.print_faults after.print_faults) r silent
      prints cause,
)
fault_printed before after words mid name r (answers.ClockEnd k stamp) silent named prints cause = (
  fault_text (answers.ClockEnd k stamp) name,
  (name, named, refl),
  text_printed before.printed mid after.printed (fault_text (answers.ClockEnd k stamp) name) (Rose before.print_faults after.print_faults) r silent
      prints cause,
)
fault_printed before after words mid name r (answers.Damaged k at) silent named prints cause = (
  fault_text (answers.Damaged k at) name,
  (name, named, refl),
  text_printed before.printed mid after.printed (fault_text (answers.Damaged k at) name) (Rose before.print_faults after.print_faults) r silent
      prints cause,
)
fault_printed before after words mid name r (answers.ReadFault file) silent named prints cause = (
  fault_text (answers.ReadFault file) name,
  (name, named, refl),
  text_printed before.printed mid after.printed (fault_text (answers.ReadFault file) name) (Rose before.print_faults after.print_faults) r silent
      prints cause,
)
fault_printed before after words mid name r answers.WriteFault silent named prints cause = tt
fault_printed before after words mid name r (answers.DiskFault k) silent named prints cause = (
  fault_text (answers.DiskFault k) name,
  (name, named, refl),
  text_printed before.printed mid after.printed (fault_text (answers.DiskFault k) name) (Rose before.print_faults after.print_faults) r silent prints
      cause,
)
fault_printed before after words mid name r answers.Memory silent named prints cause = (
  fault_text answers.Memory name,
  (name, named, refl),
  text_printed before.printed mid after.printed (fault_text answers.Memory name) (Rose before.print_faults after.print_faults) r silent prints cause,
)
