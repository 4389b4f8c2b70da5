-- What was not touched is as it was.
use Rattle.std.proofs.Common.{Option, refl}
use Rattle.cbdc_types.specs.declared.answer.Answer.{Answer}
use Rattle.cbdc_types.specs.declared.answer.Answer.TheVariants as answers
use Rattle.line_text.specs.Lines.{Text}
use Rattle.command_answers.specs.Texts.{IsSilent}

pub silent_same : (t : Option Text) (a : Answer) → IsSilent t t a
silent_same t answers.Ok = tt
silent_same t answers.BadWords = refl
silent_same t (answers.BadInput file at kind) = refl
silent_same t (answers.TooMuch total) = refl
silent_same t (answers.NotReady k) = refl
silent_same t (answers.Foreign k kept asked) = refl
silent_same t (answers.NotEmpty k) = refl
silent_same t (answers.Full k used need capacity) = refl
silent_same t (answers.Unsound spot kind) = refl
silent_same t (answers.ClockEnd k stamp) = refl
silent_same t (answers.Damaged k at) = refl
silent_same t (answers.ReadFault file) = refl
silent_same t answers.WriteFault = tt
silent_same t (answers.DiskFault k) = refl
silent_same t answers.Memory = refl
