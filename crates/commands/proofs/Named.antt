-- What is said of the files that are asked for, said of the words.
use Rattle.std.proofs.Common.{ℕ, List}
use Rattle.line_text.specs.Lines.{Text}
use Rattle.cbdc_types.specs.declared.answer.Answer.{Answer}
use Rattle.cbdc_types.specs.declared.answer.Answer.TheVariants as answers
use Rattle.command_line.specs.Asked.{WordsAskFor}
use Rattle.requests.specs.declared.Request.{Request}
use Rattle.command_answers.specs.Causes.{IsAnswerToRequest}
use Rattle.commands.specs.Causes.{RequestPlace, RequestRose, IsAnswerToWords}

pub answered : (words : List Text) (b n : Text → ℕ) (r : Request) (written : Type 0) (a : Answer) → WordsAskFor words r
    → IsAnswerToRequest (RequestPlace r) (RequestRose r b n) written a → IsAnswerToWords words b n written a
answered words b n r written answers.Ok asked is = tt
answered words b n r written answers.BadWords asked is = absurd is
answered words b n r written (answers.BadInput file at kind) asked is = (r, asked, is)
answered words b n r written (answers.TooMuch total) asked is = tt
answered words b n r written (answers.NotReady k) asked is = tt
answered words b n r written (answers.Foreign k kept told) asked is = tt
answered words b n r written (answers.NotEmpty k) asked is = tt
answered words b n r written (answers.Full k used need capacity) asked is = tt
answered words b n r written (answers.Unsound place kind) asked is = tt
answered words b n r written (answers.ClockEnd k stamp) asked is = tt
answered words b n r written (answers.Damaged k at) asked is = tt
answered words b n r written (answers.ReadFault file) asked is = (r, asked, is)
answered words b n r written answers.WriteFault asked is = is
answered words b n r written (answers.DiskFault k) asked is = tt
answered words b n r written answers.Memory asked is = tt
