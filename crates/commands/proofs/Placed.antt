-- An answer to a request, where the places and the faults are told in other words.
use Rattle.std.proofs.Common.{ℕ}
use Rattle.cbdc_types.specs.declared.answer.Answer.{Answer}
use Rattle.cbdc_types.specs.declared.answer.Answer.TheVariants as answers
use Rattle.command_answers.specs.Causes.{IsAnswerToRequest}

pub answer_by : (P Q R S : ℕ → Type 0) (written : Type 0) (a : Answer) → ((n : ℕ) → P n → Q n) → ((n : ℕ) → R n → S n)
    → IsAnswerToRequest P R written a → IsAnswerToRequest Q S written a
answer_by P Q R S written answers.Ok place read is = tt
answer_by P Q R S written answers.BadWords place read is = is
answer_by P Q R S written (answers.BadInput file at kind) place read is = place file is
answer_by P Q R S written (answers.TooMuch total) place read is = tt
answer_by P Q R S written (answers.NotReady k) place read is = tt
answer_by P Q R S written (answers.Foreign k kept asked) place read is = tt
answer_by P Q R S written (answers.NotEmpty k) place read is = tt
answer_by P Q R S written (answers.Full k used need capacity) place read is = tt
answer_by P Q R S written (answers.Unsound spot kind) place read is = tt
answer_by P Q R S written (answers.ClockEnd k stamp) place read is = tt
answer_by P Q R S written (answers.Damaged k at) place read is = tt
answer_by P Q R S written (answers.ReadFault file) place read is = read file is
answer_by P Q R S written answers.WriteFault place read is = is
answer_by P Q R S written (answers.DiskFault k) place read is = tt
answer_by P Q R S written answers.Memory place read is = tt
