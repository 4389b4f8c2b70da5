-- Places inside and outside a range.
use Rattle.std.proofs.Common.{◌≢◌, ◌≤◌, ◌<◌, ℕ, arith, ⊎_elim}
use Rattle.cbdc_types.specs.declared.answer.Answer.{Answer}
use Rattle.cbdc_types.specs.declared.answer.Answer.TheVariants as answers
use Rattle.rack_ledgers.specs.Places.{IsOutsideRange, IsOpening}

-- a place outside is none inside
pub not_outside : {first end n m : ℕ} → IsOutsideRange first end n → first ≤ m → m < end → n ≢ m
not_outside outside ge lt same = ⊎_elim (λ below. absurd (omega arith)) (λ above. absurd (omega arith)) outside

-- a fault's cause stands for a longer stretch of time
pub opening_later : (node before mid now later : ℕ) (a : Answer) → before ≤ mid → now ≤ later → IsOpening node mid now a
    → IsOpening node before later a
opening_later node b m n l (answers.NotReady k) le ge is = is
opening_later node b m n l (answers.Damaged k at) le ge is = is
opening_later node b m n l (answers.Full k used need capacity) le ge is = is
opening_later node b m n l (answers.Foreign k kept asked) le ge is = is
opening_later node b m n l (answers.DiskFault k) le ge is = (is.0, omega (arith, is.1))
opening_later node b m n l answers.Memory le ge is = tt
opening_later node b m n l answers.Ok le ge is = is
opening_later node b m n l answers.BadWords le ge is = is
opening_later node b m n l (answers.BadInput file at kind) le ge is = is
opening_later node b m n l (answers.TooMuch total) le ge is = is
opening_later node b m n l (answers.NotEmpty k) le ge is = is
opening_later node b m n l (answers.Unsound place kind) le ge is = is
opening_later node b m n l (answers.ClockEnd k stamp) le ge is = is
opening_later node b m n l (answers.ReadFault file) le ge is = is
opening_later node b m n l answers.WriteFault le ge is = is
