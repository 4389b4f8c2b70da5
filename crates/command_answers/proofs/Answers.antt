-- What a part of the work answers, as an answer of the whole.
use Rattle.std.proofs.Common.{◌≡◌, ℕ, List, [], ◌∷◌, ◌++◌, ◌≤◌, length, slice_get, Option, Some, Result, refl, sym, subst, arith}
use Rattle.outside.specs.Counts.{Rose}
use Rattle.cbdc_types.specs.declared.answer.Answer.{Answer}
use Rattle.cbdc_types.specs.declared.answer.Answer.TheVariants as answers
use Rattle.client_files.specs.declared.fault.BadFile.{BadFile}
use Rattle.requests.specs.declared.FileWord.{FileWord}
use Rattle.line_text.specs.Lines.{Text}
use Rattle.input_files.specs.Contents.{IsNotRead, IsNoVerdicts, FirstNotRead, txs_of_file, all_txs}
use Rattle.command_answers.proofs.Counts.{rose_later}
use Rattle.command_answers.specs.Causes.{IsReadOrNodeFault, IsAnswerToRequest, HasToldCause, IsWell, OnePlace, OneRose}

pub fault_done : (named read : ℕ → Type 0) (written : Type 0) (a : Answer) → IsReadOrNodeFault named read a → IsAnswerToRequest named read written a
fault_done named read written answers.Ok is = absurd is
fault_done named read written answers.BadWords is = absurd is
fault_done named read written (answers.BadInput file at kind) is = is
fault_done named read written (answers.TooMuch total) is = tt
fault_done named read written (answers.NotReady k) is = tt
fault_done named read written (answers.Foreign k kept asked) is = tt
fault_done named read written (answers.NotEmpty k) is = tt
fault_done named read written (answers.Full k used need capacity) is = tt
fault_done named read written (answers.Unsound place kind) is = tt
fault_done named read written (answers.ClockEnd k stamp) is = tt
fault_done named read written (answers.Damaged k at) is = tt
fault_done named read written (answers.ReadFault file) is = is
fault_done named read written answers.WriteFault is = absurd is
fault_done named read written (answers.DiskFault k) is = tt
fault_done named read written answers.Memory is = tt

pub not_read_fault : {X : Type 0} (place : ℕ) (told : Option (List ℕ)) (read : List ℕ → Result X BadFile) (before now : ℕ) (named rose : ℕ → Type 0)
    → ((file : ℕ) → file ≡ place → named file) → ((file : ℕ) → file ≡ place → Rose before now → rose file) → (a : Answer)
    → IsNotRead place told read before now a → IsReadOrNodeFault named rose a
not_read_fault place told read before now named rose has of answers.Ok is = absurd is
not_read_fault place told read before now named rose has of answers.BadWords is = absurd is
not_read_fault place told read before now named rose has of (answers.BadInput file at kind) is = has file is.0
not_read_fault place told read before now named rose has of (answers.TooMuch total) is = absurd is
not_read_fault place told read before now named rose has of (answers.NotReady k) is = absurd is
not_read_fault place told read before now named rose has of (answers.Foreign k kept asked) is = absurd is
not_read_fault place told read before now named rose has of (answers.NotEmpty k) is = absurd is
not_read_fault place told read before now named rose has of (answers.Full k used need capacity) is = absurd is
not_read_fault place told read before now named rose has of (answers.Unsound spot kind) is = absurd is
not_read_fault place told read before now named rose has of (answers.ClockEnd k stamp) is = absurd is
not_read_fault place told read before now named rose has of (answers.Damaged k at) is = absurd is
not_read_fault place told read before now named rose has of (answers.ReadFault file) is = of file is.0 is.1
not_read_fault place told read before now named rose has of answers.WriteFault is = absurd is
not_read_fault place told read before now named rose has of (answers.DiskFault k) is = absurd is
not_read_fault place told read before now named rose has of answers.Memory is = tt

there : {A : Type 0} (xs ys : List A) (y : A) → slice_get (xs ++ y ∷ ys) (length xs) ≡ Some y
there [] ys y = refl
there (x ∷ xs) ys y = there xs ys y

-- the first of some files that is not read
pub first_fault : (held : Text → Option (List ℕ)) (before now : Text → ℕ) (files : List FileWord) (named rose : ℕ → Type 0)
    → ((place : ℕ) → OnePlace files place → named place) → ((place : ℕ) → OneRose before now files place → rose place)
    → (a : Answer) → FirstNotRead held before now files a → IsReadOrNodeFault named rose a
first_fault held before now files named rose has of a is =
    let at_place : slice_get files (length is.ahead) ≡ Some is.file =
    subst (λ fs. slice_get fs (length is.ahead) ≡ Some is.file) (sym is.parts) (there is.ahead is.behind is.file) in
    not_read_fault is.file.place (held is.file.name.now) (txs_of_file (all_txs is.read)) (before is.file.name.now) (now is.file.name.now) named rose
    (λ place at. has place (length is.ahead, is.file, at_place, at))
    (λ place at risen. of place (length is.ahead, is.file, at_place, (at, risen))) a is.is_not

-- a count that rose behind another time rose
pub one_later : (before mid now : Text → ℕ) (files : List FileWord) (place : ℕ) → ((name : Text) → before name ≤ mid name)
    → OneRose mid now files place → OneRose before now files place
one_later before mid now files place later (k, file, at, (is, rose)) = (
  k,
  file,
  at,
  (is, rose_later (before file.name.now) (mid file.name.now) (now file.name.now) (now file.name.now) (later file.name.now) (omega arith) rose),
)

pub told : (cause : Answer → Type 0) (a : Answer) → cause a → HasToldCause cause a
told cause answers.Ok is = tt
told cause answers.BadWords is = tt
told cause (answers.BadInput file at kind) is = is
told cause (answers.TooMuch total) is = is
told cause (answers.NotReady k) is = is
told cause (answers.Foreign k kept asked) is = is
told cause (answers.NotEmpty k) is = is
told cause (answers.Full k used need capacity) is = is
told cause (answers.Unsound spot kind) is = is
told cause (answers.ClockEnd k stamp) is = is
told cause (answers.Damaged k at) is = is
told cause (answers.ReadFault file) is = is
told cause answers.WriteFault is = tt
told cause (answers.DiskFault k) is = is
told cause answers.Memory is = tt

-- another cause where the one was
pub told_by : (P Q : Answer → Type 0) (a : Answer) → ((b : Answer) → P b → Q b) → HasToldCause P a → HasToldCause Q a
told_by P Q answers.Ok f is = tt
told_by P Q answers.BadWords f is = tt
told_by P Q (answers.BadInput file at kind) f is = f (answers.BadInput file at kind) is
told_by P Q (answers.TooMuch total) f is = f (answers.TooMuch total) is
told_by P Q (answers.NotReady k) f is = f (answers.NotReady k) is
told_by P Q (answers.Foreign k kept asked) f is = f (answers.Foreign k kept asked) is
told_by P Q (answers.NotEmpty k) f is = f (answers.NotEmpty k) is
told_by P Q (answers.Full k used need capacity) f is = f (answers.Full k used need capacity) is
told_by P Q (answers.Unsound spot kind) f is = f (answers.Unsound spot kind) is
told_by P Q (answers.ClockEnd k stamp) f is = f (answers.ClockEnd k stamp) is
told_by P Q (answers.Damaged k at) f is = f (answers.Damaged k at) is
told_by P Q (answers.ReadFault file) f is = f (answers.ReadFault file) is
told_by P Q answers.WriteFault f is = tt
told_by P Q (answers.DiskFault k) f is = f (answers.DiskFault k) is
told_by P Q answers.Memory f is = tt

pub no_verdicts_later : (place : ℕ) (held : Option (List ℕ)) (before mid now : ℕ) (a : Answer) → before ≤ mid → IsNoVerdicts place held mid now a
    → IsNoVerdicts place held before now a
no_verdicts_later place held before mid now answers.Ok later is = is
no_verdicts_later place held before mid now answers.BadWords later is = is
no_verdicts_later place held before mid now (answers.BadInput file at kind) later is = is
no_verdicts_later place held before mid now (answers.TooMuch total) later is = is
no_verdicts_later place held before mid now (answers.NotReady k) later is = is
no_verdicts_later place held before mid now (answers.Foreign k kept asked) later is = is
no_verdicts_later place held before mid now (answers.NotEmpty k) later is = is
no_verdicts_later place held before mid now (answers.Full k used need capacity) later is = is
no_verdicts_later place held before mid now (answers.Unsound spot kind) later is = is
no_verdicts_later place held before mid now (answers.ClockEnd k stamp) later is = is
no_verdicts_later place held before mid now (answers.Damaged k at) later is = is
no_verdicts_later place held before mid now (answers.ReadFault file) later is = (is.0, rose_later before mid now now later (omega arith) is.1)
no_verdicts_later place held before mid now answers.WriteFault later is = is
no_verdicts_later place held before mid now (answers.DiskFault k) later is = is
no_verdicts_later place held before mid now answers.Memory later is = is

pub well_told : (cause : Answer → Type 0) (a : Answer) → IsWell a → HasToldCause cause a
well_told cause answers.Ok is = tt
well_told cause answers.BadWords is = tt
well_told cause (answers.BadInput file at kind) is = absurd is
well_told cause (answers.TooMuch total) is = absurd is
well_told cause (answers.NotReady k) is = absurd is
well_told cause (answers.Foreign k kept asked) is = absurd is
well_told cause (answers.NotEmpty k) is = absurd is
well_told cause (answers.Full k used need capacity) is = absurd is
well_told cause (answers.Unsound spot kind) is = absurd is
well_told cause (answers.ClockEnd k stamp) is = absurd is
well_told cause (answers.Damaged k at) is = absurd is
well_told cause (answers.ReadFault file) is = absurd is
well_told cause answers.WriteFault is = tt
well_told cause (answers.DiskFault k) is = absurd is
well_told cause answers.Memory is = tt
