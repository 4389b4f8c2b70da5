-- What a command promises, facet by facet, as relations between the scene that it finds and the one that it leaves; and what it needs.
use Rattle.std.specs.Prelude.{◌≡◌, ◌⊎◌, ◌≤◌, ℕ, Bool, false, List, Option}
use Rattle.line_text.specs.Lines.{Text}
use Rattle.outside.specs.Counts.{Rose}
use Rattle.cbdc_types.specs.declared.answer.Answer.{Answer}
use Rattle.cbdc_model.specs.Coins.{FullTx}
use Rattle.command_answers.specs.Causes.{IsAnswerToRequest, HasToldCause, IsWell}
use Rattle.command_answers.specs.Left.{IsBeforeDisks}
use Rattle.command_answers.specs.Scene.{Scene}
use Rattle.rack_ledgers.specs.Racked.{Disks}
use Rattle.command_answers.specs.Texts.{IsPrinted, IsSilent}

-- What a command needs: which files, and whether a rack.
pub record Needs : Type 1 where
  -- one of its files has this place, this place and this name, or this place and a count of faults that rose
  pub place : ℕ → Type 0
  pub names : ℕ → Text → Type 0
  pub rose : (Text → ℕ) → (Text → ℕ) → ℕ → Type 0
  -- these are the transactions of its files, which it hands in
  pub hands_in : (Text → Option (List ℕ)) → List FullTx → Type 0
  -- it is about no rack; it needs no file; its numbers are within their limits
  pub of_no_rack : Type 0
  pub of_no_file : Type 0
  pub sized : Type 0

-- What a command promises over disks of this kind. A new command says all of it, and all that it needs.
pub record Promise (D : Type 0) : Type 1 where
  -- what was done where it came through, by what files hold, by the disks before and behind it, and by which texts were printed
  pub did : (Text → Option (List ℕ)) → Disks D → Disks D → (Text → Type 0) → Type 0
  -- why it was not done, and what it leaves then
  pub why : Scene D → Scene D → Answer → Type 0
  pub leaves : Scene D → Scene D → Answer → Type 0
  -- it ended behind the opening of the ledger
  pub ended : Scene D → Scene D → Answer → Type 0
  -- where it came through or ended later, no refusal had its cause in the disks
  pub exact : Scene D → Type 0
  -- nothing hinders it
  pub unhindered : Scene D → Scene D → Type 0

-- A command did what it promises, from one scene to another, with this answer.
pub record HasKept {D : Type 0} (n : Needs) (p : Promise D) (before after : Scene D) (rack_same inbox_same : Type 0) (answer : Answer) : Type 0 where
  -- a bad file has its place, and a fault of reading or writing its cause
  pub cause : IsAnswerToRequest n.place (n.rose before.file_faults after.file_faults) (Rose before.print_faults after.print_faults) answer
  pub did : IsWell answer → p.did before.file before.disks after.disks (IsPrinted before.printed after.printed answer)
  pub why : HasToldCause (p.why before after) answer
  -- the rack is as it was where no disk was taken, and no file was read where none is needed
  pub untouched : IsBeforeDisks answer → rack_same
  pub spared : n.of_no_rack → rack_same
  pub unread : n.of_no_file → inbox_same
  pub inbox : (name : Text) → after.file name ≡ before.file name
  pub left : (IsWell answer → ⊥) → rack_same ⊎ p.leaves before after answer
  pub silent : IsSilent before.printed after.printed answer
  pub written_later : before.print_faults ≤ after.print_faults

-- no submission is sound where there are none
abbrev pub none_sound : FullTx → Bool
none_sound t = false
