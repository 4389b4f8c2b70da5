-- What was done, with another text that was printed.
use Rattle.std.proofs.Common.{◌≡◌, ◌++◌, ℕ, List, [], take, Option, Some, Result, Ok, Err, ◌∙◌, ap}
use Rattle.std.proofs.Math.Seq.{take-nil}
use Rattle.std.proofs.lemmas.List.{append-nil}
use Rattle.outside.specs.declared.disk.Disk.{Ghosts}
use Rattle.cbdc_types.specs.declared.answer.Answer.{Answer}
use Rattle.cbdc_types.specs.declared.answer.Answer.TheVariants as answers
use Rattle.requests.specs.declared.Request.{Request}
use Rattle.requests.specs.declared.Request.TheVariants.{Init, Run, Recover, Status, Audit, Gen, Show}
use Rattle.line_text.specs.Lines.{Text, Prints}
use Rattle.line_text.specs.Faults.{fault_text}
use Rattle.command_answers.specs.Scene.{Scene}
use Rattle.rack_ledgers.specs.Racked.{Disks}
use Rattle.init_command.proofs.Did.{init_by}
use Rattle.commands.specs.Exact.{IsEndedLater}
use Rattle.commands.specs.Left.{AskedLeaves, RequestLeaves}
use Rattle.commands.specs.Outcomes.{AskedWhy, Did, Why}
use Rattle.command_answers.specs.Texts.{IsPrinted}

-- the scene of these, where an output took this
abbrev pub behind : {D : Type 0} → (Text → Option (List ℕ)) → (Text → ℕ) → Disks D → Option Text → ℕ → Scene D
behind file file_faults disks printed print_faults =
    record { file = file; file_faults = file_faults; disks = disks; printed = printed; print_faults = print_faults }

module _ {D : Type 0} (device : Ghosts D) (before : Scene D) (file : Text → Option (List ℕ)) (file_faults : Text → ℕ) (disks : Disks D)
    (mid now : Option Text) (mid_faults now_faults : ℕ)
    (a : Answer) (by : (text : Text) → IsPrinted before.printed mid a text → IsPrinted before.printed now a text) where
  pub did_by : (r : Request) → Did device before (behind file file_faults disks mid mid_faults) r a
      → Did device before (behind file file_faults disks now now_faults) r a
  did_by (Init shape mint) is = init_by device before.file before.disks disks (IsPrinted before.printed mid a) (IsPrinted before.printed now a) by
      shape mint is
  did_by (Run verdicts clients options) is = record {
    handed = is.handed;
    known = is.known;
    read = is.read;
    verdicts_read = is.verdicts_read;
    caused = is.caused;
    ran = λ K mint submissions E within shows kept.
        let told = is.ran K mint submissions E within shows kept in
        record { run = told.run; text = told.text; lines = told.lines; prints = by told.text told.prints; settled = told.settled; free = told.free };
  }
  did_by Recover is = (
    is.0,
    λ K mint submissions E within shows kept.
        let told = is.1 K mint submissions E within shows kept in
        record { recovered = told.recovered; text = told.text; lines = told.lines; prints = by told.text told.prints },
  )
  did_by (Status hashes) is =
      record {
        shape = is.shape;
        genesis = is.genesis;
        journals = is.journals;
        limits = is.limits;
        opened = is.opened;
        room = is.room;
        back = is.back;
        holds = is.holds;
        prints = by _ is.prints;
      }
  did_by (Audit mint clients) is = record { totals = is.totals; was = is.was; sentence = is.sentence; prints = by _ is.prints }
  did_by (Gen shape seed count options) is = (is.0, (is.1.0, is.1.1, by is.1.0 is.1.2))
  did_by (Show text) is = by _ is

-- why it was not done, and what is left, is the same whatever more is printed
module _ {D : Type 0} (device : Ghosts D) (before : Scene D) (file : Text → Option (List ℕ)) (file_faults : Text → ℕ) (disks : Disks D)
    (mid now : Option Text) (mid_faults now_faults : ℕ) (a : Answer) where
  abbrev Mid : Scene D
  Mid = behind file file_faults disks mid mid_faults

  abbrev Now : Scene D
  Now = behind file file_faults disks now now_faults

  why_same : (r : Request) → Why device before Mid r a → Why device before Now r a
  why_same (Init shape mint) is = is
  why_same (Run verdicts clients options) is = is
  why_same Recover is = is
  why_same (Status hashes) is = is
  why_same (Audit mint clients) is = is
  why_same (Gen shape seed count options) is = is
  why_same (Show text) is = is

  pub why_by : (words : List Text) → AskedWhy device before Mid words a → AskedWhy device before Now words a
  why_by words (r, asked, is) = (r, asked, why_same r is)

  left_same : (r : Request) → RequestLeaves device before Mid r a → RequestLeaves device before Now r a
  left_same (Init shape mint) is = is
  left_same (Run verdicts clients options) is = is
  left_same Recover is = is
  left_same (Status hashes) is = is
  left_same (Audit mint clients) is = is
  left_same (Gen shape seed count options) is = is
  left_same (Show text) is = is

  pub left_by : (words : List Text) → AskedLeaves device before Mid words a → AskedLeaves device before Now words a
  left_by words (r, asked, is) = (r, asked, left_same r is)

  pub later_by : (r : Request) → IsEndedLater device before Now r a → IsEndedLater device before Mid r a
  later_by (Init shape mint) is = is
  later_by (Run verdicts clients options) is = is
  later_by Recover is = is
  later_by (Status hashes) is = is
  later_by (Audit mint clients) is = is
  later_by (Gen shape seed count options) is = is
  later_by (Show text) is = is

-- nothing more was printed
nothing_more : {E : Type 0} (mid new : Option Text) (t : Text) (r : Result (Unit {0}) E) → Prints mid new [] r → mid ≡ Some t → new ≡ Some t
nothing_more mid new t (Ok done) is at = is t at ∙ ap (λ (l : Text). Some l) (append-nil t)
nothing_more mid new t (Err e) is at =
    let (n, same) = is t at in
    same ∙ ap (λ (l : Text). Some l) (ap (λ (l : Text). t ++ l) (take-nil n) ∙ append-nil t)

-- all was done, so there is no line of a fault behind it
pub printed_still : {E : Type 0} (old mid new : Option Text) (name text : Text) (r : Result (Unit {0}) E) (a : Answer)
    → Prints mid new (fault_text a name) r → IsPrinted old mid a text → IsPrinted old new a text
printed_still old mid new name text r answers.Ok more is = λ t at. nothing_more mid new (t ++ text) r more (is t at)
printed_still old mid new name text r answers.WriteFault more is = λ t at. let (n, front) = is t at in
    (n, nothing_more mid new (t ++ take n text) r more front)
printed_still old mid new name text r other more is = tt
