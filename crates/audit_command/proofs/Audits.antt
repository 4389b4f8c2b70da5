-- What an audit was of: files that were read behind another, and what is told of its verdict.
use Rattle.std.proofs.Common.{◌≡◌, ◌≤◌, ◌+◌, ◌++◌, ℕ, List, [], ◌∷◌, length, Option, Result, Ok, Err, sym, ap, append_assoc, subst, ◌∙◌, arith}
use Rattle.std.specs.Prelude.{IfOk, OnOk}
use Rattle.std.proofs.lemmas.List.{append-nil}
use Rattle.file_runs.specs.Runs.{joined}
use Rattle.cbdc_types.specs.declared.answer.Answer.{Answer}
use Rattle.cbdc_types.specs.declared.answer.Answer.TheVariants as answers
use Rattle.cbdc_model.specs.Coins.{FullTx}
use Rattle.client_files.specs.declared.fault.BadFile.{BadFile}
use Rattle.requests.specs.declared.FileWord.{FileWord}
use Rattle.line_text.specs.Lines.{Text}
use Rattle.input_files.specs.Contents.{AreRead, IsNotRead, FirstNotRead, all_txs, txs_of_file}
use Rattle.command_answers.proofs.Counts.{rose_later}

-- what is said of a result, by what holds wherever there is one
pub if_ok_and : {B F : Type 0} (P Q : B → Type 0) (X : Type 0) (o : Result B F) → ((b : B) → X → P b → Q b) → OnOk o X → IfOk o P → IfOk o Q
if_ok_and P Q X (Ok b) f x so = f b x so
if_ok_and P Q X (Err e) f x so = tt

-- one list more
pub joined_more : {A : Type 0} (lists : List (List A)) (x : List A) → joined lists ++ x ≡ joined (lists ++ x ∷ [])
joined_more [] x = sym (append-nil x)
joined_more {A} (y ∷ lists) x = append_assoc y (joined lists) x ∙ ap (λ (l : List A). y ++ l) (joined_more lists x)

-- a file that is not read, by a count of faults that was lower before
pub not_read_later : {X : Type 0} (place : ℕ) (held : Option (List ℕ)) (read : List ℕ → Result X BadFile) (before mid now : ℕ) (a : Answer)
    → before ≤ mid → IsNotRead place held read mid now a → IsNotRead place held read before now a
not_read_later place held read before mid now answers.Ok later is = is
not_read_later place held read before mid now answers.BadWords later is = is
not_read_later place held read before mid now (answers.BadInput file at kind) later is = is
not_read_later place held read before mid now (answers.TooMuch total) later is = is
not_read_later place held read before mid now (answers.NotReady k) later is = is
not_read_later place held read before mid now (answers.Foreign k kept asked) later is = is
not_read_later place held read before mid now (answers.NotEmpty k) later is = is
not_read_later place held read before mid now (answers.Full k used need capacity) later is = is
not_read_later place held read before mid now (answers.Unsound spot kind) later is = is
not_read_later place held read before mid now (answers.ClockEnd k stamp) later is = is
not_read_later place held read before mid now (answers.Damaged k at) later is = is
not_read_later place held read before mid now (answers.ReadFault file) later is = (is.0, rose_later before mid now now later (omega arith) is.1)
not_read_later place held read before mid now answers.WriteFault later is = is
not_read_later place held read before mid now (answers.DiskFault k) later is = is
not_read_later place held read before mid now answers.Memory later is = is

module _ (mid old : Text → Option (List ℕ)) (same : (name : Text) → mid name ≡ old name) where
  -- files that were read, by what they held before
  pub are_read_same : (files : List FileWord) (txs : List (List FullTx)) (n : ℕ) → AreRead mid n files txs → AreRead old n files txs
  are_read_same [] [] n are = tt
  are_read_same [] (t ∷ txs) n are = absurd are
  are_read_same (file ∷ files) [] n are = absurd are
  are_read_same (file ∷ files) (t ∷ txs) n are = (λ c told. are.0 c (same file.name.now ∙ told), are_read_same files txs (n + length t) are.1)

  pub first_later : (before between now : Text → ℕ) (files : List FileWord) (a : Answer) → ((name : Text) → before name ≤ between name)
      → FirstNotRead mid between now files a → FirstNotRead old before now files a
  first_later before between now files a later first =
      let name : Text = first.file.name.now in
      record {
        ahead = first.ahead;
        file = first.file;
        behind = first.behind;
        read = first.read;
        parts = first.parts;
        are_read = are_read_same first.ahead first.read 0 first.are_read;
        is_not = not_read_later first.file.place (old name) (txs_of_file (all_txs first.read)) (before name) (between name) (now name) a (later name)
            (subst (λ t. IsNotRead first.file.place t (txs_of_file (all_txs first.read)) (between name) (now name) a) (same name) first.is_not);
      }
