-- A ledger that was made, and the numbers that are told of it.
use Rattle.std.proofs.Common.{◌≡◌, ◌<◌, ◌≤◌, ℕ, List, [], length, reverse, Option, Result, Ok, Err, ◌∙◌, ap, sym, subst, refl}
use Rattle.std.specs.Prelude.{IfOk, OnOk}
use Rattle.outside.specs.Images.{Tells}
use Rattle.outside.specs.declared.disk.Disk.{Ghosts}
use Rattle.cbdc_model.specs.Records.{Shape}
use Rattle.cbdc_model.specs.Coins.{Output, genesis_id}
use Rattle.cbdc_model.specs.Clean.{value_out}
use Rattle.requests.specs.declared.FileWord.{FileWord}
use Rattle.input_files.specs.Contents.{mint_of_file}
use Rattle.cbdc_model.specs.Ranges.{node_count}
use Rattle.ledger_init.specs.Made.{MayBeMade, HasPlaceFor, HoldsFirst, first_record_of}
use Rattle.ledger_init.specs.declared.making.Made.{Made}
use Rattle.line_text.specs.Lines.{Text, init_text}
use Rattle.cbdc_model.specs.History.{minted}
use Rattle.record_log.specs.Held.{OpensTo}
use Rattle.rack_ledgers.specs.Racked.{Disks, SameRoom}
use Rattle.ledger_laws.proofs.FirstJournals.{first_is}
use Rattle.init_command.specs.Outcomes.{DidInit}
use Rattle.submission_laws.specs.Files.{mint_journals}

module _ {D : Type 0} (device : Ghosts D) (files : Text → Option (List ℕ)) (before after : Disks D) (shape : Shape) (file : FileWord)
    (mint : List Output)
    (read : Tells (files file.name.now) (λ c. mint_of_file c ≡ Ok mint)) where
  pub made_did : {E : Type 0} (r : Result Made E)
      → IfOk r (λ m. (m.coins ≡ length mint) × (m.total ≡ value_out mint) × (m.genesis ≡ genesis_id mint))
      → OnOk r (MayBeMade shape mint device before.held)
      → OnOk r ((n : ℕ) → n < node_count shape → HasPlaceFor shape mint device before.held n)
      → OnOk r ((n : ℕ) → n < node_count shape → HoldsFirst device (first_record_of shape mint n) (before.held n) (after.held n))
      → OnOk r ((n : ℕ) → n < node_count shape → SameRoom device (before.held n) (after.held n))
      → ((n : ℕ) → node_count shape ≤ n → after.held n ≡ before.held n)
      → IfOk r (λ m. DidInit device files before after (λ text. init_text m.coins m.total m.genesis ≡ text) shape file)
  made_did (Ok m) made was places holds rooms outside = record {
    mint = mint;
    read = read;
    was = was;
    places = places;
    holds = holds;
    opens = λ n lt was told d held some c left.
        let h = holds n lt was told d held some in
        subst (λ bytes. OpensTo (reverse (mint_journals shape mint n)) bytes) (sym (h.durable c left))
        (subst (λ J. OpensTo (reverse J) h.bytes) (sym (first_is shape (minted mint) n lt)) h.opens);
    rooms = rooms;
    outside = outside;
    kept = record { later = []; history = record { ordered = tt; journals_are = λ n. refl }; kept = tt };
    prints = ap (λ (n : ℕ). init_text n m.total m.genesis) made.0 ∙ ap (λ (n : ℕ). init_text (length mint) n m.genesis) made.1
        ∙ ap (init_text (length mint) (value_out mint)) made.2;
  }
  made_did (Err e) made was places holds rooms outside = tt
