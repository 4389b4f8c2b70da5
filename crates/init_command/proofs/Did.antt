-- What was made of a mint, with another text that was printed.
use Rattle.std.proofs.Common.{ℕ, List, Option}
use Rattle.outside.specs.declared.disk.Disk.{Ghosts}
use Rattle.cbdc_model.specs.Records.{Shape}
use Rattle.requests.specs.declared.FileWord.{FileWord}
use Rattle.line_text.specs.Lines.{Text}
use Rattle.rack_ledgers.specs.Racked.{Disks}
use Rattle.init_command.specs.Outcomes.{DidInit}

module _ {D : Type 0} (device : Ghosts D) (files : Text → Option (List ℕ)) (before after : Disks D) (P Q : Text → Type 0)
    (by : (text : Text) → P text → Q text) where
  pub init_by : (shape : Shape) (file : FileWord) → DidInit device files before after P shape file → DidInit device files before after Q shape file
  init_by shape file is = record {
    mint = is.mint;
    read = is.read;
    was = is.was;
    places = is.places;
    holds = is.holds;
    opens = is.opens;
    rooms = is.rooms;
    outside = is.outside;
    kept = is.kept;
    prints = by _ is.prints;
  }
