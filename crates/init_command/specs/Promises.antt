-- What `init` promises.
use Rattle.std.specs.Prelude.{◌≡◌, List}
use Rattle.outside.specs.declared.disk.Disk.{Ghosts}
use Rattle.line_text.specs.Lines.{Text}
use Rattle.cbdc_model.specs.Records.{Shape}
use Rattle.cbdc_model.specs.Coins.{Output}
use Rattle.requests.specs.declared.FileWord.{FileWord}
use Rattle.input_files.specs.Contents.{mint_of_file}
use Rattle.command_answers.specs.Causes.{FileRose}
use Rattle.command_answers.specs.Promises.{Needs, Promise}
use Rattle.command_answers.specs.Scene.{Scene}
use Rattle.rack_laws.specs.Files.{HoldsFile}
use Rattle.rack_laws.specs.Making.{CanMake}
use Rattle.rack_laws.specs.Ready.{NoneRises}
use Rattle.init_command.specs.Outcomes.{DidInit, WhyNoInit, InitLeaves}

-- the file holds a mint of which a ledger can be made (`CanMake`): its values fit, no node is in use, and each disk has room for its first record and
-- a gate; and no count of faults of its nodes rises
pub record CanInit {D : Type 0} (device : Ghosts D) (before after : Scene D) (shape : Shape) (name : Text) : Type 0 where
  pub mint : List Output
  pub holds : HoldsFile before.file before.file_faults after.file_faults mint_of_file name mint
  pub can : CanMake device before.disks.held shape mint
  pub steady : NoneRises shape before.disks.faults after.disks.faults

-- `init` of this shape and the mint in this file
abbrev pub init_promise : {D : Type 0} → Ghosts D → Shape → FileWord → Promise D
init_promise device shape mint = record {
  did = λ files before after printed. DidInit device files before after printed shape mint;
  why = λ before after answer. WhyNoInit device before after shape mint answer;
  leaves = λ before after answer. InitLeaves device before after shape mint answer;
  ended = λ before after answer. ⊥;
  exact = λ before. Unit {0};
  unhindered = λ before after. CanInit device before after shape mint.name.now;
}

-- what it needs
abbrev pub init_needs : FileWord → Needs
init_needs mint = record {
  place = λ place. place ≡ mint.place;
  names = λ place name. (place ≡ mint.place) × (name ≡ mint.name.now);
  rose = λ before now place. FileRose before now mint place;
  hands_in = λ files txs. ⊥;
  of_no_rack = ⊥;
  of_no_file = ⊥;
  sized = Unit {0};
}
