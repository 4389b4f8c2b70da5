-- What was made of a mint, by what its file and the disks told before and tell behind it; why nothing was, and what that leaves.
use Rattle.std.specs.Prelude.{◌≡◌, ◌⊎◌, ℕ, ◌<◌, ◌≤◌, List, [], reverse, Option, IsSome, Ok}
use Rattle.outside.specs.Images.{Tells}
use Rattle.outside.specs.declared.disk.Disk.{Ghosts}
use Rattle.line_text.specs.Lines.{Text}
use Rattle.cbdc_types.specs.declared.answer.Answer.{Answer}
use Rattle.cbdc_model.specs.Records.{Shape}
use Rattle.cbdc_model.specs.Coins.{Output}
use Rattle.cbdc_model.specs.World.{KeptJournals}
use Rattle.record_log.specs.Held.{OpensTo}
use Rattle.requests.specs.declared.FileWord.{FileWord}
use Rattle.command_answers.specs.Scene.{Scene}
use Rattle.rack_ledgers.specs.Racked.{Disks, OfTold, SameRoom}
use Rattle.input_files.specs.Contents.{mint_of_file, IsNotRead}
use Rattle.cbdc_model.specs.Ranges.{node_count}
use Rattle.ledger_init.specs.Made.{MayBeMade, HasPlaceFor, HoldsFirst, first_record_of, IsUnmade, AreDisksLeft}
use Rattle.printed_lines.specs.Reports.{init_lines}
use Rattle.submission_laws.specs.Files.{mint_journals}

-- a ledger was made of the mint in a file
pub record DidInit {D : Type 0} (device : Ghosts D) (files : Text → Option (List ℕ)) (before after : Disks D) (printed : Text → Type 0)
    (shape : Shape) (file : FileWord) : Type 0 where
  -- the file held this mint
  pub mint : List Output
  pub read : Tells (files file.name.now) (λ c. mint_of_file c ≡ Ok mint)
  -- no node was in use, and each node's disk had the place for its first record
  pub was : MayBeMade shape mint device before.held
  pub places : (n : ℕ) → n < node_count shape → HasPlaceFor shape mint device before.held n
  -- it holds that record alone, and so does whatever a crash leaves of one that told its content
  pub holds : (n : ℕ) → n < node_count shape → HoldsFirst device (first_record_of shape mint n) (before.held n) (after.held n)
  pub opens : (n : ℕ) → n < node_count shape → OfTold (before.held n) (λ was. OfTold (after.held n) (λ d.
      IsSome (device.content was) → (c : List ℕ) → device.images d c → OpensTo (reverse (mint_journals shape mint n)) c))
  -- each has as much room as the disk that was in its place, and all other disks are as before
  pub rooms : (n : ℕ) → n < node_count shape → SameRoom device (before.held n) (after.held n)
  pub outside : (n : ℕ) → node_count shape ≤ n → after.held n ≡ before.held n
  -- the first records are a kept ledger of the mint, to which nothing was handed in yet
  pub kept : KeptJournals shape mint [] (mint_journals shape mint)
  -- how many coins the mint has, what they come to and its id were printed
  pub prints : printed (init_lines mint)

-- the file holds no mint, or the ledger could not be made of the one that it holds, by the first reason that there is (`IsUnmade`). The mint's values
-- amount to too much; a node is in use, all before it not being so; a node's disk failed, so that its count rose, no node before it being in use; or,
-- no node being in use, a disk has no room for its first record, all above it having room
abbrev pub WhyNoInit : {D : Type 0} → Ghosts D → Scene D → Scene D → Shape → FileWord → Answer → Type 0
WhyNoInit device before after shape file answer =
    IsNotRead file.place (before.file file.name.now) mint_of_file (before.file_faults file.name.now) (after.file_faults file.name.now) answer
    ⊎ ((mint : List Output) × Tells (before.file file.name.now) (λ c. mint_of_file c ≡ Ok mint)
    × IsUnmade shape mint device before.disks.held before.disks.faults after.disks.faults answer)

-- the file holds a mint, whose ledger was not made: all disks are as they were read, or the writing of first records stopped at a node
abbrev pub InitLeaves : {D : Type 0} → Ghosts D → Scene D → Scene D → Shape → FileWord → Answer → Type 0
InitLeaves device before after shape file answer =
    (mint : List Output) × Tells (before.file file.name.now) (λ c. mint_of_file c ≡ Ok mint)
    × AreDisksLeft shape mint device before.disks after.disks answer
