-- What was told of hashes, by what the disks told before and tell behind it, and why nothing was.
use Rattle.std.specs.Prelude.{ℕ, ◌+◌, ◌<◌, ◌≤◌, List}
use Rattle.outside.specs.Images.{Tells}
use Rattle.outside.specs.declared.disk.Disk.{Ghosts}
use Rattle.line_text.specs.Lines.{Text}
use Rattle.cbdc_types.specs.declared.answer.Answer.{Answer}
use Rattle.cbdc_types.specs.Limits.{IsWithinLimits}
use Rattle.cbdc_model.specs.Records.{Digest, Shape, Record}
use Rattle.cbdc_model.specs.History.{header_of}
use Rattle.cbdc_model.specs.Room.{kept_room}
use Rattle.cbdc_model.specs.Due.{used_of}
use Rattle.cbdc_model.specs.Ranges.{node_count}
use Rattle.printed_lines.specs.Reports.{status_lines}
use Rattle.rack_ledgers.specs.Racked.{AreDisksBack, Disks, OfTold, AreUnchanged, StillHolds}
use Rattle.rack_ledgers.specs.Refused.{IsNodeJournal}
use Rattle.rack_ledgers.specs.Ledgers.{IsUnopened}

-- hashes were looked up in the ledger that the disks told
pub record DidStatus {D : Type 0} (device : Ghosts D) (before after : Disks D) (printed : Text → Type 0) (hashes : List Digest) : Type 0 where
  -- what was told of the disks opened to journals of all nodes of a ledger within its limits
  pub shape : Shape
  pub genesis : Digest
  pub journals : ℕ → List Record
  pub limits : IsWithinLimits shape
  pub opened : (n : ℕ) → n < node_count shape
      → OfTold (before.held n) (λ was. Tells (device.content was) (IsNodeJournal (header_of shape genesis n) (journals n)))
  -- each disk has room for its journal and for what is kept for the batches that are open there
  pub room : (n : ℕ) → n < node_count shape → OfTold (before.held n) (λ was. used_of (journals n) + kept_room shape (journals n) ≤ device.limit was)
  -- the disks are back unchanged, and each of these holds its journal still, whatever a crash leaves of it
  pub back : AreUnchanged device before.held after.held
  pub holds : (n : ℕ) → n < node_count shape → StillHolds device (before.held n) (after.held n) (header_of shape genesis n) (journals n)
  -- a line was printed for each hash, in order, with its status in the journal of the shard that holds it
  pub prints : printed (status_lines shape journals hashes)

-- the ledger could not be opened, and the disks are back as they were read
abbrev pub WhyNoStatus : {D : Type 0} → Ghosts D → Disks D → Disks D → Answer → Type 0
WhyNoStatus device before after answer =
    IsUnopened device before.held before.faults after.faults answer × AreDisksBack device before after
