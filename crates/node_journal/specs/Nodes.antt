-- What contracts see of a node on its disk, of a coordinator and of a shard alike.
use Rattle.std.specs.Prelude.{◌≡◌, ◌⊎◌, ℕ, List, reverse, Option, None, Some, Result, Err}
use Rattle.cbdc_types.specs.declared.calls.NodeFault.{NodeFault}
use Rattle.cbdc_types.specs.declared.calls.NodeFault.TheVariants.{DiskFault}
use Rattle.cbdc_model.specs.Records.{Header, Record}
use Rattle.cbdc_model.specs.Sights.{Sight}
use Rattle.outside.specs.Images.{Leaves}
use Rattle.outside.specs.declared.disk.Disk.{Ghosts}
use Rattle.record_log.specs.Held.{HoldsRecords, OpensToEither}

-- its header, its journal, newest first, a record that a failed call may have left on its disk or not, how often its disk has failed, how often it
-- had when the node was opened, and behind an append that has failed since, the place of the journal's closing gate, how many bytes the disk may
-- hold, and the disk
pub record NodeOf (D : Type 0) : Type 0 where
  pub header : Header
  pub journal : List Record
  pub flight : Option Record
  pub faults : ℕ
  pub opened : ℕ
  pub broken : Option ℕ
  pub gate : ℕ
  pub capacity : ℕ
  pub disk : D

-- what lanes know of it
abbrev pub sight : {D : Type 0} → NodeOf D → Sight
sight n = record { header = n.header; seen = n.journal; flight = n.flight; faults = n.faults; opened = n.opened; capacity = n.capacity }

-- each image of its disk is the journal, with the record in flight or without; and the disk reads as the journal until an append fails
pub record HoldsJournal {D : Type 0} (device : Ghosts D) (n : NodeOf D) : Type 0 where
  pub each : (c : List ℕ) → device.images n.disk c → OpensToEither (reverse n.journal) n.flight c
  pub reads : n.broken ≡ None → HoldsRecords (device.content n.disk) (device.images n.disk) n.gate (reverse n.journal)

-- these bytes open to the journal that is seen, with what is in flight or without
abbrev pub OpensToSeen : {D : Type 0} → NodeOf D → List ℕ → Type 0
OpensToSeen n bytes = OpensToEither (reverse n.journal) n.flight bytes

-- a crash during a call leaves the journal from before it or the one behind it, each with what is in flight or without
abbrev pub IsLeftBetween : {D : Type 0} → NodeOf D → NodeOf D → List ℕ → Type 0
IsLeftBetween old new bytes = OpensToSeen old bytes ⊎ OpensToSeen new bytes

-- so it is at the end of the call, and at each moment of it where the disk tells its past
abbrev pub LeavesBetween : {D : Type 0} → Ghosts D → NodeOf D → NodeOf D → Type 0
LeavesBetween device old new = Leaves device.tells_past device.moment device.images_since device.images old.disk new.disk (IsLeftBetween old new)

-- broken behind a call: at a fault of the disk by the count that stands then, else as before
abbrev pub broken_behind : {A : Type 0} → Result A NodeFault → ℕ → Option ℕ → Option ℕ
broken_behind (Err DiskFault) count before = Some count
broken_behind other count before = before
