-- What is known of nodes by the disks that a rack tells, and of disks that are back.
use Rattle.std.specs.Prelude.{◌≡◌, ◌≤◌, ◌<◌, ◌+◌, ◌++◌, ℕ, List, length, Option, Some, IsSome}
use Rattle.outside.specs.Counts.{Rose}
use Rattle.outside.specs.Images.{NoMore, Tells}
use Rattle.outside.specs.declared.disk.Disk.{Ghosts}
use Rattle.outside.specs.declared.rack.Rack.{Ghosts as RackGhosts}
use Rattle.cbdc_types.specs.declared.answer.Answer.{Answer}
use Rattle.cbdc_model.specs.Records.{Header, Record}
use Rattle.rack_ledgers.specs.Places.{EachFrom}
use Rattle.rack_ledgers.specs.Refused.{IsNodeJournal}

-- the disks of a rack at one moment: at each place the one that it holds, where it tells, and how often the place has failed
pub record Disks (D : Type 0) : Type 0 where
  pub held : ℕ → Option D
  pub faults : ℕ → ℕ

-- those of this rack
abbrev pub disks_in : {R D : Type 0} → RackGhosts R D → R → Disks D
disks_in rack_of rack = record { held = rack_of.held rack; faults = rack_of.count rack }

-- whatever is told of a disk has the property
abbrev pub OfTold : {D : Type 0} → Option D → (D → Type 0) → Type 0
OfTold held P = (d : _) → held ≡ Some d → P d

-- a crash leaves nothing of the disk that it could not leave of the other, and there is as much room
pub record IsOnlyRead {D : Type 0} (device : Ghosts D) (was now : D) : Type 0 where
  pub leaves : NoMore (device.images was) (device.images now)
  pub room : device.limit now ≡ device.limit was

-- the disk that was told is back unchanged as the one that is told: it was only read, and reads as it did
pub record IsSameDisk {D : Type 0} (device : Ghosts D) (was is : D) : Type 0 where
  pub read : IsOnlyRead device was is
  pub same : device.content is ≡ device.content was

-- of the disks that were told and are
abbrev pub IsUnchanged : {D : Type 0} → Ghosts D → Option D → Option D → Type 0
IsUnchanged device old new = OfTold old (λ was. OfTold new (λ is. IsSameDisk device was is))

-- so is that of each place
abbrev pub AreUnchanged : {D : Type 0} → Ghosts D → (ℕ → Option D) → (ℕ → Option D) → Type 0
AreUnchanged device old new = (n : ℕ) → IsUnchanged device (old n) (new n)

-- the disk was only read, and unless its count of faults rose it reads as it did
pub record IsReturned {D : Type 0} (device : Ghosts D) (before now : ℕ) (was is : D) : Type 0 where
  pub read : IsOnlyRead device was is
  pub same : (Rose before now → ⊥) → device.content is ≡ device.content was

-- the disk that was told is back as the one that is told
abbrev pub IsDiskBack : {D : Type 0} → Ghosts D → ℕ → ℕ → Option D → Option D → Type 0
IsDiskBack device before now old new = OfTold old (λ was. OfTold new (λ is. IsReturned device before now was is))

-- all disks are back as they were read: a crash leaves nothing of one that it could not leave before, and it reads as it did wherever its count of
-- faults did not rise
abbrev pub AreDisksBack : {D : Type 0} → Ghosts D → Disks D → Disks D → Type 0
AreDisksBack device before after = (n : ℕ) → IsDiskBack device (before.faults n) (after.faults n) (before.held n) (after.held n)

-- the disk that is told has as much room as the one that was told
abbrev pub SameRoom : {D : Type 0} → Ghosts D → Option D → Option D → Type 0
SameRoom device old new = OfTold old (λ was. OfTold new (λ is. device.limit is ≡ device.limit was))

-- where the disk that was told tells its content, whatever a crash may leave of the one that is told opens to just this journal
abbrev pub StillHolds : {D : Type 0} → Ghosts D → Option D → Option D → Header → List Record → Type 0
StillHolds device old new h J = OfTold old (λ was. IsSome (device.content was)
    → OfTold new (λ is. (c : List ℕ) → device.images is c → IsNodeJournal h J c))

-- the node stands for what was told of its disk, which was only read and reads as it did
pub record IsNodeOpened {D N : Type 0} (device : Ghosts D) (disk_of : N → D) (opens : N → List ℕ → Type 0) (was : D) (node : N) : Type 0 where
  pub stands : Tells (device.content was) (opens node)
  pub same : device.content (disk_of node) ≡ device.content was
  pub read : IsOnlyRead device was (disk_of node)

-- a list goes on behind another one, and each item there has the property at its place
pub record ListGoesOn {N : Type 0} (P : ℕ → N → Type 0) (first : ℕ) (front whole : List N) : Type 0 where
  pub more : List N
  pub parts : whole ≡ front ++ more
  pub each : EachFrom P (first + length front) more

-- this node is the first one that can't be opened: each before it, from a place on, is what is asked for, and this is why it is not
pub record FailsFirst {N : Type 0} (OpensAt : ℕ → N → Type 0) (FailsAt : ℕ → Answer → Type 0) (from end : ℕ) (answer : Answer) : Type 0 where
  pub node : ℕ
  pub from_on : from ≤ node
  pub inside : node < end
  pub before : List N
  pub places : from + length before ≡ node
  pub opened : EachFrom OpensAt from before
  pub fails : FailsAt node answer
