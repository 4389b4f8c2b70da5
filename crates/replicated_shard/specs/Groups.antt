-- A shard whose journal stands on several disks, as a group.
use Rattle.std.specs.Prelude.{◌≡◌, ◌⊎◌, ℕ, ◌-◌, Bool, true, List, [], ◌∷◌, length, map, reverse, Option, Some, None, Result, Err, slice_get}
use Rattle.outside.specs.declared.disk.Disk.{Ghosts}
use Rattle.cbdc_types.specs.declared.calls.NodeFault.{NodeFault}
use Rattle.cbdc_types.specs.declared.calls.NodeFault.TheVariants.{DiskFault}
use Rattle.cbdc_model.specs.Records.{Header, Record}
use Rattle.cbdc_model.specs.Due.{Due}
use Rattle.cbdc_model.specs.Sights.{HasRisen}
use Rattle.node_journal.specs.Nodes.{NodeOf, HoldsJournal, OpensToSeen}
use Rattle.node_journal.specs.Answered.{HasAnswered}
use Rattle.mirror_devices.specs.declared.mirror.Mirror.{Mirror}
use Rattle.mirror_devices.specs.Mirrored.{mirrored}
use Rattle.mirror_devices.specs.Mirrors.{first_of, has_failed}
use Rattle.shard_replica.specs.declared.packets.GroupEvent.{GroupEvent}
use Rattle.shard_replica.specs.declared.packets.GroupEvent.TheVariants.{Take}
use Rattle.shard_replica.specs.Groups.{Group, member_at}
use Rattle.shard_replica.specs.Steps.{effect, Run}
use Rattle.shard_replica.specs.Rounds.{IsAtRest, round}
use Rattle.record_log.specs.Held.{OpensTo}

-- with nothing in flight the group is at rest with the journal's records; with a record in flight it has taken that, and nothing more is known
abbrev pub StandsFor : Header → ℕ → List Record → Option Record → Group → Type 0
StandsFor h backups journal None g = IsAtRest h backups (reverse journal) g
StandsFor h backups journal (Some r) g = (rest : Group) × IsAtRest h backups (reverse journal) rest × (g ≡ effect rest (Take r))

-- the steps of a call: none; a record that goes round, each packet delivered in turn, and is answered; or one that is taken and not answered
abbrev pub AreCallSteps : ℕ → Group → List GroupEvent → Type 0
AreCallSteps backups g events = (events ≡ []) ⊎ ((r : Record) × (events ≡ round backups g r)) ⊎ ((r : Record) × (events ≡ Take r ∷ []))

-- from a group that stands for a node, the steps of a call lead to one that stands for the node behind it
abbrev pub GoesBySteps : Header → ℕ → List Record → Option Record → List Record → Option Record → Type 0
GoesBySteps h backups was flying now flight =
    (g : Group) → StandsFor h backups was flying g
    → (events : List GroupEvent) × (k : Group) × AreCallSteps backups g events × Run g events k × StandsFor h backups now flight k

-- a shard over a mirror
abbrev pub GroupNode : {D : Type 0} → Ghosts D → Type 0
GroupNode {D} device = NodeOf (Mirror D device)

-- each image of each member's disk opens to the journal, with the record in flight or without
abbrev pub EachHolds : {D : Type 0} (device : Ghosts D) → GroupNode device → Type 0
EachHolds {D} device n = (k : ℕ) (d : D) → slice_get n.disk.disks.items k ≡ Some d → (c : List ℕ) → device.images d c → OpensToSeen n c

-- a call at which a member's disk failed: the record is in flight, the node is broken, its count rose, and one of its disks has failed since the
-- mirror was made
pub record MemberFailed {D : Type 0} (device : Ghosts D) (old new : GroupNode device) : Type 0 where
  pub record_in_flight : Record
  pub flies : new.flight ≡ Some record_in_flight
  pub broken : new.broken ≡ Some new.faults
  pub rose : HasRisen old.faults new.faults
  pub member : has_failed (map device.count new.disk.disks.items) ≡ true

-- a call at a shard that is a group: it is answered as the shard alone would answer it, by the room of the primary's disk; for however many backups
-- it is a list of the group's steps; each member's disk holds the journal behind it; and a fault of the disk is a member's
pub record AnswersAsGroup {D A : Type 0} (device : Ghosts D) (memory : Bool) (due : Due A) (old new : GroupNode device) (result : Result A NodeFault)
    : Type 0 where
  pub answered : HasAnswered (mirrored device) memory due old new result
  pub room : old.capacity ≡ first_of (map device.limit old.disk.disks.items)
  pub steps : (backups : ℕ) → GoesBySteps old.header backups old.journal old.flight new.journal new.flight
  pub members : HoldsJournal (mirrored device) old → EachHolds device new
  pub lists : HoldsJournal (mirrored device) old → new.flight ≡ None → (g : Group)
      → IsAtRest new.header (length new.disk.disks.items - 1) (reverse new.journal) g
      → (k : ℕ) (d : D) → slice_get new.disk.disks.items k ≡ Some d → (c : List ℕ) → device.images d c → OpensTo (member_at g k).records c
  pub failed : result ≡ Err DiskFault → MemberFailed device old new
