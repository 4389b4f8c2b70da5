-- A ledger whose nodes are open while their disks are out of the rack, and disks that are back.
use Rattle.std.specs.Prelude.{◌≡◌, ◌+◌, ◌≤◌, ◌<◌, ◌^◌, ℕ, List, length}
use Rattle.outside.specs.declared.disk.Disk.{Ghosts}
use Rattle.outside.specs.declared.rack.Rack.{Ghosts as RackGhosts}
use Rattle.cbdc_types.specs.Limits.{IsWithinLimits}
use Rattle.cbdc_model.specs.Records.{Header}
use Rattle.node_journal.specs.Nodes.{NodeOf}
use Rattle.coord_log.specs.Opening.{IsCoord}
use Rattle.rack_ledgers.specs.Places.{EachFrom, MayReturn}
use Rattle.rack_ledgers.specs.Racked.{AreDisksBack, disks_in}
use Rattle.rack_ledgers.specs.Ledgers.{ByPlace, IsNodeAt, AreOpened}

-- the disks of all these coordinators and shards, so few that each has a number, may be put back in their places, and all others may be taken
pub record MayClose {D : Type 0} (device : Ghosts D) (can_put : ℕ → ℕ → Type 0) (can_take : ℕ → Type 0) (log_nodes : List (NodeOf D))
    (shard_nodes : List (NodeOf D)) : Type 0 where
  pub few : length log_nodes + length shard_nodes < 2 ^ 32
  pub logs : EachFrom (MayReturn (λ x. device.count x.disk) can_put) 0 log_nodes
  pub shards : EachFrom (MayReturn (λ x. device.count x.disk) can_put) (length log_nodes) shard_nodes
  pub others : (n : ℕ) → length log_nodes + length shard_nodes ≤ n → can_take n

-- all nodes of the ledger with this header were opened from a rack: each stands for what was told of its disk, which had not failed less often by
-- then than before; no other disk was touched, and the ledger may be closed again
pub record IsLedgerOpenedFrom {R D : Type 0} (device : Ghosts D) (rack : RackGhosts R D) (old new : R) (h : Header) (logs : List (NodeOf D))
    (shards : List (NodeOf D)) : Type 0 where
  pub nodes : AreOpened device (rack.held old) h logs shards
  pub logs_since : ByPlace (λ n x. rack.count old n ≤ device.count x.disk) logs
  pub shards_since : ByPlace (λ s x. rack.count old (h.shape.coordinators + s) ≤ device.count x.disk) shards
  pub others_held : (n : ℕ) → length logs + length shards ≤ n → rack.held new n ≡ rack.held old n
  pub may_close : MayClose device (rack.can_put new) (rack.can_take new) logs shards

-- all coordinators of the ledger with this header, which has so few nodes that each has a number, were opened from a rack: each stands for what was
-- told of its disk, which had not failed less often by then than before, and may be put back; the disks behind theirs were not touched and may be
-- taken
pub record AreLogsOpenedFrom {R D : Type 0} (device : Ghosts D) (rack : RackGhosts R D) (old new : R) (h : Header) (log_nodes : List (NodeOf D)) :
    Type 0 where
  pub first : h.node ≡ 0
  pub limits : IsWithinLimits h.shape
  pub few : h.shape.coordinators + h.shape.shards < 2 ^ 32
  pub coordinators : length log_nodes ≡ h.shape.coordinators
  pub logs_at : ByPlace (IsNodeAt device (rack.held old) IsCoord h) log_nodes
  pub since : ByPlace (λ n x. rack.count old n ≤ device.count x.disk) log_nodes
  pub others_held : (n : ℕ) → h.shape.coordinators ≤ n → rack.held new n ≡ rack.held old n
  pub logs : EachFrom (MayReturn (λ x. device.count x.disk) (rack.can_put new)) 0 log_nodes
  pub others_in : (n : ℕ) → h.shape.coordinators ≤ n → rack.can_take new n

-- all disks are back in the rack: each was only read, and reads as it did unless its count of faults rose; and all may be taken
pub record AllBack {R D : Type 0} (device : Ghosts D) (rack : RackGhosts R D) (old new : R) : Type 0 where
  pub held : AreDisksBack device (disks_in rack old) (disks_in rack new)
  pub takes : (n : ℕ) → rack.can_take new n
