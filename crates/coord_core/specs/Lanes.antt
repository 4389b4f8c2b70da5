-- What a coordinator keeps of its lanes.
use Rattle.std.specs.Prelude.{◌≡◌, ℕ, ◌+◌, ◌^◌, ◌%◌, ◌<◌, ◌≤◌, List, [], length, slice_index_or, slice_set, sum_by, ◌≢◌, All}
use Rattle.cbdc_types.specs.Limits.{IsWithinLimits}
use Rattle.cbdc_model.specs.Records.{Header, Batch, Compact, Record, Prepare, Commit, Discard, Done}
use Rattle.cbdc_model.specs.Slots.{Slot, Phase, Idle, InLock, InFinish, InPrepare, InCommit, InDiscard}
use Rattle.cbdc_model.specs.Ranges.{home_of}
use Rattle.cbdc_model.specs.Room.{room_in}
use Rattle.coord_core.specs.Masks.{masks_of}

-- a lane: its slot, the masks of the transactions of its last batch, and for how many transactions there is room
pub record CoordLaneOf : Type 0 where
  pub slot : Slot
  pub masks : List ℕ
  pub room : ℕ

-- a coordinator: its header, its last stamp, and its lanes
pub record CoordOf : Type 0 where
  pub header : Header
  pub last : ℕ
  pub lanes : List CoordLaneOf

-- what stands for a lane that is not there
abbrev pub no_lane : CoordLaneOf
no_lane = record { slot = record { number = 0; phase = Idle }; masks = []; room = 0 }

-- the lane is this node's
abbrev pub IsOwnLane : Header → ℕ → Type 0
IsOwnLane h lane = home_of h.shape lane ≡ h.node

-- the lane at its place among the coordinator's own
abbrev pub coord_lane : CoordOf → ℕ → CoordLaneOf
coord_lane c lane = slice_index_or c.lanes (lane % c.header.shape.lanes) no_lane

-- the coordinator with another lane in its place
abbrev pub with_lane : CoordOf → ℕ → CoordLaneOf → CoordOf
with_lane c lane l = record c { lanes = slice_set c.lanes (lane % c.header.shape.lanes) l }

-- a lane's number is at most this
abbrev pub IsLaneUpTo : ℕ → CoordLaneOf → Type 0
IsLaneUpTo last l = l.slot.number ≤ last

-- a lane's batch has at most 1,024 transactions
abbrev pub IsSmallLane : CoordLaneOf → Type 0
IsSmallLane l = length l.masks ≤ 1024

-- the coordinator's numbers and lists are within the limits
pub record IsCoordWhole (c : CoordOf) : Type 0 where
  pub limits : IsWithinLimits c.header.shape
  pub node : c.header.node < c.header.shape.coordinators
  pub lanes : length c.lanes ≡ c.header.shape.lanes
  pub last : c.last ≤ 2 ^ 62 + 2 ^ 20
  pub numbers : All (IsLaneUpTo c.last) c.lanes
  pub small : All IsSmallLane c.lanes

-- the batch that a lane's slot names
abbrev pub core_batch : CoordOf → ℕ → Batch
core_batch c lane = record { lane = lane; number = (coord_lane c lane).slot.number }

-- the batch behind it
abbrev pub next_core_batch : CoordOf → ℕ → Batch
next_core_batch c lane = record { lane = lane; number = (coord_lane c lane).slot.number + 1 }

-- the coordinator with a lane's slot set at a stamp
abbrev pub with_slot : CoordOf → ℕ → ℕ → Slot → CoordOf
with_slot c stamp lane s = record (with_lane c lane (record (coord_lane c lane) { slot = s })) { last = stamp }

-- the coordinator with a batch begun
abbrev pub with_prepared : CoordOf → ℕ → Batch → List Compact → CoordOf
with_prepared c stamp b txs =
    record (with_lane c b.lane (record (coord_lane c b.lane)
    { slot = record { number = b.number; phase = InPrepare }; masks = masks_of c.header.shape txs })) { last = stamp }

-- the coordinator has taken the record in
abbrev pub CoordTakes : CoordOf → CoordOf → Record → Type 0
CoordTakes c d (Prepare stamp b txs) = d ≡ with_prepared c stamp b txs
CoordTakes c d (Commit stamp b os) = d ≡ with_slot c stamp b.lane (record { number = b.number; phase = InCommit })
CoordTakes c d (Discard stamp b) = d ≡ with_slot c stamp b.lane (record { number = b.number; phase = InDiscard })
CoordTakes c d (Done stamp b) = d ≡ with_slot c stamp b.lane (record { number = b.number; phase = Idle })
CoordTakes c d other = d ≡ c

-- a record of this stamp and batch may come: it is on a lane of this coordinator, behind its last stamp, and the stamp is within the last bound
abbrev pub IsLaterAt : CoordOf → ℕ → Batch → Type 0
IsLaterAt c stamp b = IsOwnLane c.header b.lane × (c.last < stamp) × (stamp ≤ 2 ^ 62 + 2 ^ 20)

-- a Prepare of this stamp and batch may come: its lane is idle, and it is the lane's next batch
abbrev pub IsPrepareAt : CoordOf → ℕ → Batch → Type 0
IsPrepareAt c stamp b = IsLaterAt c stamp b × ((coord_lane c b.lane).slot.phase ≡ Idle) × (b.number ≡ (coord_lane c b.lane).slot.number + 1)

-- a Commit of this stamp and batch may come, with so many outcomes: the batch is prepared, with as many transactions
abbrev pub IsCommitAt : CoordOf → ℕ → Batch → ℕ → Type 0
IsCommitAt c stamp b n =
    IsLaterAt c stamp b × ((coord_lane c b.lane).slot ≡ record { number = b.number; phase = InPrepare }) × (length (coord_lane c b.lane).masks ≡ n)

-- the record is next at this coordinator
abbrev pub IsCoordNext : CoordOf → Record → Type 0
IsCoordNext c (Prepare stamp b txs) = IsPrepareAt c stamp b × (length txs ≤ c.header.shape.batch)
IsCoordNext c (Commit stamp b os) = IsCommitAt c stamp b (length os)
IsCoordNext c (Discard stamp b) = IsLaterAt c stamp b × ((coord_lane c b.lane).slot ≡ record { number = b.number; phase = InCommit })
IsCoordNext c (Done stamp b) = IsLaterAt c stamp b × ((coord_lane c b.lane).slot ≡ record { number = b.number; phase = InDiscard })
IsCoordNext c other = ⊥

-- the coordinator can take this record in: it is next, and the memory for it is there
abbrev pub CoordAdmits : CoordOf → Record → Type 0
CoordAdmits c (Prepare stamp b txs) = IsPrepareAt c stamp b × (length txs ≤ (coord_lane c b.lane).room) × (length txs ≤ 1024)
CoordAdmits c other = IsCoordNext c other

-- the lane has room for this many transactions
abbrev pub HasLaneRoom : CoordOf → ℕ → ℕ → Type 0
HasLaneRoom c lane n = n ≤ (coord_lane c lane).room

-- a lane that has had no batch
pub record IsIdleLane (l : CoordLaneOf) : Type 0 where
  pub slot : l.slot ≡ record { number = 0; phase = Idle }
  pub masks : l.masks ≡ []

-- a coordinator behind its first record
pub record IsFreshCoord (h : Header) (c : CoordOf) : Type 0 where
  pub header : c.header ≡ h
  pub last : c.last ≡ 0
  pub lanes : All IsIdleLane c.lanes

-- the bytes that are kept for a lane's batch
abbrev pub lane_kept : CoordLaneOf → ℕ
lane_kept l = room_in l.slot.phase 0 (length l.masks)

-- the bytes that are kept for the batches of these lanes
abbrev pub kept_of : List CoordLaneOf → ℕ
kept_of ls = sum_by lane_kept ls

-- how many records are still to come of a batch in this phase
abbrev pub ahead_in : Phase → ℕ
ahead_in Idle = 0
ahead_in InLock = 2
ahead_in InFinish = 1
ahead_in InPrepare = 3
ahead_in InCommit = 2
ahead_in InDiscard = 1

-- how many records are still to come of the batches of these lanes
abbrev pub ahead_of : List CoordLaneOf → ℕ
ahead_of ls = sum_by (λ l. ahead_in l.slot.phase) ls

-- nothing but the room has changed
pub record IsSameButRoom (old new : CoordOf) : Type 0 where
  pub header : new.header ≡ old.header
  pub last : new.last ≡ old.last
  pub slots : (lane : ℕ) → (coord_lane new lane).slot ≡ (coord_lane old lane).slot
  pub masks : (lane : ℕ) → (coord_lane new lane).masks ≡ (coord_lane old lane).masks
  pub kept : kept_of new.lanes ≡ kept_of old.lanes
  pub ahead : ahead_of new.lanes ≡ ahead_of old.lanes

-- no lane has less room
abbrev pub HasNoLessRoom : CoordOf → CoordOf → Type 0
HasNoLessRoom old new = (lane : ℕ) → (coord_lane old lane).room ≤ (coord_lane new lane).room

-- the other lanes have as much room
abbrev pub KeepsOtherRooms : CoordOf → CoordOf → ℕ → Type 0
KeepsOtherRooms old new lane = (other : ℕ) → other % old.header.shape.lanes ≢ lane % old.header.shape.lanes
    → (coord_lane new other).room ≡ (coord_lane old other).room

-- where the lane's batch is prepared, there is room for its outcomes
abbrev pub IsRoomed : CoordLaneOf → Type 0
IsRoomed l = l.slot.phase ≡ InPrepare → length l.masks ≤ l.room

-- so it is on each lane
abbrev pub AllRoomed : CoordOf → Type 0
AllRoomed c = (lane : ℕ) → IsRoomed (coord_lane c lane)

-- so it is on each lane but one
abbrev pub OthersRoomed : CoordOf → ℕ → Type 0
OthersRoomed c lane = (other : ℕ) → other % c.header.shape.lanes ≢ lane % c.header.shape.lanes → IsRoomed (coord_lane c other)
