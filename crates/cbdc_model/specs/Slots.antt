-- A lane's slot at a node: the number and the kind of its last record there, by looking back.
use Rattle.std.specs.Prelude.{ℕ, ◌/◌, ◌%◌, ◌==◌, nat_lt, List, [], ◌∷◌, length, if◌then◌else◌, find, slice_index_or}
use Rattle.cbdc_model.specs.Records.{tells_lane, stamp_in, Record, Genesis, Lock, Finish, Forget, Start, Prepare, Commit, Discard, Done, Upgrade}
use Rattle.cbdc_model.specs.Records.{Carry, CarryStart, Seal}

-- what the last record of a lane was: Idle after none, a first record, a Forget or a Done
pub data Phase : Type 0 where
  Idle : Phase
  InLock : Phase
  InFinish : Phase
  InPrepare : Phase
  InCommit : Phase
  InDiscard : Phase

-- a lane's number and phase at a node
pub record Slot : Type 0 where
  pub number : ℕ
  pub phase : Phase

-- the number at a place of a list of numbers, 0 past its end
abbrev pub number_at : List ℕ → ℕ → ℕ
number_at numbers at = slice_index_or numbers at 0

-- a lane's slot, by the newest record of the lane; a Carry has the numbers of all lanes, a CarryStart those of its own, in order
abbrev pub slot : List Record → ℕ → Slot
slot [] lane = record { number = 0; phase = Idle }
slot (Genesis header hs ∷ past) lane = slot past lane
slot (Lock stamp b es ∷ past) lane = if b.lane == lane then record { number = b.number; phase = InLock } else slot past lane
slot (Finish stamp b ds ∷ past) lane = if b.lane == lane then record { number = b.number; phase = InFinish } else slot past lane
slot (Forget stamp b ∷ past) lane = if b.lane == lane then record { number = b.number; phase = Idle } else slot past lane
slot (Start header ∷ past) lane = slot past lane
slot (Prepare stamp b txs ∷ past) lane = if b.lane == lane then record { number = b.number; phase = InPrepare } else slot past lane
slot (Commit stamp b os ∷ past) lane = if b.lane == lane then record { number = b.number; phase = InCommit } else slot past lane
slot (Discard stamp b ∷ past) lane = if b.lane == lane then record { number = b.number; phase = InDiscard } else slot past lane
slot (Done stamp b ∷ past) lane = if b.lane == lane then record { number = b.number; phase = Idle } else slot past lane
slot (Upgrade stamp batch ∷ past) lane = slot past lane
slot (Carry stamp header source hs numbers ∷ past) lane =
    if nat_lt lane (length numbers) then record { number = number_at numbers lane; phase = Idle } else slot past lane
slot (CarryStart stamp header source numbers ∷ past) lane =
    if lane / header.shape.lanes == header.node then record { number = number_at numbers (lane % header.shape.lanes); phase = Idle }
    else slot past lane
slot (Seal stamp to shards ∷ past) lane = slot past lane

-- the stamp of the lane's last record, 0 where there is none
abbrev pub slot_stamp : List Record → ℕ → ℕ
slot_stamp past lane = stamp_in (find (λ r. tells_lane lane r) past)
