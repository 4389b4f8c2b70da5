-- What a lane's fault answers, and its cause.
use Rattle.std.specs.Prelude.{◌≡◌, ℕ, ◌^◌, ◌≤◌, List, Some}
use Rattle.cbdc_types.specs.declared.answer.Answer.{Answer}
use Rattle.cbdc_types.specs.declared.answer.Answer.TheVariants as answers
use Rattle.cbdc_model.specs.Records.{Digest, Shape, Compact, Record, stamp_of}
use Rattle.cbdc_model.specs.Slots.{slot}
use Rattle.cbdc_model.specs.After.{After, Follows}
use Rattle.cbdc_model.specs.History.{Minted, header_of}
use Rattle.cbdc_model.specs.Lanes.{IsEnd}
use Rattle.cbdc_model.specs.Sights.{HasRisen}
use Rattle.run_laws.specs.Checked.{CheckedJournals}
use Rattle.node_journal.specs.Nodes.{NodeOf}
use Rattle.lane_driver.specs.declared.fault.LaneFault.{LaneFault}
use Rattle.lane_driver.specs.declared.fault.LaneFaultKind.{LaneFaultKind}
use Rattle.lane_driver.specs.declared.fault.LaneFaultKind.TheVariants.{DiskFault as DiskStopped, Full as NoRoom, ClockEnd as NoStamp}
use Rattle.lane_driver.specs.declared.fault.LaneFaultKind.TheVariants.{Memory as NoMemory}
use Rattle.ledger_runs.specs.Turning.{IsLaneOf}
use Rattle.ledger_runs.specs.Faults.{IsWanted, HasNoDiskFor, HasNoRoomFor, HasNoStampFor}

-- the answer to a lane's fault of this kind at this node, with its numbers
abbrev pub answer_at : ℕ → LaneFaultKind → Answer
answer_at node DiskStopped = answers.DiskFault node
answer_at node (NoRoom used need capacity) = answers.Full node used need capacity
answer_at node (NoStamp stamp) = answers.ClockEnd node stamp
answer_at node NoMemory = answers.Memory

-- the answer to a lane's fault, by its node and its kind
abbrev pub answer_to : LaneFault → Answer
answer_to e = answer_at e.node e.fault

-- the cause of an answer to a lane's fault, from journals E to X, by the nodes whose disks have failed and what disks may hold: a node that a lane
-- asks has a disk that failed, or no room or no stamp for what a lane wants; or memory ran out
abbrev pub IsLaneAnswer : Shape → (ℕ → List Compact → Type 0) → (ℕ → List Record) → (ℕ → List Record) → (ℕ → Type 0) → (ℕ → ℕ → Type 0) → Answer
    → Type 0
IsLaneAnswer K next E X failed may_hold (answers.DiskFault node) = (lane : ℕ) × IsLaneOf K lane × HasNoDiskFor K lane (next lane) X failed node
IsLaneAnswer K next E X failed may_hold (answers.Full node used need capacity) = (lane : ℕ) × IsLaneOf K lane
    × HasNoRoomFor K lane (next lane) E X may_hold node used need capacity
IsLaneAnswer K next E X failed may_hold (answers.ClockEnd node stamp) = (lane : ℕ) × IsLaneOf K lane × HasNoStampFor K lane (next lane) E X node stamp
IsLaneAnswer K next E X failed may_hold answers.Memory = Unit {0}
IsLaneAnswer K next E X failed may_hold other = ⊥

-- whatever a lane wants (`IsWanted`) may come next in the ledger behind each front of its node's journal, from that at entry on, since which
-- nothing of the lane came: it is in the grammar of its node and follows the rules; of a record whose stamp is past the last one the rules hold,
-- but for its stamp
abbrev pub MayComeNext : Shape → Digest → (ℕ → List Compact → Type 0) → (ℕ → List Record) → (ℕ → List Record) → Type 0
MayComeNext K genesis next E X = (lane node : ℕ) (front : List Record) (wanted : Record) → IsLaneOf K lane → IsEnd (E node) front
    → IsEnd front (X node) → slot front lane ≡ slot (X node) lane
    → IsWanted K lane (next lane) X node front wanted
    → Follows (header_of K genesis node) front wanted × (stamp_of wanted ≤ 2 ^ 62 → After (header_of K genesis node) front wanted)

-- a record is in flight at a node only where its disk has failed since it was opened
abbrev pub FliesBroken : {D : Type 0} → NodeOf D → Type 0
FliesBroken n = (r : Record) → n.flight ≡ Some r → HasRisen n.opened n.faults

-- these are journals of a ledger with this genesis, and each of their records is caused
abbrev pub StaysCaused : Shape → Digest → (ℕ → List Record) → Type 0
StaysCaused K genesis X = (m : Minted) × (m.id ≡ genesis) × CheckedJournals K m X
