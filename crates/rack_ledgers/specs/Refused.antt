-- Why a disk is no node of the kind that is asked for.
use Rattle.std.specs.Prelude.{◌≡◌, ◌≢◌, ◌⊎◌, ◌+◌, ◌≤◌, ℕ, List, Option}
use Rattle.cbdc_types.specs.declared.answer.Answer.{Answer}
use Rattle.cbdc_types.specs.declared.answer.Answer.TheVariants as answers
use Rattle.cbdc_types.specs.declared.calls.NodeOpenFault.{NodeOpenFault}
use Rattle.cbdc_types.specs.declared.calls.NodeOpenFault.TheVariants as faults
use Rattle.cbdc_model.specs.Records.{Header, Record}
use Rattle.cbdc_model.specs.Room.{kept_room}
use Rattle.cbdc_model.specs.Due.{used_of}
use Rattle.record_log.specs.Held.{HasNoRecord}
use Rattle.node_journal.specs.Opening.{IsJournalOf, IsDamagedAt, IsTooFull}
use Rattle.rack_ledgers.specs.Asked.{asked_of}

-- any header: of a node of either kind
abbrev pub IsAny : Header → Type 0
IsAny h = Unit {0}

-- the bytes open to just this journal of a node, of either kind, the newest record first
abbrev pub IsNodeJournal : Header → List Record → List ℕ → Type 0
IsNodeJournal h J bytes = IsJournalOf IsAny h J bytes

-- the bytes open to the journal of a node with another header than the one asked, or of the other kind, and it has the room that its
-- batches need
pub record IsForeign (Is : Header → Type 0) (limit : ℕ) (kept asked : Header) (bytes : List ℕ) : Type 0 where
  pub journal : List Record
  pub is : IsNodeJournal kept journal bytes
  pub fits : used_of journal + kept_room kept.shape journal ≤ limit
  pub differs : (kept ≢ asked) ⊎ (Is kept → ⊥)

-- why a disk with so much room and these bytes is no node of this kind and number, of the ledger with this header or of any
abbrev pub IsNoNode : (Header → Type 0) → ℕ → Option Header → ℕ → List ℕ → Answer → Type 0
IsNoNode Is node ledger limit bytes (answers.NotReady n) = (n ≡ node) × HasNoRecord bytes
IsNoNode Is node ledger limit bytes (answers.Damaged n at) = (n ≡ node) × IsDamagedAt IsAny at bytes
IsNoNode Is node ledger limit bytes (answers.Full n used need capacity) = (n ≡ node) × (capacity ≡ limit) × IsTooFull IsAny used need capacity bytes
IsNoNode Is node ledger limit bytes (answers.Foreign n kept asked) = (n ≡ node) × (asked ≡ asked_of node ledger kept)
    × IsForeign Is limit kept asked bytes
IsNoNode Is node ledger limit bytes (answers.DiskFault n) = n ≡ node
IsNoNode Is node ledger limit bytes answers.Memory = Unit {0}
IsNoNode Is node ledger limit bytes other = ⊥

-- the answers that there may be where a disk is no node
abbrev pub IsNodeRefusal : Answer → Type 0
IsNodeRefusal (answers.NotReady n) = Unit {0}
IsNodeRefusal (answers.Damaged n at) = Unit {0}
IsNodeRefusal (answers.Full n used need capacity) = Unit {0}
IsNodeRefusal (answers.Foreign n kept asked) = Unit {0}
IsNodeRefusal (answers.DiskFault n) = Unit {0}
IsNodeRefusal answers.Memory = Unit {0}
IsNodeRefusal other = ⊥

-- a refusal to open a node, as it is answered
abbrev pub refusal_answer : ℕ → NodeOpenFault → Answer
refusal_answer node faults.DiskFault = answers.DiskFault node
refusal_answer node faults.NotReady = answers.NotReady node
refusal_answer node faults.OtherKind = answers.NotReady node
refusal_answer node (faults.Damaged at) = answers.Damaged node at
refusal_answer node (faults.Full used need capacity) = answers.Full node used need capacity
refusal_answer node faults.Memory = answers.Memory
