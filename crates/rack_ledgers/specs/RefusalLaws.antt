-- A ledger that all disks of a rack tell, and the answers that come of bytes and room.
use Rattle.std.specs.Prelude.{◌≡◌, ◌+◌, ◌<◌, ◌≤◌, ℕ, List, Option, Some}
use Rattle.outside.specs.Images.{Tells}
use Rattle.outside.specs.declared.disk.Disk.{Ghosts}
use Rattle.cbdc_types.specs.Limits.{IsWithinLimits}
use Rattle.cbdc_types.specs.declared.answer.Answer.{Answer}
use Rattle.cbdc_types.specs.declared.answer.Answer.TheVariants as answers
use Rattle.cbdc_model.specs.Records.{Digest, Shape, Record}
use Rattle.cbdc_model.specs.History.{header_of}
use Rattle.cbdc_model.specs.Ranges.{node_count}
use Rattle.cbdc_model.specs.Room.{kept_room}
use Rattle.cbdc_model.specs.Due.{used_of}
use Rattle.rack_ledgers.specs.Racked.{OfTold}
use Rattle.rack_ledgers.specs.Refused.{IsNodeJournal}

-- each node's disk of a ledger of this shape is told, with its content
abbrev pub AllTell : {D : Type 0} → Ghosts D → (ℕ → Option D) → Shape → Type 0
AllTell {D} device held K = (n : ℕ) → n < node_count K → (d : D) × (held n ≡ Some d) × ((c : List ℕ) × (device.content d ≡ Some c))

-- the disks tell the ledger with this shape, within its limits, and genesis: each node's is told, with its content, which opens to just this journal
-- of the node, the newest record first
pub record TellLedger {D : Type 0} (device : Ghosts D) (held : ℕ → Option D) (K : Shape) (genesis : Digest) (J : ℕ → List Record) : Type 0 where
  pub limits : IsWithinLimits K
  pub each : (n : ℕ) → n < node_count K
      → (d : D) × (held n ≡ Some d) × ((c : List ℕ) × (device.content d ≡ Some c) × IsNodeJournal (header_of K genesis n) (J n) c)

-- whatever is told of a node's disk opens to just this journal of the node, in the ledger with this shape and genesis
abbrev pub EachOpens : {D : Type 0} → Ghosts D → (ℕ → Option D) → Shape → Digest → (ℕ → List Record) → Type 0
EachOpens device held K genesis J = (n : ℕ) → n < node_count K
    → OfTold (held n) (λ was. Tells (device.content was) (IsNodeJournal (header_of K genesis n) (J n)))

-- each disk of the ledger that is told has room for its node's journal and for what is kept for the batches that are open there
abbrev pub AllHaveRoom : {D : Type 0} → Ghosts D → (ℕ → Option D) → Shape → (ℕ → List Record) → Type 0
AllHaveRoom device held K J = (n : ℕ) → n < node_count K → OfTold (held n) (λ d. used_of (J n) + kept_room K (J n) ≤ device.limit d)

-- a node is refused for what its disk's bytes say, or for its disk's room, and not because the disk failed or memory ran out
abbrev pub IsAnswerOfBytes : Answer → Type 0
IsAnswerOfBytes (answers.NotReady n) = Unit {0}
IsAnswerOfBytes (answers.Damaged n at) = Unit {0}
IsAnswerOfBytes (answers.Full n used need capacity) = Unit {0}
IsAnswerOfBytes (answers.Foreign n kept asked) = Unit {0}
IsAnswerOfBytes other = ⊥

-- it is refused for its disk's room
abbrev pub IsOfRoom : Answer → Type 0
IsOfRoom (answers.Full n used need capacity) = Unit {0}
IsOfRoom other = ⊥
