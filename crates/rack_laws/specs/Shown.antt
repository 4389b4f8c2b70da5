-- Ledgers as racks show and store them.
use Rattle.std.specs.Prelude.{◌≡◌, ℕ, ◌+◌, ◌<◌, ◌≤◌, List, reverse, Option, Some, IfSome}
use Rattle.outside.specs.declared.disk.Disk.{Ghosts}
use Rattle.cbdc_types.specs.Limits.{IsWithinLimits}
use Rattle.cbdc_model.specs.Records.{Digest, Shape, Record}
use Rattle.cbdc_model.specs.Coins.{Output, FullTx, genesis_id}
use Rattle.cbdc_model.specs.History.{header_of}
use Rattle.cbdc_model.specs.World.{KeptJournals}
use Rattle.cbdc_model.specs.Room.{kept_room, need_of}
use Rattle.cbdc_model.specs.Due.{used_of}
use Rattle.record_log.specs.Held.{OpensTo, OpensToEither}
use Rattle.node_journal.specs.Nodes.{NodeOf}
use Rattle.rack_ledgers.specs.Racked.{OfTold}
use Rattle.rack_ledgers.specs.Refused.{IsNodeJournal}
use Rattle.cbdc_model.specs.Ranges.{node_count}

-- the rack tells each node's disk, and its content opens to this journal of the ledger
abbrev pub Shows : {D : Type 0} → Ghosts D → (ℕ → Option D) → Shape → Digest → (ℕ → List Record) → Type 0
Shows {D} device held K genesis J = (n : ℕ) → n < node_count K
    → (d : D) × (held n ≡ Some d) × ((c : List ℕ) × (device.content d ≡ Some c) × IsNodeJournal (header_of K genesis n) (J n) c)

-- whatever a crash may leave of a node's disk that is told opens to this journal of the ledger
abbrev pub Stores : {D : Type 0} → Ghosts D → (ℕ → Option D) → Shape → Digest → (ℕ → List Record) → Type 0
Stores device held K genesis J = (n : ℕ) → n < node_count K
    → OfTold (held n) (λ d. (c : List ℕ) → device.images d c → IsNodeJournal (header_of K genesis n) (J n) c)

-- of whatever ledger the rack shows whose journals are kept (of whatever mint and submissions), this holds
abbrev pub OfShown : {D : Type 0} → Ghosts D → (ℕ → Option D) → (Shape → List Output → List FullTx → (ℕ → List Record) → Type 0) → Type 0
OfShown device held P = (K : Shape) (mint : List Output) (submissions : List FullTx) (J : ℕ → List Record)
    → IsWithinLimits K → Shows device held K (genesis_id mint) J → KeptJournals K mint submissions J → P K mint submissions J

-- whatever a crash may leave of a node's disk that is told opens to this journal, with one record more or without
abbrev pub KeepsEach : {D : Type 0} → Ghosts D → (ℕ → Option D) → Shape → (ℕ → List Record) → Type 0
KeepsEach device held K X = (n : ℕ) → n < node_count K
    → (flight : Option Record) × OfTold (held n) (λ d. (c : List ℕ) → device.images d c → OpensToEither (reverse (X n)) flight c)

-- whatever a crash may leave of a node's disk that is told opens to exactly this journal
abbrev pub HoldsEach : {D : Type 0} → Ghosts D → (ℕ → Option D) → Shape → (ℕ → List Record) → Type 0
HoldsEach device held K X = (n : ℕ) → n < node_count K → OfTold (held n) (λ d. (c : List ℕ) → device.images d c → OpensTo (reverse (X n)) c)

-- one image of each node's disk that is told: what a crash may leave of them
abbrev pub AreImagesLeft : {D : Type 0} → Ghosts D → (ℕ → Option D) → Shape → (ℕ → List ℕ) → Type 0
AreImagesLeft device held K contents = (n : ℕ) → n < node_count K → OfTold (held n) (λ d. device.images d (contents n))

-- those open to these journals
abbrev pub OpenTo : {D : Type 0} → (ℕ → Option D) → Shape → (ℕ → List ℕ) → (ℕ → List Record) → Type 0
OpenTo held K contents X = (n : ℕ) → n < node_count K → OfTold (held n) (λ d. OpensTo (reverse (X n)) (contents n))

-- a node has room for its journal and for what is kept for its open batches
abbrev pub NodeHasRoom : {D : Type 0} → NodeOf D → Type 0
NodeHasRoom n = used_of n.journal + kept_room n.header.shape n.journal ≤ n.capacity

-- a record in flight there had the room that it needs
abbrev pub NodeFits : {D : Type 0} → NodeOf D → Type 0
NodeFits n = IfSome n.flight (λ r. used_of n.journal + need_of n.header.shape n.journal r ≤ n.capacity)
