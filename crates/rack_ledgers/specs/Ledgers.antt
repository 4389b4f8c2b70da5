-- The nodes of a ledger as a rack keeps them.
use Rattle.std.specs.Prelude.{◌≡◌, ◌≢◌, ◌⊎◌, ◌+◌, ◌≤◌, ◌<◌, ℕ, List, length, Option, Some, None, slice_get}
use Rattle.outside.specs.Images.{Tells}
use Rattle.outside.specs.declared.disk.Disk.{Ghosts}
use Rattle.cbdc_types.specs.Limits.{IsWithinLimits}
use Rattle.cbdc_types.specs.declared.answer.Answer.{Answer}
use Rattle.cbdc_types.specs.declared.answer.Answer.TheVariants as answers
use Rattle.cbdc_model.specs.Records.{Digest, Header}
use Rattle.cbdc_model.specs.After.{IsJournal}
use Rattle.cbdc_model.specs.History.{header_of}
use Rattle.cbdc_model.specs.Room.{kept_room}
use Rattle.cbdc_model.specs.Due.{used_of}
use Rattle.node_journal.specs.Nodes.{NodeOf}
use Rattle.coord_log.specs.Opening.{IsCoord}
use Rattle.shard_node.specs.Opening.{IsShardHeader}
use Rattle.rack_ledgers.specs.Fresh.{StandsNode}
use Rattle.rack_ledgers.specs.Places.{IsOpening}
use Rattle.rack_ledgers.specs.Racked.{OfTold, IsNodeOpened}
use Rattle.rack_ledgers.specs.Refused.{IsNoNode, IsNodeRefusal}

-- each item has the property at its place
abbrev pub ByPlace : {N : Type 0} → (ℕ → N → Type 0) → List N → Type 0
ByPlace P nodes = (n : ℕ) (x : _) → slice_get nodes n ≡ Some x → P n x

-- a node of the kind, of the ledger with this header, has this place, and stands for what was told of its disk
pub record IsNodeAt {D : Type 0} (device : Ghosts D) (held : ℕ → Option D) (Is : Header → Type 0) (h : Header) (place : ℕ) (n : NodeOf D) : Type 0
  where
    pub header : n.header ≡ header_of h.shape h.genesis place
    pub journal : IsJournal n.header n.journal
    pub flight : n.flight ≡ None
    pub broken : n.broken ≡ None
    pub since : n.opened ≡ n.faults
    pub faults : n.faults ≡ device.count n.disk
    pub capacity : n.capacity ≡ device.limit n.disk
    pub room : used_of n.journal + kept_room n.header.shape n.journal ≤ n.capacity
    pub opened : OfTold (held place) (λ was. IsNodeOpened device (λ x. x.disk) (StandsNode device Is) was n)

-- these are all coordinators and all shards of the ledger with this header, which is that of node 0
pub record AreOpened {D : Type 0} (device : Ghosts D) (held : ℕ → Option D) (h : Header) (logs : List (NodeOf D)) (shards : List (NodeOf D)) : Type 0
  where
    pub first : h.node ≡ 0
    pub limits : IsWithinLimits h.shape
    pub coordinators : length logs ≡ h.shape.coordinators
    pub shards_are : length shards ≡ h.shape.shards
    pub logs_at : ByPlace (IsNodeAt device held IsCoord h) logs
    pub shards_at : ByPlace (λ s x. IsNodeAt device held IsShardHeader h (h.shape.coordinators + s) x) shards

-- why the disk that was told of this node is no such node, and a fault of the disk has its cause
pub record IsNodeRefused {D : Type 0} (device : Ghosts D) (held : ℕ → Option D) (before now : ℕ → ℕ) (Is : Header → Type 0) (ledger : Option Header)
    (place : ℕ) (answer : Answer) : Type 0 where
  pub kind : IsNodeRefusal answer
  pub fault : IsOpening place (before place) (now place) answer
  pub cause : OfTold (held place) (λ was. Tells (device.content was) (λ c. IsNoNode Is place ledger (device.limit was) c answer))

-- the mint with this id, where one is given, began the ledger with this header
abbrev pub IsMintOf : Option Digest → Header → Type 0
IsMintOf None h = Unit {0}
IsMintOf (Some id) h = h.genesis ≡ id

-- another mint than the one with this id began the ledger of node 0, which has this header; and this is the answer
abbrev pub IsOtherMint : Option Digest → Header → Answer → Type 0
IsOtherMint None h answer = ⊥
IsOtherMint (Some id) h answer = (h.genesis ≢ id) × (answer ≡ answers.Foreign 0 h (record { node = 0; shape = h.shape; genesis = id }))

-- node 0 is opened, and another mint than the one with this id began its ledger
pub record HasOtherMint {D : Type 0} (device : Ghosts D) (held : ℕ → Option D) (id : Option Digest) (answer : Answer) : Type 0 where
  pub lead : NodeOf D
  pub first : lead.header.node ≡ 0
  pub lead_at : IsNodeAt device held IsCoord lead.header 0 lead
  pub other : IsOtherMint id lead.header answer

-- the coordinators before this one are opened, of which node 0 has this header, of a ledger that the mint with this id began, and why this
-- one is not
pub record LacksLog {D : Type 0} (device : Ghosts D) (held : ℕ → Option D) (before now : ℕ → ℕ) (id : Option Digest) (answer : Answer) : Type 0 where
  pub header : Header
  pub logs : List (NodeOf D)
  pub first : header.node ≡ 0
  pub limits : IsWithinLimits header.shape
  pub minted : IsMintOf id header
  pub some : 1 ≤ length logs
  pub inside : length logs < header.shape.coordinators
  pub logs_at : ByPlace (IsNodeAt device held IsCoord header) logs
  pub refused : IsNodeRefused device held before now IsCoord (Some header) (length logs) answer

-- all coordinators and the shards before this one are opened, of a ledger that the mint with this id began, and why this one is not
pub record LacksShard {D : Type 0} (device : Ghosts D) (held : ℕ → Option D) (before now : ℕ → ℕ) (id : Option Digest) (answer : Answer) : Type 0
  where
    pub header : Header
    pub logs : List (NodeOf D)
    pub shards : List (NodeOf D)
    pub first : header.node ≡ 0
    pub limits : IsWithinLimits header.shape
    pub minted : IsMintOf id header
    pub coordinators : length logs ≡ header.shape.coordinators
    pub inside : length shards < header.shape.shards
    pub logs_at : ByPlace (IsNodeAt device held IsCoord header) logs
    pub shards_at : ByPlace (λ s x. IsNodeAt device held IsShardHeader header (header.shape.coordinators + s) x) shards
    pub refused : IsNodeRefused device held before now IsShardHeader (Some header) (header.shape.coordinators + length shards) answer

-- why the first coordinator that can't be opened is not: node 0 by its own header, or another mint began its ledger; each other one by node
-- 0's header, which this mint began
abbrev pub IsUnledBy : {D : Type 0} → Ghosts D → (ℕ → Option D) → (ℕ → ℕ) → (ℕ → ℕ) → Option Digest → Answer → Type 0
IsUnledBy device held before now id answer =
    IsNodeRefused device held before now IsCoord None 0 answer
    ⊎ (HasOtherMint device held id answer ⊎ LacksLog device held before now id answer)

-- why the first node that can't be opened is not, where the mint with this id, if one is given, should have begun the ledger
abbrev pub IsUnopenedBy : {D : Type 0} → Ghosts D → (ℕ → Option D) → (ℕ → ℕ) → (ℕ → ℕ) → Option Digest → Answer → Type 0
IsUnopenedBy device held before now id answer =
    IsUnledBy device held before now id answer ⊎ LacksShard device held before now id answer

-- why the first node that can't be opened is not, whatever mint began the ledger
abbrev pub IsUnopened : {D : Type 0} → Ghosts D → (ℕ → Option D) → (ℕ → ℕ) → (ℕ → ℕ) → Answer → Type 0
IsUnopened device held before now answer = IsUnopenedBy device held before now None answer
