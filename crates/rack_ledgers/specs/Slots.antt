-- The places of a rack whose nodes are opened beside each other.
use Rattle.std.specs.Prelude.{◌≡◌, ◌≤◌, ◌<◌, ◌⊎◌, ◌+◌, ◌++◌, ℕ, List, [], ◌∷◌, length, Option, Some}
use Rattle.outside.specs.Images.{Tells}
use Rattle.outside.specs.declared.disk.Disk.{Ghosts}
use Rattle.cbdc_types.specs.declared.answer.Answer.{Answer}
use Rattle.cbdc_types.specs.declared.answer.Answer.TheVariants as answers
use Rattle.cbdc_model.specs.Records.{Header}
use Rattle.rack_ledgers.specs.Places.{EachFrom, MayReturn, IsOpening}
use Rattle.rack_ledgers.specs.Racked.{OfTold, IsNodeOpened, IsReturned}
use Rattle.rack_ledgers.specs.declared.slots.Slot.{Slot}
use Rattle.rack_ledgers.specs.declared.slots.Slot.TheVariants as slots

-- its disk waits
abbrev pub IsWaitingSlot : {D N : Type 0} → Slot D N → Type 0
IsWaitingSlot (slots.Waiting n d) = Unit {0}
IsWaitingSlot other = ⊥

-- the nodes that are open, in order
abbrev pub nodes_in : {D N : Type 0} → List (Slot D N) → List N
nodes_in [] = []
nodes_in (slots.Opened x ∷ more) = x ∷ nodes_in more
nodes_in (other ∷ more) = nodes_in more

-- each place has an open node
abbrev pub AreNodesOpen : {D N : Type 0} → List (Slot D N) → Type 0
AreNodesOpen [] = Unit {0}
AreNodesOpen (slots.Opened x ∷ more) = AreNodesOpen more
AreNodesOpen (other ∷ more) = ⊥

-- no disk was refused
abbrev pub AreNotRefused : {D N : Type 0} → List (Slot D N) → Type 0
AreNotRefused [] = Unit {0}
AreNotRefused (slots.Refused d e ∷ more) = ⊥
AreNotRefused (other ∷ more) = AreNotRefused more

-- why the first disk that was refused was refused
abbrev pub IsFirstNodeRefusal : {D N : Type 0} → List (Slot D N) → Answer → Type 0
IsFirstNodeRefusal [] answer = ⊥
IsFirstNodeRefusal (slots.Refused d e ∷ more) answer = answer ≡ e
IsFirstNodeRefusal (other ∷ more) answer = IsFirstNodeRefusal more answer

-- why the first of so many nodes from a place on was not opened: it was refused, or else its disk could not be taken
abbrev pub IsFirstNodeFault : {D N : Type 0} → ℕ → ℕ → List (Slot D N) → Answer → Type 0
IsFirstNodeFault first count taken answer =
    IsFirstNodeRefusal taken answer
    ⊎ (AreNotRefused taken × (length taken < count) × (answer ≡ answers.DiskFault (first + length taken)))

-- so many items from a place on came behind others
pub record IsListGrown {N : Type 0} (P : ℕ → N → Type 0) (first count : ℕ) (front whole : List N) : Type 0 where
  pub more : List N
  pub parts : whole ≡ front ++ more
  pub all : length more ≡ count
  pub each : EachFrom P first more

module _ {D N : Type 0} (device : Ghosts D) (disk_of : N → D) where
  -- how often the disk there has failed
  abbrev pub faults_in : Slot D N → ℕ
  faults_in (slots.Waiting n d) = device.count d
  faults_in (slots.Opened x) = device.count (disk_of x)
  faults_in (slots.Refused d e) = device.count d
  faults_in slots.Gone = 0

  -- the disk there may be put back in its place
  abbrev pub MayPut : (ℕ → ℕ → Type 0) → ℕ → Slot D N → Type 0
  MayPut can_put n (slots.Waiting m d) = MayReturn device.count can_put n d
  MayPut can_put n (slots.Opened x) = MayReturn (λ y. device.count (disk_of y)) can_put n x
  MayPut can_put n (slots.Refused d e) = MayReturn device.count can_put n d
  MayPut can_put n slots.Gone = ⊥

-- there is a disk
abbrev pub HasDisk : {D N : Type 0} → Slot D N → Type 0
HasDisk slots.Gone = ⊥
HasDisk other = Unit {0}

-- this is the disk there
abbrev pub IsDiskIn : {D N : Type 0} → (N → D) → Slot D N → D → Type 0
IsDiskIn disk_of (slots.Waiting n x) d = d ≡ x
IsDiskIn disk_of (slots.Opened x) d = d ≡ disk_of x
IsDiskIn disk_of (slots.Refused x e) d = d ≡ x
IsDiskIn disk_of slots.Gone d = ⊥

-- the disk that was taken is the one that was told, and has failed no less often than its place
pub record IsTakenDisk {D : Type 0} (device : Ghosts D) (held : ℕ → Option D) (before : ℕ → ℕ) (n : ℕ) (disk : D) : Type 0 where
  pub told : OfTold (held n) (λ was. disk ≡ was)
  pub counted : before n ≤ device.count disk

-- it waits to be opened as the node of its place
abbrev pub IsTakenSlot : {D N : Type 0} → Ghosts D → (ℕ → Option D) → (ℕ → ℕ) → ℕ → Slot D N → Type 0
IsTakenSlot device held before n (slots.Waiting m d) = (m ≡ n) × IsTakenDisk device held before n d
IsTakenSlot device held before n other = ⊥

module _ {D N : Type 0} (device : Ghosts D) (disk_of : N → D) (opens : N → List ℕ → Type 0) (fits : ℕ → Option Header → N → Type 0)
    (refusals : Answer → Type 0) (refused : ℕ → Option Header → ℕ → List ℕ → Answer → Type 0) (h : Header) where
  -- this disk was opened as this node of the ledger with this header
  pub record IsOpenOn (n : ℕ) (was : D) (node : N) : Type 0 where
    pub asked : fits n (Some h) node
    pub since : device.count was ≤ device.count (disk_of node)
    pub opened : IsNodeOpened device disk_of opens was node

  -- this disk was refused as this node, and it came back so
  pub record IsRefusedOn (n : ℕ) (was is : D) (answer : Answer) : Type 0 where
    pub kind : refusals answer
    pub fault : IsOpening n (device.count was) (device.count is) answer
    pub later : device.count was ≤ device.count is
    pub cause : Tells (device.content was) (λ c. refused n (Some h) (device.limit was) c answer)
    pub back : IsReturned device (device.count was) (device.count is) was is

  -- what comes of a disk that waits
  abbrev pub SlotResult : Slot D N → Slot D N → Type 0
  SlotResult (slots.Waiting n was) (slots.Opened x) = IsOpenOn n was x
  SlotResult (slots.Waiting n was) (slots.Refused is e) = IsRefusedOn n was is e
  SlotResult old new = ⊥

  -- what became of the disk of a place
  pub record SlotResultAt (held : ℕ → Option D) (before : ℕ → ℕ) (n : ℕ) (slot : Slot D N) : Type 0 where
    pub disk : D
    pub taken : IsTakenDisk device held before n disk
    pub came : SlotResult (slots.Waiting n disk) slot

  -- what is known of the node of a place that is open
  abbrev pub OpensAt : (ℕ → Option D) → (ℕ → ℕ) → ℕ → N → Type 0
  OpensAt held before n x = (fits n (Some h) x × (before n ≤ device.count (disk_of x)))
      × OfTold (held n) (λ was. IsNodeOpened device disk_of opens was x)

  -- what is known of the answer where the node of a place can't be opened
  abbrev pub FailsAt : (ℕ → Option D) → (ℕ → ℕ) → (ℕ → ℕ) → ℕ → Answer → Type 0
  FailsAt held before now n e = (refusals e × IsOpening n (before n) (now n) e)
      × OfTold (held n) (λ was. Tells (device.content was) (λ c. refused n (Some h) (device.limit was) c e))
