-- What is on the disks of a ledger that was made, and why one was not.
use Rattle.std.specs.Prelude.{◌≡◌, ◌≢◌, ◌⊎◌, ◌+◌, ◌^◌, ◌≤◌, ◌<◌, ℕ, List, [], ◌∷◌, length, Option, IsSome}
use Rattle.outside.specs.Counts.{Rose}
use Rattle.outside.specs.Images.{Tells}
use Rattle.outside.specs.declared.disk.Disk.{Ghosts}
use Rattle.cbdc_types.specs.declared.answer.Answer.{Answer}
use Rattle.cbdc_types.specs.declared.answer.Answer.TheVariants as answers
use Rattle.cbdc_model.specs.Records.{Shape, Record}
use Rattle.cbdc_model.specs.Ranges.{node_count}
use Rattle.cbdc_model.specs.Coins.{Output}
use Rattle.cbdc_model.specs.Clean.{value_out}
use Rattle.cbdc_model.specs.History.{minted}
use Rattle.cbdc_model.specs.World.{first_record}
use Rattle.cbdc_model.specs.Room.{size_of}
use Rattle.record_log.specs.Bodies.{body_of}
use Rattle.record_log.specs.Held.{HoldsRecords}
use Rattle.gate_journal.specs.Formatting.{IsEmptied}
use Rattle.rack_ledgers.specs.Racked.{OfTold, IsUnchanged, Disks, AreDisksBack}
use Rattle.rack_ledgers.specs.Blank.{IsInUse, IsUnused}
use Rattle.rack_ledgers.specs.First.{IsBegun}

-- the first record of a node of the ledger that a mint begins
abbrev pub first_record_of : Shape → List Output → ℕ → Record
first_record_of K mint n = first_record K (minted mint) n

-- where the disk told its content, it now holds this record alone, and so does whatever a crash may leave of it
abbrev pub HoldsFirst : {D : Type 0} → Ghosts D → Record → Option D → Option D → Type 0
HoldsFirst device first old new = OfTold old (λ was. OfTold new
    (λ now. IsSome (device.content was) → HoldsRecords (device.content now) (device.images now) (9 + length (body_of first)) (first ∷ [])))

-- where the disk told its content, a crash leaves nothing but what has the property, by what it might have left before
abbrev pub LeavesBut : {D : Type 0} → Ghosts D → ((List ℕ → Type 0) → List ℕ → Type 0) → Option D → Option D → Type 0
LeavesBut device P old new = OfTold old (λ was. OfTold new
    (λ now. IsSome (device.content was) → (c : List ℕ) → device.images now c → P (device.images was) c))

-- the node's disk, where its content is told, is in use
abbrev pub ToldInUse : {D : Type 0} → Ghosts D → (ℕ → Option D) → ℕ → Type 0
ToldInUse device held n = OfTold (held n) (λ was. Tells (device.content was) (IsInUse n))

-- the node's disk, where its content is told, is not in use
abbrev pub ToldUnused : {D : Type 0} → Ghosts D → (ℕ → Option D) → ℕ → Type 0
ToldUnused device held n = OfTold (held n) (λ was. Tells (device.content was) (IsUnused n))

-- the mint's values fit, and no node's disk is in use
pub record MayBeMade {D : Type 0} (K : Shape) (mint : List Output) (device : Ghosts D) (held : ℕ → Option D) : Type 0 where
  pub fits : value_out mint < 2 ^ 64
  pub unused : (n : ℕ) → n < node_count K → ToldUnused device held n

-- this node is in use, and is the first one
pub record IsFirstInUse {D : Type 0} (K : Shape) (mint : List Output) (device : Ghosts D) (held : ℕ → Option D) (node : ℕ) : Type 0 where
  pub fits : value_out mint < 2 ^ 64
  pub inside : node < node_count K
  pub in_use : ToldInUse device held node
  pub before : (n : ℕ) → n < node → ToldUnused device held n

-- there is room for the node's first record and a closing gate
abbrev pub HasPlaceFor : {D : Type 0} → Shape → List Output → Ghosts D → (ℕ → Option D) → ℕ → Type 0
HasPlaceFor K mint device held n = OfTold (held n) (λ was. size_of (first_record_of K mint n) + 1 ≤ device.limit was)

-- this node has no room for its first record, and is the last one
pub record IsLastFull {D : Type 0} (K : Shape) (mint : List Output) (device : Ghosts D) (held : ℕ → Option D) (node need capacity : ℕ) : Type 0 where
  pub inside : node < node_count K
  pub need_is : need ≡ size_of (first_record_of K mint node) + 1
  pub capacity_is : OfTold (held node) (λ was. capacity ≡ device.limit was)
  pub passes : capacity < need
  pub above : (n : ℕ) → node < n → n < node_count K → HasPlaceFor K mint device held n

-- why a ledger was not made of these disks, whose counts of faults were and are these
abbrev pub IsUnmade : {D : Type 0} → Shape → List Output → Ghosts D → (ℕ → Option D) → (ℕ → ℕ) → (ℕ → ℕ) → Answer → Type 0
IsUnmade K mint device held before now (answers.TooMuch total) = (total ≡ value_out mint) × (2 ^ 64 ≤ total)
IsUnmade K mint device held before now (answers.NotEmpty n) = IsFirstInUse K mint device held n
IsUnmade K mint device held before now (answers.Full n used need capacity) = MayBeMade K mint device held × (used ≡ 0)
    × IsLastFull K mint device held n need capacity
IsUnmade K mint device held before now (answers.DiskFault n) = (value_out mint < 2 ^ 64) × (n < node_count K) × Rose (before n) (now n)
    × ((m : ℕ) → m < n → ToldUnused device held m)
IsUnmade K mint device held before now answers.Memory = Unit {0}
IsUnmade K mint device held before now other = ⊥

-- ---- what is left of the disks of a ledger that was not made

-- the answer speaks of this node: its disk has no room, or failed; memory may run out at any node
abbrev pub IsOfNode : ℕ → Answer → Type 0
IsOfNode k (answers.Full n used need capacity) = n ≡ k
IsOfNode k (answers.DiskFault n) = n ≡ k
IsOfNode k answers.Memory = Unit {0}
IsOfNode k other = ⊥

-- no node was in use (`MayBeMade`), and the writing of first records, from the highest node down, stopped at this one, of which the answer speaks.
-- The disks of the nodes below it are unchanged, those above it hold their first records, and a crash leaves of its own no first record, what it
-- might have left before, or, where the disk failed, the new one alone
pub record InitStoppedAt {D : Type 0} (K : Shape) (mint : List Output) (device : Ghosts D) (before now : ℕ → Option D) (answer : Answer) (k : ℕ) :
    Type 0 where
  pub was : MayBeMade K mint device before
  pub inside : k < node_count K
  pub told : IsOfNode k answer
  pub below : (n : ℕ) → n < k → IsUnchanged device (before n) (now n)
  pub begun : LeavesBut device (λ was. IsBegun was (first_record_of K mint k)) (before k) (now k)
  pub emptied : answer ≢ answers.DiskFault k → LeavesBut device IsEmptied (before k) (now k)
  pub above : (n : ℕ) → k < n → n < node_count K → HoldsFirst device (first_record_of K mint n) (before n) (now n)
  pub outside : (n : ℕ) → node_count K ≤ n → now n ≡ before n

-- all disks are as they were read, or the writing stopped at a node
abbrev pub AreDisksLeft : {D : Type 0} → Shape → List Output → Ghosts D → Disks D → Disks D → Answer → Type 0
AreDisksLeft K mint device before after answer =
    AreDisksBack device before after ⊎ ((k : ℕ) × InitStoppedAt K mint device before.held after.held answer k)
