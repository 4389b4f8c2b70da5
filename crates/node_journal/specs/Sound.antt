-- What always holds of a node of either kind, by its parts and by what contracts see of it.
use Rattle.std.specs.Prelude.{◌≡◌, ◌+◌, ◌≤◌, List, reverse, None, IfSome}
use Rattle.cbdc_types.specs.Limits.{IsWithinLimits}
use Rattle.cbdc_model.specs.Records.{Header, Record}
use Rattle.cbdc_model.specs.After.{After, IsJournal}
use Rattle.cbdc_model.specs.Room.{kept_room, need_of}
use Rattle.cbdc_model.specs.Due.{used_of}
use Rattle.cbdc_model.specs.Sights.{IsBrokenSince}
use Rattle.outside.specs.declared.disk.Disk.{Ghosts}
use Rattle.gate_journal.specs.Shown.{disk_of, gate_of, broken_of}
use Rattle.node_journal.specs.Nodes.{NodeOf}
use Rattle.node_journal.specs.Shown.{shown}
use Rattle.node_journal.specs.declared.nodes.Node.{Node}

-- its journal, the newest record first
abbrev pub journal_of : {C D : Type 0} {G : Ghosts D} → Node C D G → List Record
journal_of n = reverse n.log.records.items

-- what contracts see of it
abbrev pub view_of : {C D : Type 0} {G : Ghosts D} → Node C D G → NodeOf D
view_of n = shown n.log n.opened n.flight

-- its journal is one of the kind; no append has failed but one since it was opened, whose record is in flight: it may come next, and had room; until
-- then the disk takes as many bytes as the journal says
pub record IsNode {C D : Type 0} {G : Ghosts D} (Is : Header → Type 0) (n : Node C D G) : Type 0 where
  pub journal : IsJournal n.log.header (journal_of n)
  pub kind : Is n.log.header
  pub limits : IsWithinLimits n.log.header.shape
  pub opened : n.opened ≤ G.count (disk_of n.log.journal)
  pub since : IsBrokenSince n.opened (G.count (disk_of n.log.journal)) (broken_of n.log.journal)
  pub used : broken_of n.log.journal ≡ None → gate_of n.log.journal + 1 ≡ used_of (journal_of n)
  pub landed : broken_of n.log.journal ≡ None → n.flight ≡ None
  pub unbroken : n.flight ≡ None → broken_of n.log.journal ≡ None
  pub flying : IfSome n.flight (After n.log.header (journal_of n))
  pub fits : IfSome n.flight (λ r. used_of (journal_of n) + need_of n.log.header.shape (journal_of n) r ≤ G.limit (disk_of n.log.journal))

-- it was just opened: its core stands for the journal, whose bytes, with those that are kept for its unfinished batches, lie within the capacity
pub record IsOpened {C D : Type 0} {G : Ghosts D} (header_of : C → Header) (StandsFor : C → List Record → Type 0) (Is : Header → Type 0)
    (n : Node C D G) : Type 0 where
  pub node : IsNode Is n
  pub header : header_of n.core ≡ n.log.header
  pub stands : StandsFor n.core (journal_of n)
  pub landed : n.flight ≡ None
  pub now : n.opened ≡ G.count (disk_of n.log.journal)
  pub room : used_of (journal_of n) + kept_room n.log.header.shape (journal_of n) ≤ G.limit (disk_of n.log.journal)

-- what is seen of a node: its disk's count has not fallen since it was opened, and has risen if an append has failed since; exactly then a record is
-- in flight, and it had room; what its journal takes, with what is kept for its unfinished batches, lies within the capacity
pub record IsSoundNode {D : Type 0} (device : Ghosts D) (n : NodeOf D) : Type 0 where
  pub since_opened : n.opened ≤ n.faults
  pub since_broken : IsBrokenSince n.opened n.faults n.broken
  pub count : n.faults ≡ device.count n.disk
  pub capacity : n.capacity ≡ device.limit n.disk
  pub landed : n.broken ≡ None → n.flight ≡ None
  pub unbroken : n.flight ≡ None → n.broken ≡ None
  pub fits : IfSome n.flight (λ r. used_of n.journal + need_of n.header.shape n.journal r ≤ n.capacity)
  pub room : used_of n.journal + kept_room n.header.shape n.journal ≤ n.capacity
