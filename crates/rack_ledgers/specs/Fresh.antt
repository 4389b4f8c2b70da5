-- What is known of a node of a kind as it is opened.
use Rattle.std.specs.Prelude.{◌≡◌, ◌+◌, ◌≤◌, ℕ, List, Option, None}
use Rattle.outside.specs.declared.disk.Disk.{Ghosts}
use Rattle.cbdc_model.specs.Records.{Header}
use Rattle.cbdc_model.specs.After.{IsJournal}
use Rattle.cbdc_model.specs.Room.{kept_room}
use Rattle.cbdc_model.specs.Due.{used_of}
use Rattle.node_journal.specs.Nodes.{NodeOf, HoldsJournal}
use Rattle.node_journal.specs.Opening.{IsJournalOf}
use Rattle.rack_ledgers.specs.Asked.{IsHeaderAsked}

-- it is the node of the kind with this number, of the ledger with this header or of any; nothing is in flight, its disk has not failed since, and
-- there is room for what its batches still need
pub record FitsNode {D : Type 0} (device : Ghosts D) (Is : Header → Type 0) (node : ℕ) (ledger : Option Header) (n : NodeOf D) : Type 0 where
  pub asked : IsHeaderAsked node ledger n.header
  pub kind : Is n.header
  pub journal : IsJournal n.header n.journal
  pub flight : n.flight ≡ None
  pub broken : n.broken ≡ None
  pub since : n.opened ≡ n.faults
  pub faults : n.faults ≡ device.count n.disk
  pub capacity : n.capacity ≡ device.limit n.disk
  pub room : used_of n.journal + kept_room n.header.shape n.journal ≤ n.capacity

-- this content opens to its journal, which its disk holds
abbrev pub StandsNode : {D : Type 0} → Ghosts D → (Header → Type 0) → NodeOf D → List ℕ → Type 0
StandsNode device Is n c = IsJournalOf Is n.header n.journal c × HoldsJournal device n
