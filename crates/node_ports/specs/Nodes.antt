-- Nodes by their places in a list.
use Rattle.std.specs.Prelude.{ℕ, zero, suc, List, [], ◌∷◌, Option, None, All}
use Rattle.outside.specs.declared.disk.Disk.{Ghosts}
use Rattle.cbdc_model.specs.Records.{txs_of}
use Rattle.cbdc_model.specs.Slots.{slot}
use Rattle.cbdc_model.specs.Due.{open_batch}
use Rattle.cbdc_model.specs.After.{IsJournal}
use Rattle.cbdc_model.specs.Sights.{Sight}
use Rattle.lane_driver.specs.Told.{KeepsOtherLanes}
use Rattle.node_journal.specs.Nodes.{NodeOf, HoldsJournal}

-- a node that isn't there: its ledger has no lanes
abbrev pub no_sight : Sight
no_sight = record {
  header = record { node = 0; shape = record { shards = 0; coordinators = 0; lanes = 0; batch = 0 }; genesis = [] };
  seen = [];
  flight = None;
  faults = 0;
  opened = 0;
  capacity = 0;
}

-- what is seen of the node at a place
abbrev pub sight_at : {N : Type 0} → (N → Sight) → List N → ℕ → Sight
sight_at sight [] n = no_sight
sight_at sight (x ∷ xs) zero = sight x
sight_at sight (x ∷ xs) (suc n) = sight_at sight xs n

-- the node's journal is one of its header, and its disk holds it
pub record IsNodeHeld {D : Type 0} (device : Ghosts D) (n : NodeOf D) : Type 0 where
  pub journal : IsJournal n.header n.journal
  pub held : HoldsJournal device n

-- so it is with each of these nodes
abbrev pub AreNodesHeld : {D : Type 0} → Ghosts D → List (NodeOf D) → Type 0
AreNodesHeld device nodes = All (IsNodeHeld device) nodes

-- the coordinator's other lanes are as before
abbrev pub KeepsRest : Sight → Sight → ℕ → Type 0
KeepsRest old new lane =
    KeepsOtherLanes old.header lane (λ l. (slot old.seen l).phase) (λ l. (slot new.seen l).phase) (λ l. txs_of old.seen (open_batch old.seen l))
    (λ l. txs_of new.seen (open_batch new.seen l))
