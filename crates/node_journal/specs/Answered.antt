-- What a call leaves of a node, and answers.
use Rattle.std.specs.Prelude.{◌≡◌, Bool, Result}
use Rattle.cbdc_types.specs.declared.calls.NodeFault.{NodeFault}
use Rattle.cbdc_model.specs.After.{IsJournal}
use Rattle.cbdc_model.specs.Records.{Record}
use Rattle.cbdc_model.specs.Due.{Due, Writes}
use Rattle.cbdc_model.specs.Sights.{IsSameNode, Meets}
use Rattle.outside.specs.declared.disk.Disk.{Ghosts}
use Rattle.node_journal.specs.Nodes.{NodeOf, sight, HoldsJournal, LeavesBetween, broken_behind}

-- what a call leaves of a node, whatever it was owed: it is the same node, broken from a fault of its disk on, and its journal is one; a disk that
-- held the journal holds it; and a crash at any moment of the call leaves the journal from before it or the one behind it
pub record KeepsNode {D A : Type 0} (device : Ghosts D) (old new : NodeOf D) (result : Result A NodeFault) : Type 0 where
  pub node : IsSameNode (sight old) (sight new)
  pub broken : new.broken ≡ broken_behind result new.faults old.broken
  pub journal : IsJournal new.header new.journal
  pub holds : HoldsJournal device old → HoldsJournal device new
  pub leaves : HoldsJournal device old → LeavesBetween device old new

-- a call at a node did what the node owed it, or where it takes memory, there was none; and it left of the node what each call leaves
pub record HasAnswered {D A : Type 0} (device : Ghosts D) (memory : Bool) (due : Due A) (old new : NodeOf D) (result : Result A NodeFault) : Type 0
  where
    pub meets : Meets memory due (sight old) (sight new) old.journal result
    pub keeps : KeepsNode device old new result

-- what is owed to the writing of one record
abbrev pub one_write : Record → Due (Unit {0})
one_write r = Writes tt r
