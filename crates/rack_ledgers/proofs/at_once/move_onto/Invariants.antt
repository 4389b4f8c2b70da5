use Rattle.std.proofs.Common.{◌≡◌, ◌≤◌, ◌+◌, ◌++◌, length, reverse, vec_len}
use Rattle.std.specs.Prelude.{vec_capacity}
use Rattle.rack_ledgers.specs.Slots.{nodes_in, AreNodesOpen}
use Rattle.rack_ledgers.proofs.at_once.move_onto.Given as goal

abbrev pub invariant-slots : goal.invariant-slots
invariant-slots g l = record {
  opened : AreNodesOpen (reverse l.slots.items);
  room : length l.nodes.items + length l.slots.items ≤ vec_capacity l.nodes;
  moved : l.nodes.items ++ nodes_in (reverse l.slots.items) ≡ l.initial.nodes.items ++ nodes_in (reverse l.initial.slots.items);
}

abbrev pub decreases-slots : goal.decreases-slots
decreases-slots g l = vec_len l.slots
