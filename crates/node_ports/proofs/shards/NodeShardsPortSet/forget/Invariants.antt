use Rattle.std.proofs.Common.{◌≡◌, ◌≤◌, ℕ, true, length, take}
use Rattle.std.specs.List.{AllZip}
use Rattle.std.specs.Vec.{vec_capacity, vec_len}
use Rattle.lane_laws.specs.Answers.{ForgetAnswer, EachTold, Others}
use Rattle.lane_driver.specs.Told.{StampTold, KeepNodes}
use Rattle.node_journal.specs.Nodes.{sight}
use Rattle.node_ports.specs.Nodes.{sight_at, AreNodesHeld}
use Rattle.node_ports.proofs.shards.NodeShardsPortSet.forget.Given as goal

abbrev pub invariant-calls : goal.invariant-calls
invariant-calls g l = record {
  each : AllZip (StampTold) (take l.shard-index l.calls) l.out.items;
  told : EachTold (ForgetAnswer true) (take l.shard-index l.calls) l.out.items (sight_at sight l.initial.self.nodes.items)
      (sight_at sight l.self.nodes.items);
  untouched : Others (take l.shard-index l.calls) (sight_at sight l.initial.self.nodes.items) (sight_at sight l.self.nodes.items);
  nodes : KeepNodes (sight_at sight l.initial.self.nodes.items) (sight_at sight l.self.nodes.items);
  filled : vec_len l.out ≡ l.shard-index;
  capacity : vec_capacity l.out ≡ vec_capacity l.initial.out;
  count : length l.self.nodes.items ≡ length l.initial.self.nodes.items;
  later : (n : ℕ) → ((sight_at sight l.initial.self.nodes.items) n).faults ≤ ((sight_at sight l.self.nodes.items) n).faults;
  holds : AreNodesHeld g.D.Disk l.initial.self.nodes.items → AreNodesHeld g.D.Disk l.self.nodes.items;
}
