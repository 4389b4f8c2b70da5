use Rattle.std.proofs.Common.{true, false, subst, rules}
use Rattle.cbdc_model.specs.Calls.{IsFinishCall}
use Rattle.cbdc_model.specs.Due.{finish_due}
use Rattle.cbdc_model.specs.Sights.{Sight, Told}
use Rattle.node_journal.specs.Nodes.{sight}
use Rattle.node_ports.specs.Nodes.{IsNodeHeld}
use Rattle.node_ports.proofs.Places.{old_is, one_turned, set_elsewhere, turned_nodes, turned_faults, turned_held}
use Rattle.node_ports.proofs.shards.NodeShards.finish_one.Goals as goal

pub finish-requires-clause-call : goal.finish-requires-clause-call
finish-requires-clause-call g c =
    let P : Sight → Type 0 = λ a. IsFinishCall a.header c.args.call.now in
    subst P (old_is sight c.args.self.now.nodes.items c.args.shard c.index_mut.result.now c.index_mut.result.now c.requires.place
    c.index_mut.ensures.value) c.requires.call

pub returns-clause-answer : goal.returns-clause-answer
returns-clause-answer g c =
    one_turned sight c.args.self.now.nodes.items c.args.shard c.index_mut.result.now _ c.requires.place c.index_mut.ensures.value
    (λ a b. Told true c.args.call.now.batch.lane false (finish_due c.args.call.now) a b c.finish.result) (search rules)

pub returns-clause-elsewhere : goal.returns-clause-elsewhere
returns-clause-elsewhere g c =
    λ n ne. set_elsewhere sight c.args.self.now.nodes.items c.args.shard _ n ne

pub returns-clause-nodes : goal.returns-clause-nodes
returns-clause-nodes g c =
    turned_nodes sight c.args.self.now.nodes.items c.args.shard c.index_mut.result.now _ c.requires.place c.index_mut.ensures.value
    (search (rules, c.finish.ensures.keeps.node))

pub returns-clause-later : goal.returns-clause-later
returns-clause-later g c =
    turned_faults sight c.args.self.now.nodes.items c.args.shard c.index_mut.result.now _ c.requires.place c.index_mut.ensures.value
    (search (rules, c.finish.ensures.keeps.later))

pub returns-clause-holds : goal.returns-clause-holds
returns-clause-holds g c =
    turned_held sight c.args.self.now.nodes.items c.args.shard c.index_mut.result.now _ c.requires.place c.index_mut.ensures.value
    (IsNodeHeld g.D.Disk) (search (rules, c.finish.ensures.keeps.held))

pub returns-clause-told : goal.returns-clause-told
returns-clause-told g c =
    c.finish.ensures.stamp
