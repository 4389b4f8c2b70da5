use Rattle.std.proofs.Common.{true, subst, rules}
use Rattle.std.specs.List.{All}
use Rattle.std.specs.Result.{IfOk}
use Rattle.cbdc_model.specs.Calls.{IsLockCall}
use Rattle.cbdc_model.specs.Grammar.{IsReply}
use Rattle.cbdc_model.specs.Due.{lock_due}
use Rattle.cbdc_model.specs.Sights.{Sight, Told}
use Rattle.lane_driver.specs.Told.{IsStamp}
use Rattle.node_journal.specs.Nodes.{sight}
use Rattle.node_ports.specs.Nodes.{IsNodeHeld}
use Rattle.node_ports.proofs.Places.{old_is, one_turned, set_elsewhere, turned_nodes, turned_faults, turned_held}
use Rattle.node_ports.proofs.shards.NodeShards.lock_one.Goals as goal

pub lock-requires-clause-call : goal.lock-requires-clause-call
lock-requires-clause-call g c =
    let P : Sight → Type 0 = λ a. IsLockCall a.header c.args.call.now in
    subst P (old_is sight c.args.self.now.nodes.items c.args.shard c.index_mut.result.now c.index_mut.result.now c.requires.place
    c.index_mut.ensures.value) c.requires.call

pub returns-clause-answer : goal.returns-clause-answer
returns-clause-answer g c =
    one_turned sight c.args.self.now.nodes.items c.args.shard c.index_mut.result.now _ c.requires.place c.index_mut.ensures.value
    (λ a b. Told true c.args.call.now.batch.lane true (lock_due a.header.shape a.capacity c.args.call.now) a b c.lock.result) (search rules)

pub returns-clause-elsewhere : goal.returns-clause-elsewhere
returns-clause-elsewhere g c =
    λ n ne. set_elsewhere sight c.args.self.now.nodes.items c.args.shard _ n ne

pub returns-clause-nodes : goal.returns-clause-nodes
returns-clause-nodes g c =
    turned_nodes sight c.args.self.now.nodes.items c.args.shard c.index_mut.result.now _ c.requires.place c.index_mut.ensures.value
    (search (rules, c.lock.ensures.keeps.node))

pub returns-clause-later : goal.returns-clause-later
returns-clause-later g c =
    turned_faults sight c.args.self.now.nodes.items c.args.shard c.index_mut.result.now _ c.requires.place c.index_mut.ensures.value
    (search (rules, c.lock.ensures.keeps.later))

pub returns-clause-holds : goal.returns-clause-holds
returns-clause-holds g c =
    turned_held sight c.args.self.now.nodes.items c.args.shard c.index_mut.result.now _ c.requires.place c.index_mut.ensures.value
    (IsNodeHeld g.D.Disk) (search (rules, c.lock.ensures.keeps.held))

pub returns-clause-told : goal.returns-clause-told
returns-clause-told g c =
    one_turned sight c.args.self.now.nodes.items c.args.shard c.index_mut.result.now c.lock.new.self.shard.now c.requires.place
    c.index_mut.ensures.value (λ a b. IfOk c.lock.result (λ r. IsStamp r.stamp × All (IsReply a.header.shape) r.replies)) c.lock.ensures.replied
