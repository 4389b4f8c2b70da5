use Rattle.std.proofs.Common.{subst}
use Rattle.std.specs.Prelude.{map, IfOk}
use Rattle.rack_runs.specs.Telling.{CountAll}
use Rattle.rack_runs.proofs.Closing.{may_close, closed}
use Rattle.rack_runs.proofs.racks.end_on.Goals as goal

pub close_nodes-requires : goal.close_nodes-requires
close_nodes-requires g c =
    may_close g.R.Disk.Disk (g.K.Work.deed c.args.work.now) c.requires.come.0 (g.R.Rack.held c.args.rack.now) (g.R.Rack.can_put c.args.rack.now)
    (g.R.Rack.can_take c.args.rack.now) c.nodes_of-nodes.result.header c.nodes_of-nodes.result.logs.items c.nodes_of-nodes.result.shards.items
    c.nodes_of-nodes.ensures.ledger c.nodes_of-nodes.ensures.seen c.args.ledger c.nodes_of-nodes.ensures.same c.args.resumed.items c.args.came
    c.requires.come.1

pub returns-clause-done : goal.returns-clause-done
returns-clause-done g c e has =
    closed g.R.Disk.Disk (g.K.Work.deed c.args.work.now) e (g.R.Rack.held c.args.rack.now) (g.R.Rack.can_put c.args.rack.now)
    (g.R.Rack.can_take c.args.rack.now) c.nodes_of-nodes.result.header c.nodes_of-nodes.result.logs.items c.nodes_of-nodes.result.shards.items
    c.nodes_of-nodes.ensures.ledger c.nodes_of-nodes.ensures.seen c.args.ledger c.nodes_of-nodes.ensures.same c.args.resumed.items c.args.came has
    (g.R.Rack.held c.close_nodes.new.rack) c.close_nodes.ensures.closed_logs c.close_nodes.ensures.closed_shards
    (g.R.Rack.count c.close_nodes.new.rack) c.close_nodes.ensures.counted_logs c.close_nodes.ensures.counted_shards
    c.close_nodes.ensures.others_held c.told_of-told.result c.told_of-told.ensures.fault c.told_of-told.ensures.same
    (subst (λ xs. IfOk c.told_of-told.result (λ t. CountAll (map (λ s. s.journal) xs) t.unspent)) c.as_slice.ensures.value
    c.told_of-told.ensures.unspent) c.requires.fit
