use Rattle.std.proofs.Common.{arith, inl}
use Rattle.std.specs.Option.{option_copied}
use Rattle.shard_node.specs.Opening.{IsShardHeader}
use Rattle.rack_ledgers.proofs.Refusals.{told_foreign, other_node, not_kept}
use Rattle.rack_ledgers.proofs.nodes.ShardNodeOnDisk.open_disk.Goals as goal

pub returns-else-is_asked-clause-refusal : goal.returns-else-is_asked-clause-refusal
returns-else-is_asked-clause-refusal g c = λ bytes told.
    let ledger = option_copied c.args.ledger in
    told_foreign IsShardHeader c.args.node ledger (g.D.Disk.limit c.args.disk) bytes c.header-else-is_asked.result.now c.in-Ok.shard.header
    c.foreign-answer.result c.header-else-is_asked.ensures.header c.foreign-answer.ensures
    (other_node IsShardHeader c.args.node ledger (g.D.Disk.limit c.args.disk) bytes IsShardHeader c.in-Ok.shard.header c.in-Ok.shard.journal
    (c.in-Ok.ensures.opens bytes told).0 (omega (arith, c.in-Ok.ensures.room, c.in-Ok.ensures.limit))
    (inl (not_kept c.is_asked.result c.args.node ledger c.header.result.now c.in-Ok.shard.header c.if-is_asked.false c.is_asked.ensures
    c.header.ensures.header)))
