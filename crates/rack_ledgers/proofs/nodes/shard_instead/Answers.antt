use Rattle.std.proofs.Common.{sym, subst, arith, inr}
use Rattle.std.specs.Option.{option_copied}
use Rattle.cbdc_types.specs.declared.answer.Answer.{Answer}
use Rattle.cbdc_types.specs.declared.calls.NodeOpenFault.{NodeOpenFault}
use Rattle.coord_log.specs.Opening.{IsCoord}
use Rattle.shard_node.specs.Opening.{IsShardHeader, IsStart, IsNoShard}
use Rattle.rack_ledgers.specs.Refused.{IsNoNode}
use Rattle.rack_ledgers.proofs.Refusals.{told_foreign, other_node, node_refused, not_both_kinds}
use Rattle.rack_ledgers.proofs.nodes.shard_instead.Goals as goal

pub returns-in-Ok-clause-refusal : goal.returns-in-Ok-clause-refusal
returns-in-Ok-clause-refusal g c = λ bytes told genesis.
    let is = (c.in-Ok.ensures.opens bytes told).0 in
    let kind = is.kind in
    told_foreign IsCoord c.args.node (option_copied c.args.ledger) (g.D.Disk.limit c.args.disk) bytes c.header.result.now c.in-Ok.shard.header
    c.foreign-answer.result c.header.ensures.header c.foreign-answer.ensures
    (other_node IsCoord c.args.node (option_copied c.args.ledger) (g.D.Disk.limit c.args.disk) bytes IsShardHeader c.in-Ok.shard.header
    c.in-Ok.shard.journal is (omega (arith, c.in-Ok.ensures.room, c.in-Ok.ensures.limit))
    (inr (λ below. absurd (omega (arith, below, kind.0)))))

pub returns-in-Err-clause-refusal : goal.returns-in-Err-clause-refusal
returns-in-Err-clause-refusal g c = λ bytes told genesis.
    let refused = c.in-Err.ensures.refusal bytes told in
    subst (λ (a : Answer). IsNoNode IsCoord c.args.node (option_copied c.args.ledger) (g.D.Disk.limit c.args.disk) bytes a)
    (sym c.answer_of.ensures.told)
    (node_refused IsCoord c.args.node (option_copied c.args.ledger) (g.D.Disk.limit c.args.disk) bytes IsShardHeader IsStart c.in-Err.fault
    (λ other. not_both_kinds bytes (subst (λ (f : NodeOpenFault). IsNoShard (g.D.Disk.limit c.args.disk) bytes f) other refused) genesis) refused)
