use Rattle.std.proofs.Common.{sym, subst, arith, inr}
use Rattle.std.specs.Option.{option_copied}
use Rattle.cbdc_types.specs.declared.answer.Answer.{Answer}
use Rattle.cbdc_types.specs.declared.calls.NodeOpenFault.{NodeOpenFault}
use Rattle.coord_log.specs.Opening.{IsCoord, IsGenesis, IsNoCoord}
use Rattle.shard_node.specs.Opening.{IsShardHeader}
use Rattle.rack_ledgers.specs.Refused.{IsNoNode}
use Rattle.rack_ledgers.proofs.Refusals.{told_foreign, other_node, node_refused, not_both_kinds}
use Rattle.rack_ledgers.proofs.nodes.coordinator_instead.Goals as goal

pub returns-in-Ok-clause-refusal : goal.returns-in-Ok-clause-refusal
returns-in-Ok-clause-refusal g c = λ bytes told start.
    let is = (c.in-Ok.ensures.opens bytes told).0 in
    let kind = is.kind in
    told_foreign IsShardHeader c.args.node (option_copied c.args.ledger) (g.D.Disk.limit c.args.disk) bytes c.header.result.now c.in-Ok.log.header
    c.foreign-answer.result c.header.ensures.header c.foreign-answer.ensures
    (other_node IsShardHeader c.args.node (option_copied c.args.ledger) (g.D.Disk.limit c.args.disk) bytes IsCoord c.in-Ok.log.header
    c.in-Ok.log.journal is (omega (arith, c.in-Ok.ensures.room, c.in-Ok.ensures.limit))
    (inr (λ here. absurd (omega (arith, here.0, kind)))))

pub returns-in-Err-clause-refusal : goal.returns-in-Err-clause-refusal
returns-in-Err-clause-refusal g c = λ bytes told start.
    let refused = c.in-Err.ensures.refusal bytes told in
    subst (λ (a : Answer). IsNoNode IsShardHeader c.args.node (option_copied c.args.ledger) (g.D.Disk.limit c.args.disk) bytes a)
    (sym c.answer_of.ensures.told)
    (node_refused IsShardHeader c.args.node (option_copied c.args.ledger) (g.D.Disk.limit c.args.disk) bytes IsCoord IsGenesis c.in-Err.fault
    (λ other. not_both_kinds bytes start (subst (λ (f : NodeOpenFault). IsNoCoord (g.D.Disk.limit c.args.disk) bytes f) other refused)) refused)
