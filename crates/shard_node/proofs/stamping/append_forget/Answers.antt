use Rattle.std.proofs.Common.{false, None, refl, reverse, arith}
use Rattle.cbdc_model.specs.Records.{Forget}
use Rattle.cbdc_model.specs.Due.{forget_due}
use Rattle.node_journal.specs.Sound.{view_of}
use Rattle.node_journal.proofs.Answered.{by_write_ok, by_write_err}
use Rattle.shard_node.proofs.Keeps.{failed}
use Rattle.shard_node.proofs.Stamps.{forget_fits, forget_memory, forget_need, forget_wrote, forget_owes}
use Rattle.shard_node.proofs.stamping.append_forget.Goals as goal

pub write-requires-clause-after : goal.write-requires-clause-after
write-requires-clause-after g c = forget_fits c.args.parts.now c.args.call.now c.args.stamp c.requires.shard c.requires.call c.requires.whole
    c.requires.next (omega arith)

pub write-requires-clause-memory : goal.write-requires-clause-memory
write-requires-clause-memory g c = forget_memory c.args.parts.now c.args.call.now c.args.stamp c.requires.shard c.requires.call c.requires.whole
    c.requires.next (omega arith)

pub write-requires-clause-need : goal.write-requires-clause-need
write-requires-clause-need g c = forget_need c.args.parts.now c.args.call.now c.args.stamp c.requires.shard c.requires.call c.requires.whole
    c.requires.next (omega arith)

pub returns-in-Ok-clause-shard : goal.returns-in-Ok-clause-shard
returns-in-Ok-clause-shard g c = forget_wrote c.args.parts.now c.args.call.now c.args.stamp c.requires.shard c.requires.call c.requires.whole
    c.requires.next (omega arith) c.write.new.node c.write.ensures.node c.in-Ok.ensures.written

pub returns-in-Err-clause-shard : goal.returns-in-Err-clause-shard
returns-in-Err-clause-shard g c = failed c.args.parts.now c.args.parts.now.decisions c.write.new.node c.requires.shard refl c.write.ensures.node
    c.in-Err.ensures.failed

pub returns-in-Ok-clause-answered : goal.returns-in-Ok-clause-answered
returns-in-Ok-clause-answered g c =
    by_write_ok g.D.Disk false (forget_due c.args.call.now None (reverse c.args.parts.now.node.log.records.items)) (view_of c.args.parts.now.node)
    (view_of c.write.new.node) c.args.stamp (Forget c.args.stamp c.args.call.now.batch) tt
    (forget_owes c.args.parts.now c.args.call.now c.args.stamp c.requires.shard c.requires.call c.requires.whole c.requires.next (omega arith))
    c.in-Ok.ensures.answered

pub returns-in-Err-clause-answered : goal.returns-in-Err-clause-answered
returns-in-Err-clause-answered g c =
    by_write_err g.D.Disk false (forget_due c.args.call.now None (reverse c.args.parts.now.node.log.records.items)) (view_of c.args.parts.now.node)
    (view_of c.write.new.node) c.args.stamp (Forget c.args.stamp c.args.call.now.batch) c.in-Err.fault
    (forget_owes c.args.parts.now c.args.call.now c.args.stamp c.requires.shard c.requires.call c.requires.whole c.requires.next (omega arith))
    c.in-Err.ensures.answered
