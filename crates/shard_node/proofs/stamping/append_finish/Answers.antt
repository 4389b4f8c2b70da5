use Rattle.std.proofs.Common.{◌≡◌, ◌∙◌, false, None, reverse, arith}
use Rattle.cbdc_model.specs.Records.{Finish}
use Rattle.cbdc_model.specs.Due.{finish_due}
use Rattle.node_journal.specs.Sound.{view_of}
use Rattle.node_journal.proofs.Answered.{by_write_ok, by_write_err}
use Rattle.shard_node.proofs.Keeps.{failed}
use Rattle.shard_node.proofs.Stamps.{finish_decisions, finish_fits, finish_memory, finish_need, finish_wrote, finish_owes}
use Rattle.shard_node.proofs.stamping.append_finish.Goals as goal

pub take_decisions-decisions-requires-clause-room : goal.take_decisions-decisions-requires-clause-room
take_decisions-decisions-requires-clause-room g c =
    λ m get. rw c.as_slice.ensures (finish_decisions c.args.parts.now c.args.call.now c.args.stamp c.requires.shard c.requires.call c.requires.whole
    c.requires.next (omega arith) m get)

pub write-requires-clause-after : goal.write-requires-clause-after
write-requires-clause-after g c =
    let same : c.take_decisions-decisions.result ≡ c.args.call.now.decisions = c.take_decisions-decisions.ensures.value ∙ c.as_slice.ensures in
    rw same (finish_fits c.args.parts.now c.args.call.now c.args.stamp c.requires.shard c.requires.call c.requires.whole c.requires.next
    (omega arith))

pub write-requires-clause-memory : goal.write-requires-clause-memory
write-requires-clause-memory g c =
    let same : c.take_decisions-decisions.result ≡ c.args.call.now.decisions = c.take_decisions-decisions.ensures.value ∙ c.as_slice.ensures in
    rw same (finish_memory c.args.parts.now c.args.call.now c.args.stamp c.requires.shard c.requires.call c.requires.whole c.requires.next
    (omega arith))

pub write-requires-clause-need : goal.write-requires-clause-need
write-requires-clause-need g c =
    let same : c.take_decisions-decisions.result ≡ c.args.call.now.decisions = c.take_decisions-decisions.ensures.value ∙ c.as_slice.ensures in
    rw same (finish_need c.args.parts.now c.args.call.now c.args.stamp c.requires.shard c.requires.call c.requires.whole c.requires.next
    (omega arith))

pub returns-in-Ok-clause-shard : goal.returns-in-Ok-clause-shard
returns-in-Ok-clause-shard g c =
    let same : c.take_decisions-decisions.result ≡ c.args.call.now.decisions = c.take_decisions-decisions.ensures.value ∙ c.as_slice.ensures in
    finish_wrote c.args.parts.now c.args.call.now c.args.stamp c.requires.shard c.requires.call c.requires.whole c.requires.next (omega arith)
    c.take_decisions-decisions.new.memory c.write.new.node c.write.ensures.node (rw same at c.in-Ok.ensures.written)
    c.take_decisions-decisions.ensures.lanes c.take_decisions-decisions.ensures.others

pub returns-in-Err-clause-shard : goal.returns-in-Err-clause-shard
returns-in-Err-clause-shard g c = failed c.args.parts.now c.take_decisions-decisions.new.memory c.write.new.node c.requires.shard
    c.take_decisions-decisions.ensures.lanes c.write.ensures.node c.in-Err.ensures.failed

pub returns-in-Ok-clause-answered : goal.returns-in-Ok-clause-answered
returns-in-Ok-clause-answered g c =
    let same : c.take_decisions-decisions.result ≡ c.args.call.now.decisions = c.take_decisions-decisions.ensures.value ∙ c.as_slice.ensures in
    by_write_ok g.D.Disk false (finish_due c.args.call.now None (reverse c.args.parts.now.node.log.records.items)) (view_of c.args.parts.now.node)
    (view_of c.write.new.node) c.args.stamp (Finish c.args.stamp c.args.call.now.batch c.args.call.now.decisions) tt
    (finish_owes c.args.parts.now c.args.call.now c.args.stamp c.requires.shard c.requires.call c.requires.whole c.requires.next (omega arith))
    (rw same at c.in-Ok.ensures.answered)

pub returns-in-Err-clause-answered : goal.returns-in-Err-clause-answered
returns-in-Err-clause-answered g c =
    let same : c.take_decisions-decisions.result ≡ c.args.call.now.decisions = c.take_decisions-decisions.ensures.value ∙ c.as_slice.ensures in
    by_write_err g.D.Disk false (finish_due c.args.call.now None (reverse c.args.parts.now.node.log.records.items)) (view_of c.args.parts.now.node)
    (view_of c.write.new.node) c.args.stamp (Finish c.args.stamp c.args.call.now.batch c.args.call.now.decisions) c.in-Err.fault
    (finish_owes c.args.parts.now c.args.call.now c.args.stamp c.requires.shard c.requires.call c.requires.whole c.requires.next (omega arith))
    (rw same at c.in-Err.ensures.answered)
