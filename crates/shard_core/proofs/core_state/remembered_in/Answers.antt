use Rattle.std.proofs.Common.{sym, ◌∙◌}
use Rattle.cbdc_model.specs.Fates.{lane_fate}
use Rattle.shard_core.specs.Remembers.{has_id}
use Rattle.shard_core.proofs.Remembering.{taken_fate, finished_fate, waiting_if, waiting_unless}
use Rattle.shard_core.proofs.core_state.remembered_in.Goals as goal

pub returns-then-has_entry : goal.returns-then-has_entry
returns-then-has_entry c past lane stands =
    let s = rw c.in-Locked.is at stands in
    let has = rw c.as_slice.ensures at c.has_entry.ensures in
    waiting_if (lane_fate past c.args.id.now lane) (has_id c.in-Locked.part c.args.id.now) (taken_fate past lane _ _ _ _ c.args.id.now s)
    (sym has ∙ c.if-has_entry.true)

pub returns-else-has_entry : goal.returns-else-has_entry
returns-else-has_entry c past lane stands =
    let s = rw c.in-Locked.is at stands in
    let has = rw c.as_slice.ensures at c.has_entry.ensures in
    waiting_unless (lane_fate past c.args.id.now lane) (has_id c.in-Locked.part c.args.id.now) (taken_fate past lane _ _ _ _ c.args.id.now s)
    (sym has ∙ c.if-has_entry.false)

pub returns-in-Finished : goal.returns-in-Finished
returns-in-Finished c past lane stands =
    let s = rw c.in-Finished.is at stands in
    let told = rw (c.as_slice-in-Finished.ensures, c.as_slice-in-Finished-2.ensures) at c.decided_in.ensures in
    told ∙ sym (finished_fate past lane _ _ _ _ _ _ c.args.id.now s)
