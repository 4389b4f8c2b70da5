use Rattle.std.proofs.Common.{arith, ap, get_or, sym, ◌∙◌, add-one}
use Rattle.shard_core.proofs.Remembering.{fate_next, fate_end}
use Rattle.shard_core.proofs.core_state.decided_in.Goals as goal

pub loop-at-preserved : goal.loop-at-preserved
loop-at-preserved c = rw add-one (c.loop-at.invariant ∙ fate_next c.args.entries.now c.args.decisions.now c.args.id.now c.loop-at.at
    (get_or c.args.entries.now c.loop-at.at c.index-entries-at.result) (omega arith) (omega arith)
    (ap (λ e. get_or c.args.entries.now c.loop-at.at e) c.index-entries-at.is) (sym c.is_same_hash.ensures ∙ c.if-is_same_hash.false))

pub returns : goal.returns
returns c = sym (c.loop-at.invariant ∙ fate_end c.args.entries.now c.args.decisions.now c.args.id.now c.loop-at.at (omega arith))
