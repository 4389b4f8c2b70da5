use Rattle.std.proofs.Common.{◌∙◌, sym, subst, ap}
use Rattle.node_journal.specs.Nodes.{NodeOf, HoldsJournal}
use Rattle.node_journal.specs.Shown.{shown}
use Rattle.node_journal.proofs.Leaving.{shown_same}
use Rattle.shard_node.specs.Opening.{IsShardJournal}
use Rattle.shard_node.proofs.node.ShardNode.open.Goals as goal

pub returns-in-Ok-memory_ahead-clause-opens : goal.returns-in-Ok-memory_ahead-clause-opens
returns-in-Ok-memory_ahead-clause-opens g c = λ bytes told.
    let P : NodeOf g.row.D.Denot → Type 0 = λ n. IsShardJournal n.header n.journal bytes × HoldsJournal g.D.Disk n in
    let old = c.in-Ok.found in
    let new = c.memory_ahead.new.node in
    let m = c.memory_ahead.ensures in
    let same = c.of_parts.ensures ∙ ap (λ k. shown new.log k new.flight) m.fresh.0 ∙ ap (λ f. shown new.log old.opened f) m.fresh.1
    ∙ shown_same old.log new.log old.opened old.flight m.untouched m.records m.header in
    subst P (sym same) (c.in-Ok.ensures.opens bytes told)
