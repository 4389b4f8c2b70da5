use Rattle.std.proofs.Common.{subst}
use Rattle.record_grammar.specs.Kinds.{IsShardHeader}
use Rattle.node_journal.specs.Sound.{IsSoundNode}
use Rattle.node_journal.proofs.Sound.{seen_sound}
use Rattle.shard_node.proofs.node.ShardNode.header.Goals as goal

pub returns-clause-sound : goal.returns-clause-sound
returns-clause-sound g c = subst (λ n. IsSoundNode g.D.Disk n) c.self.view_is
    (seen_sound IsShardHeader c.self.inside.parts.node c.self.invariant.node c.self.invariant.room)
