use Rattle.std.proofs.Common.{refl, ◌∙◌}
use Rattle.port_sets.proofs.Turning.{sharing, shares_on, room_first, room_on}
use Rattle.port_sets.proofs.sharing.share_shards.Goals as goal

pub loop-node-init : goal.loop-node-init
loop-node-init g c = (
  sharing (λ s. s.node) c.args.nodes.items c.args.shared.items c.requires.empty,
  room_first c.args.nodes.items c.args.shared.items _ c.requires.empty c.requires.room,
  refl,
)

pub loop-node-preserved : goal.loop-node-preserved
loop-node-preserved g c =
    let inv = c.loop-node.invariant in (
      shares_on (λ s. s.node) c.args.nodes.items c.loop-node.nodes.items c.pop.new.self.items c.loop-node.shared.items c.push_reserved.new.self.items
          c.in-Some.node _ inv.0 c.in-Some.ensures.items c.push_reserved.ensures.items refl,
      room_on c.loop-node.nodes.items c.pop.new.self.items c.loop-node.shared.items c.in-Some.node _ c.in-Some.ensures.items inv.1
          c.push_reserved.new.self.items _ _ c.push_reserved.ensures.items c.push_reserved.ensures.capacity,
      c.pop.ensures.capacity ∙ inv.2,
    )
