use Rattle.std.proofs.Common.{refl}
use Rattle.port_sets.proofs.Turning.{owning, owns_on, room_first, room_on}
use Rattle.port_sets.proofs.sharing.own_shards.Goals as goal

pub loop-node-init : goal.loop-node-init
loop-node-init g c = (
  owning (λ s. s.node) c.args.shared.items c.args.nodes.items c.requires.empty,
  room_first c.args.shared.items c.args.nodes.items _ c.requires.empty c.requires.room,
)

pub loop-node-preserved : goal.loop-node-preserved
loop-node-preserved g c =
    let inv = c.loop-node.invariant in (
      owns_on (λ s. s.node) c.args.shared.items c.loop-node.shared.items c.pop.new.self.items c.loop-node.nodes.items c.push_reserved.new.self.items
          c.in-Some.field-0.node c.in-Some.field-0 inv.0 c.in-Some.ensures.items c.push_reserved.ensures.items refl,
      room_on c.loop-node.shared.items c.pop.new.self.items c.loop-node.nodes.items c.in-Some.field-0 _ c.in-Some.ensures.items inv.1
          c.push_reserved.new.self.items _ _ c.push_reserved.ensures.items c.push_reserved.ensures.capacity,
    )
