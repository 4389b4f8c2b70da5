use Rattle.std.proofs.Common.{refl, ◌∙◌, ◌≤◌, length, map, ap, sym, subst}
use Rattle.port_sets.proofs.Turning.{sharing, shares_on, shared, none_left, room_first, has_room, room_on}
use Rattle.port_sets.proofs.sharing.share_logs.Goals as goal

pub loop-node-init : goal.loop-node-init
loop-node-init g c = (
  sharing (λ s. s.node) c.args.nodes.items c.args.shared.items c.requires.empty,
  room_first c.args.nodes.items c.args.shared.items _ c.requires.empty c.requires.room,
  refl,
)

pub loop-node-preserved : goal.loop-node-preserved
loop-node-preserved g c =
    let inv = c.loop-node.invariant in (
      shares_on (λ s. s.node) c.args.nodes.items c.loop-node.nodes.items c.pop.new.self.items c.loop-node.shared.items c.push_reserved.new.self.items
          c.in-Some.node _ inv.0 c.in-Some.ensures.items c.push_reserved.ensures.items refl,
      room_on c.loop-node.nodes.items c.pop.new.self.items c.loop-node.shared.items c.in-Some.node _ c.in-Some.ensures.items inv.1
          c.push_reserved.new.self.items _ _ c.push_reserved.ensures.items c.push_reserved.ensures.capacity,
      c.pop.ensures.capacity ∙ inv.2,
    )

pub push_reserved-requires : goal.push_reserved-requires
push_reserved-requires g c = has_room c.loop-node.nodes.items c.pop.new.self.items c.loop-node.shared.items c.in-Some.node _ c.in-Some.ensures.items
    c.loop-node.invariant.1 _ c.loop-node.shared.ok.0

pub returns-clause-nodes : goal.returns-clause-nodes
returns-clause-nodes g c =
    ap (λ xs. map (λ s. s.node) xs) c.reverse.ensures.items
    ∙ shared (λ s. s.node) c.args.nodes.items c.loop-node.nodes.items c.loop-node.shared.items c.loop-node.invariant.0
    (none_left c.loop-node.nodes.items _ c.loop-node.nodes.ok.0 c.in_default.ensures.cases.0)

pub returns-clause-room : goal.returns-clause-room
returns-clause-room g c = (
  none_left c.pop.new.self.items _ c.pop.new.self.ok.0 c.in_default.ensures.cases.1,
  subst (λ n. length c.args.nodes.items ≤ n) (sym (c.pop.ensures.capacity ∙ c.loop-node.invariant.2))
      (subst (λ n. n ≤ c.args.nodes.cap) c.args.nodes.ok.0 c.args.nodes.ok.1),
)
