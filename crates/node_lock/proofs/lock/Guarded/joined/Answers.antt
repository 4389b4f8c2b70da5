use Rattle.std.proofs.Common.{◌≡◌, refl, [], ◌∷◌, ◌++◌, ap, ◌∙◌, subst, rules, length, arith}
use Rattle.std.proofs.lemmas.Grind.{common_steps}
use Rattle.node_lock.specs.Tickets.{Done, hand_count}
use Rattle.node_lock.specs.Moving.{Lives}
use Rattle.node_lock.specs.Seats.{all_known}
use Rattle.node_lock.proofs.Comings.{joins, finishes}
use Rattle.node_lock.proofs.Dealing.{first_collected, more_collected, all_before, all_counted, all_in}
use Rattle.node_lock.proofs.Watching.{one_longer}
use Rattle.node_lock.proofs.Told.{has_some, one_node}
use Rattle.node_lock.proofs.lock.Guarded.joined.Goals as goal

pub loop-token-init : goal.loop-token-init
loop-token-init g c = first_collected c.args.self.table.shared.table_id (c.args.seats.items ++ c.args.main ∷ []) c.args.seats.items c.args.main
    c.requires.seats refl

pub join_seat-requires : goal.join_seat-requires
join_seat-requires g c =
    let k = c.args.self.table.shared.key in
    let inv = c.loop-token.invariant in
    let s = c.in-Some.field-0 in
    let b = all_before c.args.self.table.shared.table_id c.loop-token.seats.items c.pop.new.self.items s inv.each c.in-Some.ensures.items in (
      inv.at,
      b.1,
      ap (λ m. m.1) s.rests,
      search rules,
      joins g.N.Sighted.sight g.N.Sighted.goes k.lanes.value.items k.node.value _ c.loop-token.main.me.0 _ s.token.me.0
          (ap (λ m. m.0.stage) inv.rests) (ap (λ m. m.0.stage) s.rests) inv.live,
    )

pub loop-token-preserved : goal.loop-token-preserved
loop-token-preserved g c =
    let e = c.join_seat.ensures in
    more_collected c.args.self.table.shared.table_id (c.args.seats.items ++ c.args.main ∷ []) c.loop-token.seats.items c.pop.new.self.items
    c.in-Some.field-0 c.loop-token.main.table_id c.join_seat.new.seat.table_id c.loop-token.main.me c.join_seat.new.seat.me
    c.loop-token.invariant c.in-Some.ensures.items e.0 e.2

pub unwrap-requires : goal.unwrap-requires
unwrap-requires g c =
    let k = c.args.self.table.shared.key in
    let inv = c.loop-token.invariant in
    let empty : length c.loop-token.seats.items ≡ 0 = search (rules, c.in_default.ensures.cases) in
    let hands = all_in c.args.self.table.shared.table_id (c.args.seats.items ++ c.args.main ∷ []) c.loop-token.seats.items c.loop-token.main.table_id
    c.loop-token.main.me inv empty in
    let n : hand_count c.loop-token.main.me.0 ≡ length k.lanes.value.items =
    ap length hands ∙ (all_counted (c.args.seats.items ++ c.args.main ∷ [])
    ∙ (one_longer c.args.seats.items c.args.main ∙ (let a = c.requires.all in let b = c.args.seats.ok.0 in omega (arith, a, b)))) in
    let d = finishes g.N.Sighted.sight g.N.Sighted.goes k.lanes.value.items k.node.value _ c.loop-token.main.me.0 _ _ c.take-slot.result
    c.close_with-closed.ensures.values.2 (ap (λ m. m.0.stage) inv.rests) n c.take-slot.ensures.value in
    has_some c.take-slot.result d.0 d.1

pub returns : goal.returns
returns g c =
    let k = c.args.self.table.shared.key in
    let inv = c.loop-token.invariant in
    let empty : length c.loop-token.seats.items ≡ 0 = search (rules, c.in_default.ensures.cases) in
    let hands = all_in c.args.self.table.shared.table_id (c.args.seats.items ++ c.args.main ∷ []) c.loop-token.seats.items c.loop-token.main.table_id
    c.loop-token.main.me inv empty in
    let n : hand_count c.loop-token.main.me.0 ≡ length k.lanes.value.items =
    ap length hands ∙ (all_counted (c.args.seats.items ++ c.args.main ∷ [])
    ∙ (one_longer c.args.seats.items c.args.main ∙ (let a = c.requires.all in let b = c.args.seats.ok.0 in omega (arith, a, b)))) in
    let d = finishes g.N.Sighted.sight g.N.Sighted.goes k.lanes.value.items k.node.value _ c.loop-token.main.me.0 _ _ c.take-slot.result
    c.close_with-closed.ensures.values.2 (ap (λ m. m.0.stage) inv.rests) n c.take-slot.ensures.value in
    let same : d.0 ≡ c.unwrap.result = one_node c.take-slot.result d.0 c.unwrap.result d.1 (search rules) in
    record {
      done = subst (λ n. Done (g.N.Sighted.sight k.node.value) k.lanes.value.items (all_known (c.args.seats.items ++ c.args.main ∷ []))
          (g.N.Sighted.sight n)) same (subst (λ hs. Done (g.N.Sighted.sight k.node.value) k.lanes.value.items hs (g.N.Sighted.sight d.0)) hands d.2);
      lives = subst (λ n. Lives g.N.Sighted.sight g.N.Sighted.goes k.node.value n) same d.3;
    }

pub free-requires : goal.free-requires
free-requires g c = grind (arith, common_steps)
