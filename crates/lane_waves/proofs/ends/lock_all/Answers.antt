use Rattle.std.proofs.Common.{rules, ◌≡◌, ◌≤◌, ◌<◌, ℕ, List, length, reverse, [], ◌∷◌, ◌++◌, ap, ◌∙◌, arith, subst, sym}
use Rattle.std.proofs.lemmas.Grind.{common_steps}
use Rattle.node_lock.specs.Seats.{AreFresh, table_of}
use Rattle.node_lock.specs.Tickets.{times}
use Rattle.lane_waves.specs.NodeRows.{AreWatchedRows, AreStill}
use Rattle.lane_waves.proofs.Locking.{rows_last, first_locked, more_locked, all_locked, locked_ready, just_fresh, all_still, all_same, same_before}
use Rattle.lane_waves.proofs.Places.{snoc_many, many_less, many_more, many_over, many_fit, many_still}
use Rattle.lane_waves.proofs.ends.lock_all.Goals as goal

pub returns-in_default-clause-back : goal.returns-in_default-clause-back
returns-in_default-clause-back g c = all_same g.N.Sighted.sight g.N.Sighted.goes g.met.N.Sighted.same c.args.nodes.items

pub returns-in_default-with_capacity-clause-back :
    goal.returns-in_default-with_capacity-clause-back
returns-in_default-with_capacity-clause-back g c = all_same g.N.Sighted.sight g.N.Sighted.goes g.met.N.Sighted.same c.args.nodes.items

pub returns-in_default-with_capacity-2-clause-back :
    goal.returns-in_default-with_capacity-2-clause-back
returns-in_default-with_capacity-2-clause-back g c = all_same g.N.Sighted.sight g.N.Sighted.goes g.met.N.Sighted.same c.args.nodes.items

pub loop-node-init : goal.loop-node-init
loop-node-init g c = (
  first_locked g.N.Sighted.sight c.args.watcher c.args.nodes.items c.args.rows.items c.in-Ok.locks.items c.in-Ok-with_capacity.seats.items
      c.in-Ok-with_capacity-2.watchers.items
      c.in-Ok.ensures.items c.in-Ok-with_capacity.ensures.items c.in-Ok-with_capacity-2.ensures.items c.requires.fit,
  search rules,
  search rules,
  search rules,
  search rules,
  search rules,
  search rules,
  search rules,
  search rules,
  search rules,
)

pub lock_one-requires : goal.lock_one-requires
lock_one-requires g c = (rows_last c.args.watcher c.pop-in-Some.new.self.items c.in-Some-pop.row
    (subst (AreWatchedRows c.args.watcher) c.in-Some-pop.ensures.items c.loop-node.invariant.0.fit)).1

pub close_onto-requires-clause-ready : goal.close_onto-requires-clause-ready
close_onto-requires-clause-ready g c = let k = c.loop-node.invariant.0 in
    locked_ready g.N.Sighted.sight k.made k.given (reverse c.loop-node.locks.items) (reverse c.loop-node.seats.items) k.locked

pub close_onto-requires-clause-watching : goal.close_onto-requires-clause-watching
close_onto-requires-clause-watching g c = let k = c.loop-node.invariant.0 in
    just_fresh g.N.Sighted.sight c.args.watcher (reverse c.loop-node.locks.items) (reverse c.loop-node.watchers.items) k.watching

pub returns-in-Err-clause-back : goal.returns-in-Err-clause-back
returns-in-Err-clause-back g c =
    let k = c.loop-node.invariant.0 in
    let e = c.close_onto.ensures in
    let n = c.in-Some.node in
    let was : c.args.nodes.items ≡ c.push_reserved-in-Err.new.self.items ++ k.made =
    k.nodes ∙ ap (λ xs. xs ++ k.made) (c.in-Some.ensures.items
    ∙ (ap (λ m. c.pop.new.self.items ++ m ∷ []) (sym c.in-Err.ensures.back) ∙ sym c.push_reserved-in-Err.ensures.items)) in
    let stills = all_still g.N.Sighted.sight g.N.Sighted.goes k.made k.given (reverse c.loop-node.locks.items) (reverse c.loop-node.seats.items) e.0
    k.locked e.2 in
    subst (λ xs. AreStill g.N.Sighted.sight g.N.Sighted.goes xs c.close_onto.result.items) (sym was)
    (subst (λ ys. AreStill g.N.Sighted.sight g.N.Sighted.goes (c.push_reserved-in-Err.new.self.items ++ k.made) ys) (sym e.1)
    (same_before g.N.Sighted.sight g.N.Sighted.goes g.met.N.Sighted.same c.push_reserved-in-Err.new.self.items k.made e.0 stills))

pub loop-node-preserved : goal.loop-node-preserved
loop-node-preserved g c =
    let inv = c.loop-node.invariant in
    let o = c.in-Ok-lock_one.ensures in
    let n = snoc_many c.loop-node.nodes.items c.pop.new.self.items c.in-Some.node c.in-Some.ensures.items in
    let r = snoc_many c.loop-node.rows.items c.pop-in-Some.new.self.items c.in-Some-pop.row c.in-Some-pop.ensures.items in
    let l = snoc_many c.push_reserved.new.self.items c.loop-node.locks.items c.in-Ok-lock_one.lock c.push_reserved.ensures.items in
    let s = snoc_many c.push_reserved-in-Ok-lock_one.new.self.items c.loop-node.seats.items c.in-Ok-lock_one.own
    c.push_reserved-in-Ok-lock_one.ensures.items in
    let t = snoc_many c.push_reserved-in-Ok-lock_one-2.new.self.items c.loop-node.watchers.items c.in-Ok-lock_one.watch
    c.push_reserved-in-Ok-lock_one-2.ensures.items in (
      more_locked g.N.Sighted.sight c.args.watcher c.args.nodes.items c.args.rows.items c.loop-node.nodes.items c.pop.new.self.items
          c.loop-node.rows.items c.pop-in-Some.new.self.items
          c.loop-node.locks.items c.push_reserved.new.self.items c.loop-node.seats.items c.push_reserved-in-Ok-lock_one.new.self.items
          c.loop-node.watchers.items c.push_reserved-in-Ok-lock_one-2.new.self.items
          c.in-Some.node c.in-Some-pop.row c.in-Ok-lock_one.lock c.in-Ok-lock_one.own c.in-Ok-lock_one.watch inv.0 c.in-Some.ensures.items
          c.in-Some-pop.ensures.items c.push_reserved.ensures.items
          c.push_reserved-in-Ok-lock_one.ensures.items c.push_reserved-in-Ok-lock_one-2.ensures.items o.opening o.lanes o.seats o.watcher,
      many_less _ _ _ _ r n inv.1,
      many_over _ _ _ _ _ n l inv.2,
      many_more _ _ _ _ s l inv.3,
      many_still _ _ _ c.push_reserved.ensures.capacity inv.4,
      many_still _ _ _ c.push_reserved-in-Ok-lock_one.ensures.capacity inv.5,
      many_still _ _ _ c.pop.ensures.capacity inv.6,
      inv.7,
      many_more _ _ _ _ t l inv.8,
      many_still _ _ _ c.push_reserved-in-Ok-lock_one-2.ensures.capacity inv.9,
    )

pub push_reserved-requires : goal.push_reserved-requires
push_reserved-requires g c =
    let inv = c.loop-node.invariant in
    many_fit _ _ _ _ _ _ (snoc_many c.loop-node.nodes.items c.pop.new.self.items c.in-Some.node c.in-Some.ensures.items) inv.2 inv.4
    c.loop-node.locks.ok.0

pub push_reserved-requires-in-Ok-lock_one : goal.push_reserved-requires-in-Ok-lock_one
push_reserved-requires-in-Ok-lock_one g c =
    let inv = c.loop-node.invariant in
    many_fit _ _ _ _ _ _ (snoc_many c.loop-node.nodes.items c.pop.new.self.items c.in-Some.node c.in-Some.ensures.items) inv.2 inv.5
    (c.loop-node.seats.ok.0 ∙ inv.3)

pub push_reserved-requires-in-Ok-lock_one-2 : goal.push_reserved-requires-in-Ok-lock_one-2
push_reserved-requires-in-Ok-lock_one-2 g c =
    let inv = c.loop-node.invariant in
    many_fit _ _ _ _ _ _ (snoc_many c.loop-node.nodes.items c.pop.new.self.items c.in-Some.node c.in-Some.ensures.items) inv.2 inv.9
    (c.loop-node.watchers.ok.0 ∙ inv.8)

pub returns-clause-locked : goal.returns-clause-locked
returns-clause-locked g c = grind (arith, common_steps)
