use Rattle.std.proofs.Common.{◌≡◌, ◌<◌, ◌≤◌, ◌+◌, ◌*◌, ℕ, suc, Some, List, length, refl, sym, ap, ◌∙◌, subst, arith}
use Rattle.std.specs.Prelude.{slice_get}
use Rattle.std.proofs.lemmas.Option.{slice_get_read}
use Rattle.std.proofs.lemmas.List.Elements.{All-pop}
use Rattle.node_lock.specs.declared.views.Hand.{Hand}
use Rattle.node_lock.specs.Seats.{knows, opening_of}
use Rattle.port_sets.specs.Nodes.{shard_sight, log_sight}
use Rattle.lane_waves.specs.NodeRows.{AreDealt}
use Rattle.lane_waves.specs.Deals.{MayRun, AreLanesWaiting, HaveSeats, IsOpenNodeAt, AreRunsNumbered}
use Rattle.lane_waves.proofs.Places.{nothing_left, snoc_many, all_here}
use Rattle.lane_waves.proofs.Lists.{home_last}
use Rattle.lane_waves.proofs.Seating.{set_up, seats_more}
use Rattle.lane_waves.proofs.dealing.deal_home.Goals as goal

pub invariant_of-port : goal.invariant_of-port
invariant_of-port g c =
    let gs = c.args.log_locks.now in
    let guarded = c.index-log_locks-home.result in
    let there : slice_get gs c.args.home ≡ Some guarded = slice_get_read gs _ c.args.home guarded refl c.requires.home c.index-log_locks-home.is in
    let k = (home_last c.args.shape.now c.args.home gs c.loop-seat.own.items c.pop.new.self.items c.in-Some.seat c.loop-seat.invariant.own
    c.in-Some.ensures.items guarded there).1 in
    let open_at : IsOpenNodeAt c.args.shape.now c.args.home (log_sight (opening_of guarded)) =
    all_here (λ n x. IsOpenNodeAt c.args.shape.now n (log_sight (opening_of x))) gs c.args.home guarded c.requires.open.logs there in
    record {
      own = (k.0, k.1);
      since = subst (λ n. (log_sight (opening_of guarded)).opened ≤ n) (sym (ap (λ (h : Hand). h.faults) k.2)) open_at.since;
    }

pub loop-seat-init : goal.loop-seat-init
loop-seat-init g c = record {
  many = c.requires.many;
  own = c.requires.own;
  capacity = refl;
  waiting = c.requires.waiting;
  dealt = λ lanes d. d;
  numbered = λ d. d;
}

pub deal_lane-table-requires-clause-waiting :
    goal.deal_lane-table-requires-clause-waiting
deal_lane-table-requires-clause-waiting g c =
    let gs = c.args.log_locks.now in
    let guarded = c.index-log_locks-home.result in
    let there : slice_get gs c.args.home ≡ Some guarded = slice_get_read gs _ c.args.home guarded refl c.requires.home c.index-log_locks-home.is in
    let k = (home_last c.args.shape.now c.args.home gs c.loop-seat.own.items c.pop.new.self.items c.in-Some.seat c.loop-seat.invariant.own
    c.in-Some.ensures.items guarded there).1 in
    let lane : (knows c.in-Some.seat).lane ≡ c.args.home * c.args.shape.now.lanes + length c.pop.new.self.items = ap (λ (h : Hand). h.lane) k.2 in
    let many = snoc_many c.loop-seat.own.items c.pop.new.self.items c.in-Some.seat c.in-Some.ensures.items in
    let all : c.args.home * c.args.shape.now.lanes + length c.loop-seat.own.items ≡ suc (knows c.in-Some.seat).lane = omega (arith, lane, many) in
    subst (λ n. AreLanesWaiting g.S.Shard.sight c.args.shard_locks.now n c.loop-seat.table) all c.loop-seat.invariant.waiting

pub loop-seat-preserved : goal.loop-seat-preserved
loop-seat-preserved g c =
    let inv = c.loop-seat.invariant in
    let K = c.args.shape.now in
    let gs = c.args.log_locks.now in
    let hs = c.args.shard_locks.now in
    let sight = g.S.Shard.sight in
    let tables = g.B.Locks.tables in
    let rest = c.pop.new.self.items in
    let guarded = c.index-log_locks-home.result in
    let there : slice_get gs c.args.home ≡ Some guarded = slice_get_read gs _ c.args.home guarded refl c.requires.home c.index-log_locks-home.is in
    let k = (home_last K c.args.home gs c.loop-seat.own.items rest c.in-Some.seat inv.own c.in-Some.ensures.items guarded there).1 in
    let at : ℕ = c.args.home * K.lanes + length rest in
    let lane : (knows c.in-Some.seat).lane ≡ at = ap (λ (h : Hand). h.lane) k.2 in
    let many = snoc_many c.loop-seat.own.items rest c.in-Some.seat c.in-Some.ensures.items in
    let most = inv.many in
    let low : length rest < K.lanes = omega (arith, most, many) in
    let all : c.args.home * K.lanes + length c.loop-seat.own.items ≡ suc at = omega (arith, many) in
    let e = c.deal_lane-table.ensures in
    let next = e.next in
    let u = c.deal_lane-table.result in
    let may = (All-pop MayRun c.loop-seat.table.lanes.items u.lanes.items (Some next.run.work) next.lanes inv.waiting.room.lanes).1 in
    let up = set_up sight tables K gs hs c.requires.open c.args.home (length rest) guarded _ next.run next.seats low there refl refl k.2
    (next.lane ∙ lane) next.log
    (subst (λ l. AreDealt (shard_sight sight) l hs next.seats) lane next.dealt) next.ports may in
    record {
      many = omega (arith, low);
      own = λ x at_x. (home_last K c.args.home gs c.loop-seat.own.items rest c.in-Some.seat inv.own c.in-Some.ensures.items x at_x).0;
      capacity = c.pop.ensures.capacity ∙ inv.capacity;
      waiting = subst (λ n. AreLanesWaiting sight hs n u) lane e.waiting;
      dealt = λ lanes d. seats_more sight tables K gs hs c.requires.open at lanes _ c.loop-seat.table u next up
          (subst (λ n. HaveSeats sight tables K gs hs n lanes c.loop-seat.table) all (inv.dealt lanes d));
      numbered = λ d. subst (λ n. AreRunsNumbered n u.runs.items) c.coordinators-first.ensures.value
          (e.numbered (subst (λ n. AreRunsNumbered n c.loop-seat.table.runs.items) (sym c.coordinators-first.ensures.value) (inv.numbered d)));
    }

pub returns-clause-waiting : goal.returns-clause-waiting
returns-clause-waiting g c =
    let none = nothing_left c.loop-seat.own c.in_default.ensures.cases.0 in
    let z = ap (λ (xs : List _). length xs) none in
    let all : c.args.home * c.args.shape.now.lanes + length c.loop-seat.own.items ≡ c.args.home * c.args.shape.now.lanes = omega (arith, z) in
    subst (λ n. AreLanesWaiting g.S.Shard.sight c.args.shard_locks.now n c.loop-seat.table) all c.loop-seat.invariant.waiting

pub returns-clause-dealt : goal.returns-clause-dealt
returns-clause-dealt g c =
    let none = nothing_left c.loop-seat.own c.in_default.ensures.cases.0 in
    let z = ap (λ (xs : List _). length xs) none in
    let all : c.args.home * c.args.shape.now.lanes + length c.loop-seat.own.items ≡ c.args.home * c.args.shape.now.lanes = omega (arith, z) in
    λ lanes d. subst (λ n. HaveSeats g.S.Shard.sight g.B.Locks.tables c.args.shape.now c.args.log_locks.now c.args.shard_locks.now n lanes
    c.loop-seat.table) all (c.loop-seat.invariant.dealt lanes d)
