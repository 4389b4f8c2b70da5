use Rattle.std.proofs.Common.{◌≡◌, ◌+◌, ◌*◌, List, length, refl, sym, ap, ◌∙◌, subst, arith}
use Rattle.std.specs.Prelude.{All}
use Rattle.std.proofs.lemmas.List.Elements.{All-nil, All-push, All-same}
use Rattle.lane_waves.specs.Places.{AllFrom}
use Rattle.lane_waves.specs.Deals.{AreLanesWaiting, HaveSeats, IsHomeFresh, IsHomeLeft, IsEmptyRoom, AreRunsNumbered}
use Rattle.lane_waves.proofs.Places.{nothing_left, snoc_many, pushed_many, all_last, next_row, zero_row}
use Rattle.lane_waves.proofs.Ending.{none_seated}
use Rattle.lane_waves.proofs.dealing.deal_all.Goals as goal

pub deal_home-own-requires-clause-many :
    goal.deal_home-own-requires-clause-many
deal_home-own-requires-clause-many g c =
    let P = IsHomeFresh c.args.shape.now c.args.log_locks.now in
    let m = (all_last P 0 c.pop.new.self.items c.in-Some.own (subst (AllFrom P 0) c.in-Some.ensures.items c.loop-own.invariant.homes)).1 in
    let e = m.0 in omega (arith, e)

pub deal_home-own-requires-clause-own :
    goal.deal_home-own-requires-clause-own
deal_home-own-requires-clause-own g c =
    let P = IsHomeFresh c.args.shape.now c.args.log_locks.now in
    let m = (all_last P 0 c.pop.new.self.items c.in-Some.own (subst (AllFrom P 0) c.in-Some.ensures.items c.loop-own.invariant.homes)).1 in
    let ok = c.pop.new.self.ok.0 in
    let len = c.len-home.ensures in
    let at : 0 + length c.pop.new.self.items ≡ c.len-home.result = omega (arith, ok, len) in
    subst (λ n. IsHomeLeft c.args.shape.now n c.args.log_locks.now c.in-Some.own.items) at m.1

pub deal_home-own-requires-clause-waiting :
    goal.deal_home-own-requires-clause-waiting
deal_home-own-requires-clause-waiting g c =
    let P = IsHomeFresh c.args.shape.now c.args.log_locks.now in
    let m = (all_last P 0 c.pop.new.self.items c.in-Some.own (subst (AllFrom P 0) c.in-Some.ensures.items c.loop-own.invariant.homes)).1 in
    let ok = c.pop.new.self.ok.0 in
    let len = c.len-home.ensures in
    let at : length c.pop.new.self.items ≡ c.len-home.result = omega (arith, ok, len) in
    let many = snoc_many c.loop-own.homes.items c.pop.new.self.items c.in-Some.own c.in-Some.ensures.items in
    let row = next_row c.len-home.result (length c.loop-own.homes.items) c.args.shape.now.lanes (omega (arith, many, at)) in
    let full = m.0 in
    let all : length c.loop-own.homes.items * c.args.shape.now.lanes ≡ c.len-home.result * c.args.shape.now.lanes + length c.in-Some.own.items =
    omega (arith, row, full) in
    subst (λ n. AreLanesWaiting g.S.Shard.sight c.args.shard_locks.now n c.loop-own.table) all c.loop-own.invariant.waiting

pub loop-own-init : goal.loop-own-init
loop-own-init g c =
    let K = c.args.shape.now in
    let sight = g.S.Shard.sight in
    let hs = c.args.shard_locks.now in
    let none = ap (λ (xs : List _). length xs) c.requires.empty in
    let m = c.requires.many in
    record {
      many = omega (arith, none, m);
      homes = c.requires.homes;
      homes_room = refl;
      place = c.requires.place;
      emptied = subst (All (IsEmptyRoom K.lanes)) (sym c.requires.empty) (All-nil (IsEmptyRoom K.lanes));
      waiting = subst (λ n. AreLanesWaiting sight hs (n * K.lanes) c.args.table) (sym m) c.requires.waiting;
      dealt = none_seated sight g.B.Locks.tables K c.args.log_locks.now hs (length c.args.homes.items * K.lanes) c.args.table c.requires.none;
      numbered = subst (AreRunsNumbered K.coordinators) (sym c.requires.none) (All-nil _);
    }

pub loop-own-preserved : goal.loop-own-preserved
loop-own-preserved g c =
    let inv = c.loop-own.invariant in
    let K = c.args.shape.now in
    let gs = c.args.log_locks.now in
    let hs = c.args.shard_locks.now in
    let sight = g.S.Shard.sight in
    let P = IsHomeFresh K gs in
    let both = all_last P 0 c.pop.new.self.items c.in-Some.own (subst (AllFrom P 0) c.in-Some.ensures.items inv.homes) in
    let ok = c.pop.new.self.ok.0 in
    let len = c.len-home.ensures in
    let at : c.len-home.result ≡ length c.pop.new.self.items = omega (arith, ok, len) in
    let many = snoc_many c.loop-own.homes.items c.pop.new.self.items c.in-Some.own c.in-Some.ensures.items in
    let row = next_row c.len-home.result (length c.loop-own.homes.items) K.lanes (omega (arith, many, at)) in
    let full = both.1.0 in
    let all : length c.loop-own.homes.items * K.lanes ≡ c.len-home.result * K.lanes + length c.in-Some.own.items = omega (arith, row, full) in
    let more = pushed_many c.push_reserved.new.self c.loop-own.emptied c.push_reserved.ensures.len in
    let e = c.deal_home-own.ensures in
    let u = c.deal_home-own.result.1 in
    let old_ok = c.in-Some.own.ok in
    let a = old_ok.0 in let b = old_ok.1 in let cap = e.empty.1 in
    record {
      many = let m = inv.many in omega (arith, m, many, more);
      homes = both.0;
      homes_room = c.pop.ensures.capacity ∙ inv.homes_room;
      place = let p = inv.place in let k = c.push_reserved.ensures.capacity in omega (arith, p, k);
      emptied = All-same (IsEmptyRoom K.lanes) c.push_reserved.new.self.items _ c.push_reserved.ensures.items
          (All-push (IsEmptyRoom K.lanes) c.loop-own.emptied.items c.deal_home-own.result.0 inv.emptied (e.empty.0, omega (arith, a, b, cap, full)));
      waiting = subst (λ n. AreLanesWaiting sight hs (n * K.lanes) u) at e.waiting;
      dealt = subst (λ n. HaveSeats sight g.B.Locks.tables K gs hs (n * K.lanes) c.args.table.lanes.items u) at (e.dealt c.args.table.lanes.items
          (subst (λ n. HaveSeats sight g.B.Locks.tables K gs hs n c.args.table.lanes.items c.loop-own.table) all inv.dealt));
      numbered = e.numbered inv.numbered;
    }

pub returns-clause-emptied : goal.returns-clause-emptied
returns-clause-emptied g c =
    let none = nothing_left c.loop-own.homes c.in_default.ensures.cases.0 in
    let z = ap (λ (xs : List _). length xs) none in
    let m = c.loop-own.invariant.many in
    (omega (arith, z, m), c.loop-own.invariant.emptied)

pub returns-clause-waiting : goal.returns-clause-waiting
returns-clause-waiting g c =
    let none = nothing_left c.loop-own.homes c.in_default.ensures.cases.0 in
    let all = ap (λ (xs : List _). length xs * c.args.shape.now.lanes) none ∙ zero_row c.args.shape.now.lanes in
    subst (λ n. AreLanesWaiting g.S.Shard.sight c.args.shard_locks.now n c.loop-own.table) all c.loop-own.invariant.waiting

pub returns-clause-dealt : goal.returns-clause-dealt
returns-clause-dealt g c =
    let none = nothing_left c.loop-own.homes c.in_default.ensures.cases.0 in
    let all = ap (λ (xs : List _). length xs * c.args.shape.now.lanes) none ∙ zero_row c.args.shape.now.lanes in
    subst (λ n. HaveSeats g.S.Shard.sight g.B.Locks.tables c.args.shape.now c.args.log_locks.now c.args.shard_locks.now n c.args.table.lanes.items
    c.loop-own.table) all c.loop-own.invariant.dealt

pub deal_home-own-requires-clause-open : goal.deal_home-own-requires-clause-open
deal_home-own-requires-clause-open g c = c.requires.open
