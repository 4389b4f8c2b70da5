use Rattle.std.proofs.Common.{◌≡◌, suc, List, length, refl, sym, ap, ◌∙◌, subst, arith}
use Rattle.lane_waves.specs.Dealing.{PopsEach}
use Rattle.lane_waves.specs.Gathers.{EachTakes, AllOver, MayKeep, IsLaneEnd}
use Rattle.lane_waves.proofs.Places.{snoc_many, pushed_many}
use Rattle.lane_waves.proofs.Lists.{pops_many}
use Rattle.lane_waves.proofs.Giving.{takes_room, takes_left, over_last, seats_many}
use Rattle.lane_waves.proofs.gathering.gather_lane.Goals as goal

pub unreachable-requires-in_default-came :
    goal.unreachable-requires-in_default-came
unreachable-requires-in_default-came g c =
    let t = c.args.table in
    let over = over_last (length t.rows.items) c.pop.new.self.items c.in-Some.run'
    (subst (AllOver (length t.rows.items)) c.in-Some.ensures.items c.requires.room.over) in
    subst (MayKeep c.in-Some.run'.work) c.in_default-came.is over.1.came

pub seats_back-requires-clause-room : goal.seats_back-requires-clause-room
seats_back-requires-clause-room g c =
    let t = c.args.table in
    let over = over_last (length t.rows.items) c.pop.new.self.items c.in-Some.run'
    (subst (AllOver (length t.rows.items)) c.in-Some.ensures.items c.requires.room.over) in
    let many = over.1.many in let room = c.requires.room.seats.1 in omega (arith, many, room)

pub gather-rows-requires-clause-each : goal.gather-rows-requires-clause-each
gather-rows-requires-clause-each g c =
    let t = c.args.table in
    let over = over_last (length t.rows.items) c.pop.new.self.items c.in-Some.run'
    (subst (AllOver (length t.rows.items)) c.in-Some.ensures.items c.requires.room.over) in
    ap (λ (xs : List _). length xs) c.seats_back.ensures ∙ (seats_many c.in-Some.run'.ports.shards.each.ports.items ∙ over.1.many)

pub gather-rows-requires-clause-free : goal.gather-rows-requires-clause-free
gather-rows-requires-clause-free g c = takes_room (length c.args.table.runs.items) c.args.table.rows.items c.requires.some c.requires.room.rows_take

pub kept-requires-clause-ready : goal.kept-requires-clause-ready
kept-requires-clause-ready g c =
    let t = c.args.table in
    (over_last (length t.rows.items) c.pop.new.self.items c.in-Some.run'
    (subst (AllOver (length t.rows.items)) c.in-Some.ensures.items c.requires.room.over)).1.ready

pub kept-requires-clause-room : goal.kept-requires-clause-room
kept-requires-clause-room g c =
    let t = c.args.table in
    let over = over_last (length t.rows.items) c.pop.new.self.items c.in-Some.run'
    (subst (AllOver (length t.rows.items)) c.in-Some.ensures.items c.requires.room.over) in
    subst (MayKeep c.in-Some.run'.work) c.in-Some-came.is over.1.came

pub returns-clause-room : goal.returns-clause-room
returns-clause-room g c =
    let t = c.args.table in
    let room = c.requires.room in
    let over = over_last (length t.rows.items) c.pop.new.self.items c.in-Some.run'
    (subst (AllOver (length t.rows.items)) c.in-Some.ensures.items room.over) in
    let runs = snoc_many t.runs.items c.pop.new.self.items c.in-Some.run' c.in-Some.ensures.items in
    let lanes = pushed_many c.push_reserved.new.self t.lanes c.push_reserved.ensures.len in
    let many = pops_many c.gather-rows.result.rows.items t.rows.items c.seats_back.result.items c.gather-rows.ensures.added in
    let a = many.0 in let b = many.1 in
    let one : length t.runs.items ≡ suc (length c.pop.new.self.items) = omega (arith, runs) in
    record {
      rows_take = takes_left (length c.pop.new.self.items) c.gather-rows.result.rows.items t.rows.items c.seats_back.result.items
          c.gather-rows.ensures.added (subst (λ m. EachTakes m t.rows.items) one room.rows_take);
      seats = (
        c.gather-rows.ensures.empty.1,
        let e = c.gather-rows.ensures.room.2 in let k = c.seats_back.result.ok in let p = k.0 in let q = k.1 in omega (arith, e, p, q, a, b),
      );
      spare = (
        c.gather-rows.ensures.empty.0,
        let e = c.gather-rows.ensures.room.1 in let k = t.rows.ok in let p = k.0 in let q = k.1 in omega (arith, e, p, q, a),
      );
      lanes_take = let h = room.lanes_take in let k = c.push_reserved.ensures.capacity in omega (arith, h, k, lanes, runs);
      over = subst (λ m. AllOver m c.pop.new.self.items) (sym a) over.0;
    }

pub returns-clause-back : goal.returns-clause-back
returns-clause-back g c =
    let t = c.args.table in
    record {
      run = c.in-Some.run';
      runs = c.in-Some.ensures.items;
      home_is = refl;
      rows = subst (PopsEach c.gather-rows.result.rows.items t.rows.items) c.seats_back.ensures c.gather-rows.ensures.added;
      lane = c.kept.result;
      lanes = c.push_reserved.ensures.items;
      came = subst (λ o. IsLaneEnd c.in-Some.run'.work o c.kept.result) (sym c.in-Some-came.is) c.kept.ensures;
    }

pub seats_back-requires-clause-empty : goal.seats_back-requires-clause-empty
seats_back-requires-clause-empty g c = c.requires.room.seats.0

pub gather-rows-requires-clause-empty : goal.gather-rows-requires-clause-empty
gather-rows-requires-clause-empty g c = c.requires.room.spare.0

pub gather-rows-requires-clause-room : goal.gather-rows-requires-clause-room
gather-rows-requires-clause-room g c = c.requires.room.spare.1

pub returns-clause-rooms : goal.returns-clause-rooms
returns-clause-rooms g c = refl
