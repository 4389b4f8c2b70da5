use Rattle.std.proofs.Common.{◌≡◌, ◌<◌, ◌≤◌, ◌+◌, suc, Some, length, refl, sym, ◌∙◌, subst, arith}
use Rattle.std.specs.Prelude.{vec_capacity}
use Rattle.std.proofs.lemmas.List.Elements.{All-pop, All-push, All-same}
use Rattle.node_lock.specs.Seats.{knows}
use Rattle.port_sets.specs.Nodes.{shard_sight}
use Rattle.lane_waves.specs.NodeRows.{AreDealt}
use Rattle.lane_waves.proofs.Passing.{deals}
use Rattle.lane_waves.proofs.Fresh.{all_seated}
use Rattle.lane_waves.specs.Rows.{lanes_from}
use Rattle.lane_waves.specs.Ports.{AreNumbered}
use Rattle.lane_waves.specs.Deals.{MayRun, IsEmptyRoom, EachHolds}
use Rattle.lane_waves.proofs.Places.{snoc_many, pushed_many}
use Rattle.lane_waves.proofs.Numbers.{many_lanes}
use Rattle.lane_waves.proofs.Lists.{holds_left, pops_many, left_some}
use Rattle.lane_waves.proofs.dealing.deal_lane.Goals as goal

pub deal-rows-requires-clause-some : goal.deal-rows-requires-clause-some
deal-rows-requires-clause-some g c =
    let n = (knows c.args.home.seat).lane in
    left_some (shard_sight g.S.Shard.sight) (lanes_from 0 (suc n)) c.args.locks.now c.args.table.rows.items
    (subst (λ m. 0 < m) (sym (many_lanes 0 (suc n))) (omega arith)) c.requires.waiting.left

pub ports_over-ports-requires-clause-seated :
    goal.ports_over-ports-requires-clause-seated
ports_over-ports-requires-clause-seated g c =
    let n = (knows c.args.home.seat).lane in
    let sight = shard_sight g.S.Shard.sight in
    let none : 0 + n ≡ n = omega arith in
    let both = deals sight (lanes_from 0 n) (0 + n) c.args.locks.now c.args.table.rows.items c.deal-rows.result.rows.items
    c.deal-rows.result.items.items c.requires.waiting.left c.deal-rows.ensures.taken in
    all_seated sight n c.args.locks.now c.deal-rows.result.items.items
    (subst (λ l. AreDealt sight l c.args.locks.now c.deal-rows.result.items.items) none both.1)

pub ports_over-ports-requires-clause-empty :
    goal.ports_over-ports-requires-clause-empty
ports_over-ports-requires-clause-empty g c =
    (All-pop (IsEmptyRoom (length c.args.locks.now)) c.args.table.rooms.items c.pop.new.self.items (Some c.in-Some.room) c.in-Some.ensures.items
    c.requires.waiting.room.rooms).1.0

pub ports_over-ports-requires-clause-room :
    goal.ports_over-ports-requires-clause-room
ports_over-ports-requires-clause-room g c =
    let room = (All-pop (IsEmptyRoom (length c.args.locks.now)) c.args.table.rooms.items c.pop.new.self.items (Some c.in-Some.room)
    c.in-Some.ensures.items c.requires.waiting.room.rooms).1.1 in
    let many = pops_many c.args.table.rows.items c.deal-rows.result.rows.items c.deal-rows.result.items.items c.deal-rows.ensures.taken in
    let a = many.0 in let b = many.1 in let rows = c.requires.waiting.room.rows in
    omega (arith, room, a, b, rows)

pub returns-clause-waiting : goal.returns-clause-waiting
returns-clause-waiting g c =
    let room = c.requires.waiting.room in
    let n = (knows c.args.home.seat).lane in
    let t = c.args.table in
    let many = pops_many t.rows.items c.deal-rows.result.rows.items c.deal-rows.result.items.items c.deal-rows.ensures.taken in
    let a = many.0 in let b = many.1 in
    let grown = pushed_many c.push_reserved.new.self t.runs c.push_reserved.ensures.len in
    let rooms = snoc_many t.rooms.items c.pop.new.self.items c.in-Some.room c.in-Some.ensures.items in
    let lanes = snoc_many t.lanes.items c.pop-2.new.self.items c.in-Some-pop.work c.in-Some-pop.ensures.items in
    let same : length t.runs.items + suc n ≡ length c.push_reserved.new.self.items + n = omega (arith, grown) in
    record {
      room = record {
        rows = sym a ∙ room.rows;
        rows_hold = subst (λ m. EachHolds m c.deal-rows.result.rows.items) same
            (holds_left (length t.runs.items + suc n) t.rows.items c.deal-rows.result.rows.items c.deal-rows.result.items.items
            c.deal-rows.ensures.taken room.rows_hold);
        seats = (
          c.ports_over-ports.ensures.empty.0,
          let e = c.ports_over-ports.ensures.empty.1 in let k = c.deal-rows.result.items.ok in let p = k.0 in let q = k.1 in let r = room.rows in
              omega (arith, e, p, q, a, b, r),
        );
        spare = (
          c.deal-rows.ensures.empty,
          let e = c.deal-rows.ensures.room.1 in let k = t.rows.ok in let p = k.0 in let q = k.1 in let r = room.rows in omega (arith, e, p, q, r),
        );
        rooms = (All-pop (IsEmptyRoom (length c.args.locks.now)) t.rooms.items c.pop.new.self.items (Some c.in-Some.room) c.in-Some.ensures.items
            room.rooms).0;
        rooms_many = let m = room.rooms_many in omega (arith, m, rooms);
        lanes = (All-pop MayRun t.lanes.items c.pop-2.new.self.items (Some c.in-Some-pop.work) c.in-Some-pop.ensures.items room.lanes).0;
        lanes_many = let m = room.lanes_many in omega (arith, m, lanes);
        lanes_hold = let h = room.lanes_hold in let k = c.in-Some-pop.ensures.capacity in omega (arith, h, k, same);
        runs_hold = let h = room.runs_hold in let k = c.push_reserved.ensures.capacity in omega (arith, h, k, same);
      };
      left = (deals (shard_sight g.S.Shard.sight) (lanes_from 0 n) (0 + n) c.args.locks.now t.rows.items c.deal-rows.result.rows.items
          c.deal-rows.result.items.items c.requires.waiting.left c.deal-rows.ensures.taken).0;
    }

pub returns-clause-next : goal.returns-clause-next
returns-clause-next g c =
    let n = (knows c.args.home.seat).lane in
    let sight = shard_sight g.S.Shard.sight in
    let none : 0 + n ≡ n = omega arith in
    let both = deals sight (lanes_from 0 n) (0 + n) c.args.locks.now c.args.table.rows.items c.deal-rows.result.rows.items
    c.deal-rows.result.items.items c.requires.waiting.left c.deal-rows.ensures.taken in
    record {
      run = _;
      runs = c.push_reserved.ensures.items;
      lanes = c.in-Some-pop.ensures.items;
      lane = c.lane.ensures;
      log = refl;
      seats = c.deal-rows.result.items.items;
      dealt = subst (λ l. AreDealt sight l c.args.locks.now c.deal-rows.result.items.items) none both.1;
      ports = c.ports_over-ports.ensures.ports;
    }

pub returns-clause-numbered : goal.returns-clause-numbered
returns-clause-numbered g c = λ before.
    All-same (λ r. AreNumbered c.args.first r.ports.shards.each.ports.items) c.push_reserved.new.self.items _ c.push_reserved.ensures.items
    (All-push (λ r. AreNumbered c.args.first r.ports.shards.each.ports.items) c.args.table.runs.items _ before c.ports_over-ports.ensures.numbered)

pub deal-rows-requires-clause-empty : goal.deal-rows-requires-clause-empty
deal-rows-requires-clause-empty g c = (c.requires.waiting.room.seats.0, c.requires.waiting.room.spare.0)

pub deal-rows-requires-clause-room : goal.deal-rows-requires-clause-room
deal-rows-requires-clause-room g c =
    let room = c.requires.waiting.room in (
      subst (λ n. n ≤ vec_capacity c.args.table.seats) (sym room.rows) room.seats.1,
      subst (λ n. n ≤ vec_capacity c.args.table.spare) (sym room.rows) room.spare.1,
    )

pub ports_over-ports-requires-clause-small :
    goal.ports_over-ports-requires-clause-small
ports_over-ports-requires-clause-small g c = c.requires.small
