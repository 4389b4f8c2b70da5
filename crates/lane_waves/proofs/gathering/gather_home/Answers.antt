use Rattle.std.proofs.Common.{rules, ◌≡◌, refl, ◌∙◌, subst, arith}
use Rattle.lane_waves.specs.Gathers.{AreHome}
use Rattle.lane_waves.proofs.Places.{snoc_many}
use Rattle.lane_waves.proofs.Giving.{gathered_more, home_none, home_more}
use Rattle.lane_waves.proofs.gathering.gather_home.Goals as goal

pub loop-place-init : goal.loop-place-init
loop-place-init g c = record {
  some = let s = c.requires.some in omega (arith, s);
  len = search rules;
  capacity = refl;
  room = c.requires.room;
  rooms = refl;
  home = home_none c.args.table c.args.own.items c.requires.own.0;
  gathered = λ locks all k. k;
}

pub loop-place-preserved : goal.loop-place-preserved
loop-place-preserved g c =
    let inv = c.loop-place.invariant in
    let e = c.gather_lane-seat.ensures in
    let many = snoc_many c.loop-place.table.runs.items c.gather_lane-seat.result.1.runs.items e.back.run e.back.runs in
    record {
      some = let s = inv.some in omega (arith, s, many);
      len = let l = inv.len in let m = c.push_reserved.ensures.len in omega (arith, l, m);
      capacity = c.push_reserved.ensures.capacity ∙ inv.capacity;
      room = e.room;
      rooms = e.rooms ∙ inv.rooms;
      home = home_more c.loop-place._place c.args.table c.loop-place.own.items c.push_reserved.new.self.items c.loop-place.table
          c.gather_lane-seat.result.1 c.gather_lane-seat.result.0 inv.home e.back c.push_reserved.ensures.items;
      gathered = λ locks all k. gathered_more locks all c.loop-place.table c.gather_lane-seat.result.0 c.gather_lane-seat.result.1 e.back
          (inv.gathered locks all k);
    }

pub returns-clause-room : goal.returns-clause-room
returns-clause-room g c = c.loop-place.invariant.room

pub returns-clause-rooms : goal.returns-clause-rooms
returns-clause-rooms g c = c.loop-place.invariant.rooms

pub returns-clause-home : goal.returns-clause-home
returns-clause-home g c = let e : c.loop-place._place ≡ c.args.count = omega arith in
    subst (λ n. AreHome n c.args.table c.loop-place.own.items c.loop-place.table) e c.loop-place.invariant.home

pub returns-clause-gathered : goal.returns-clause-gathered
returns-clause-gathered g c = c.loop-place.invariant.gathered

pub gather_lane-seat-requires-clause-room :
    goal.gather_lane-seat-requires-clause-room
gather_lane-seat-requires-clause-room g c = c.loop-place.invariant.room
