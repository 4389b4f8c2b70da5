use Rattle.std.proofs.Common.{◌≡◌, ◌+◌, ◌*◌, Some, List, length, refl, ap, ◌∙◌, arith}
use Rattle.std.proofs.lemmas.List.Elements.{All-pop}
use Rattle.lane_waves.specs.Deals.{IsEmptyRoom}
use Rattle.lane_waves.proofs.Places.{nothing_left, snoc_many, pushed_many, next_row, zero_row, append_many, none_long}
use Rattle.lane_waves.proofs.Giving.{homes_none, homes_more, homes_all}
use Rattle.lane_waves.proofs.gathering.gather_all.Goals as goal

pub loop-own-init : goal.loop-own-init
loop-own-init g c =
    let none = ap (λ (xs : List _). length xs) c.requires.empty in
    record {
      runs = c.requires.runs;
      emptied = c.requires.emptied;
      many = omega (arith, none);
      place = let p = c.requires.place in omega (arith, none, p);
      room = c.requires.room;
      rooms = refl;
      homes = homes_none c.args.count c.args.table c.args.homes.items c.requires.empty;
      gathered = λ locks all k. k;
    }

pub gather_home-own-requires-clause-some :
    goal.gather_home-own-requires-clause-some
gather_home-own-requires-clause-some g c =
    let r = c.loop-own.invariant.runs in
    let many = snoc_many c.loop-own.emptied.items c.pop.new.self.items c.in-Some.own c.in-Some.ensures.items in
    let row = next_row (length c.pop.new.self.items) (length c.loop-own.emptied.items) c.args.count many in
    omega (arith, r, row)

pub gather_home-own-requires-clause-own :
    goal.gather_home-own-requires-clause-own
gather_home-own-requires-clause-own g c =
    (All-pop (IsEmptyRoom c.args.count) c.loop-own.emptied.items c.pop.new.self.items (Some c.in-Some.own) c.in-Some.ensures.items
    c.loop-own.invariant.emptied).1

pub loop-own-preserved : goal.loop-own-preserved
loop-own-preserved g c =
    let inv = c.loop-own.invariant in
    let e = c.gather_home-own.ensures in
    let r = inv.runs in
    let many = snoc_many c.loop-own.emptied.items c.pop.new.self.items c.in-Some.own c.in-Some.ensures.items in
    let row = next_row (length c.pop.new.self.items) (length c.loop-own.emptied.items) c.args.count many in
    let runs : length c.loop-own.table.runs.items ≡ length c.gather_home-own.result.1.runs.items + length e.home.gone =
    ap (λ (xs : List _). length xs) e.home.runs ∙ append_many c.gather_home-own.result.1.runs.items e.home.gone in
    let gone = e.home.many in
    let more = pushed_many c.push_reserved.new.self c.loop-own.homes c.push_reserved.ensures.len in
    record {
      runs = omega (arith, r, row, runs, gone);
      emptied = (All-pop (IsEmptyRoom c.args.count) c.loop-own.emptied.items c.pop.new.self.items (Some c.in-Some.own) c.in-Some.ensures.items
          inv.emptied).0;
      many = let m = inv.many in omega (arith, m, many, more);
      place = let p = inv.place in let k = c.push_reserved.ensures.capacity in omega (arith, p, k, many, more);
      room = e.room;
      rooms = e.rooms ∙ inv.rooms;
      homes = homes_more c.args.count c.args.table c.loop-own.homes.items c.push_reserved.new.self.items c.gather_home-own.result.0 c.loop-own.table
          c.gather_home-own.result.1 inv.homes e.home c.push_reserved.ensures.items;
      gathered = λ locks all k. e.gathered locks all (inv.gathered locks all k);
    }

pub returns-clause-none : goal.returns-clause-none
returns-clause-none g c =
    let none = nothing_left c.loop-own.emptied c.in_default.ensures.cases.0 in
    none_long c.loop-own.table.runs.items (c.loop-own.invariant.runs ∙ ap (λ (xs : List _). length xs * c.args.count) none ∙ zero_row c.args.count)

pub returns-clause-many : goal.returns-clause-many
returns-clause-many g c =
    let none = nothing_left c.loop-own.emptied c.in_default.ensures.cases.0 in
    let z = ap (λ (xs : List _). length xs) none in
    let m = c.loop-own.invariant.many in
    omega (arith, z, m)

pub returns-clause-homes : goal.returns-clause-homes
returns-clause-homes g c =
    let none = nothing_left c.loop-own.emptied c.in_default.ensures.cases.0 in
    homes_all c.args.count c.args.table c.loop-own.homes.items c.loop-own.table c.loop-own.invariant.homes
    (none_long c.loop-own.table.runs.items (c.loop-own.invariant.runs ∙ ap (λ (xs : List _). length xs * c.args.count) none
    ∙ zero_row c.args.count))

pub returns-clause-room : goal.returns-clause-room
returns-clause-room g c = c.loop-own.invariant.room

pub returns-clause-rooms : goal.returns-clause-rooms
returns-clause-rooms g c = c.loop-own.invariant.rooms

pub returns-clause-gathered : goal.returns-clause-gathered
returns-clause-gathered g c = c.loop-own.invariant.gathered

pub gather_home-own-requires-clause-room :
    goal.gather_home-own-requires-clause-room
gather_home-own-requires-clause-room g c = c.loop-own.invariant.room
