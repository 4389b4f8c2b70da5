use Rattle.std.proofs.Common.{◌≤◌, ◌∙◌, sym, subst}
use Rattle.std.specs.Prelude.{All}
use Rattle.std.specs.Vec.{vec_capacity}
use Rattle.lane_waves.specs.Deals.{IsEmptyRoom}
use Rattle.lane_waves.proofs.waves.lane_room.Goals as goal

pub returns : goal.returns
returns g c =
    let first = c.in_ok-emptied.ensures in
    let second = c.in-Ok.ensures in
    let homes = c.coordinators-homes.ensures.value in
    let shards = c.shards-shards.ensures.value in
    let lanes = c.lane_count-lanes.ensures.value in
    record {
      emptied = (first.0.0, subst (λ n. n ≤ vec_capacity c.in_ok-emptied.emptied) homes first.0.1);
      spare = (second.0.0, subst (λ n. n ≤ vec_capacity c.in-Ok.spare) shards second.0.1);
      seats = (second.1.0, subst (λ n. n ≤ vec_capacity c.in-Ok.seats) shards second.1.1);
      rooms = subst (λ n. All (IsEmptyRoom n) c.in-Ok-port_rooms.rooms.items) shards c.in-Ok-port_rooms.ensures.rooms;
      rooms_many = sym c.in-Ok-port_rooms.rooms.ok.0 ∙ (c.in-Ok-port_rooms.ensures.as_many ∙ lanes);
      runs = (first.1.0, subst (λ n. n ≤ vec_capacity c.in_ok-emptied.runs) lanes first.1.1);
    }
