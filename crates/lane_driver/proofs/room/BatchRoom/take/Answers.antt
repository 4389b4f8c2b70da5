use Rattle.std.proofs.Common.{◌≡◌, ◌≤◌, length, subst}
use Rattle.std.specs.Vec.{vec_capacity}
use Rattle.lane_driver.specs.Rooms.{IsLaterRoom}
use Rattle.lane_driver.proofs.Parting.{parts_rise, parts_small}
use Rattle.lane_driver.proofs.room.BatchRoom.take.Goals as goal

pub returns-clause-room : goal.returns-clause-room
returns-clause-room c =
    let count : c.len-count.result ≡ length c.in_ok-parts.parts = c.len-count.ensures in
    record {
      parts = parts_rise c.args.shape.now c.args.txs.now c.in_ok-parts.parts c.in_ok-parts.ensures;
      small = parts_small c.args.shape.now c.args.txs.now c.in_ok-parts.parts c.in_ok-parts.ensures;
      no_locks = c.in_ok-with_capacity.ensures.items;
      locks = subst (λ n. n ≤ vec_capacity c.in_ok-with_capacity.field-0) count c.in_ok-with_capacity.ensures.capacity;
      no_replied = c.in_ok-with_capacity-2.ensures.items;
      replied = subst (λ n. n ≤ vec_capacity c.in_ok-with_capacity-2.field-0) count c.in_ok-with_capacity-2.ensures.capacity;
      again = subst (λ n. n ≤ vec_capacity c.in_ok-with_capacity-3.field-0) count c.in_ok-with_capacity-3.ensures.capacity;
      no_replies = c.in_ok-with_capacity-4.ensures.items;
      replies = subst (λ n. n ≤ vec_capacity c.in_ok-with_capacity-4.field-0) count c.in_ok-with_capacity-4.ensures.capacity;
      outcomes = c.in_ok-with_capacity-5.ensures.capacity;
      later = subst (λ n. IsLaterRoom n (length c.args.txs.now) c.in_ok-take.field-0) count c.in_ok-take.ensures;
    }

pub returns-clause-parts : goal.returns-clause-parts
returns-clause-parts c = c.in_ok-parts.ensures
