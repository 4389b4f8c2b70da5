use Rattle.std.proofs.Common.{◌≡◌, ◌≤◌, ◌<◌, ◌+◌, ◌^◌, length, reverse, vec_len}
use Rattle.std.specs.Prelude.{vec_capacity}
use Rattle.lane_waves.specs.Ports.{AreNumbered}
use Rattle.lane_waves.proofs.Porting.{Porting}
use Rattle.lane_waves.proofs.ports.ports_over.Given as goal

abbrev pub invariant-loop-seat : goal.invariant-loop-seat
invariant-loop-seat g l = Porting l.locks l.fn.seats.items l.left l.seats.items l.ports.items
    × (length l.seats.items + length l.ports.items ≤ vec_capacity l.ports) × (l.first + length l.left < 2 ^ 32)
    × (vec_capacity l.seats ≡ vec_capacity l.fn.seats) × AreNumbered (l.first + length l.left) (reverse l.ports.items)

abbrev pub decreases-loop-seat : goal.decreases-loop-seat
decreases-loop-seat g l = vec_len l.seats
