use Rattle.std.proofs.Common.{◌≤◌, ◌+◌, length, vec_len}
use Rattle.std.specs.Prelude.{vec_capacity}
use Rattle.lane_waves.proofs.Porting.{Backing}
use Rattle.lane_waves.proofs.ports.seats_back.Given as goal

abbrev pub invariant-loop-port : goal.invariant-loop-port
invariant-loop-port g l = Backing l.fn.ports.items l.ports.items l.seats.items × (length l.ports.items + length l.seats.items ≤ vec_capacity l.seats)

abbrev pub decreases-loop-port : goal.decreases-loop-port
decreases-loop-port g l = vec_len l.ports
