use Rattle.std.proofs.Common.{◌≡◌}
use Rattle.std.specs.Vec.{vec_capacity, vec_len}
use Rattle.phase_calls.proofs.phases.hold_places.Given as goal

abbrev pub invariant-loop-place : goal.invariant-loop-place
invariant-loop-place g l = record { filled : vec_len l.out ≡ l._place; capacity : vec_capacity l.out ≡ vec_capacity l.initial.out }
