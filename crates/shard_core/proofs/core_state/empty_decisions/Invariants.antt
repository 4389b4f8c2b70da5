use Rattle.std.proofs.Common.{◌≡◌, length}
use Rattle.shard_core.proofs.core_state.empty_decisions.Given as goal

abbrev pub invariant-loop-lane : goal.invariant-loop-lane
invariant-loop-lane l = length l.decisions.items ≡ l._lane
