use Rattle.std.proofs.Common.{◌≡◌, drop}
use Rattle.shard_core.specs.Remembers.{fate_of}
use Rattle.shard_core.proofs.core_state.decided_in.Given as goal

-- the entries so far don't have it
abbrev pub invariant-loop-at : goal.invariant-loop-at
invariant-loop-at l = fate_of l.entries l.decisions l.id ≡ fate_of (drop l.at l.entries) (drop l.at l.decisions) l.id
