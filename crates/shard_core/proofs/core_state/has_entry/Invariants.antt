use Rattle.std.proofs.Common.{◌≡◌, drop}
use Rattle.shard_core.specs.Remembers.{has_id}
use Rattle.shard_core.proofs.core_state.has_entry.Given as goal

-- the entries so far don't have it
abbrev pub invariant-loop-entry : goal.invariant-loop-entry
invariant-loop-entry l = has_id l.entries l.id ≡ has_id (drop l.entry-index l.entries) l.id
