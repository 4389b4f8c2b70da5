use Rattle.std.proofs.Common.{◌≡◌, List, None}
use Rattle.cbdc_model.specs.Records.{Record}
use Rattle.cbdc_model.specs.Fates.{fate_below}
use Rattle.shard_core.specs.Stands.{ShardStands}
use Rattle.shard_core.proofs.core_state.ShardCore.check_tx.Given as goal

-- none of the lanes so far remembers it
abbrev pub invariant-loop-lane : goal.invariant-loop-lane
invariant-loop-lane l = (J : List Record) → ShardStands l.self J → fate_below J l.id l.lane ≡ None
