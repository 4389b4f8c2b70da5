use Rattle.std.proofs.Common.{◌≡◌, ◌-◌, ◌^◌, min, List}
use Rattle.cbdc_model.specs.Records.{Record}
use Rattle.cbdc_model.specs.Room.{kept_below}
use Rattle.shard_core.specs.Stands.{ShardStands}
use Rattle.shard_core.proofs.core_state.ShardCore.kept_room.Given as goal

-- what is kept for the lanes so far
abbrev pub invariant-loop-lane : goal.invariant-loop-lane
invariant-loop-lane l = (J : List Record) → ShardStands l.self J → l.room ≡ min (kept_below J l.lane) (2 ^ 64 - 1)
