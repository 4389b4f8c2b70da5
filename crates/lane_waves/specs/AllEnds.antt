-- All runs of a wave behind their ends.
use Rattle.std.specs.Prelude.{ℕ, ◌<◌, List, length, slice_index_or}
use Rattle.cbdc_model.specs.Records.{Shape}
use Rattle.cbdc_model.specs.Sights.{Sight}
use Rattle.node_lock.specs.Seats.{TableId}
use Rattle.port_sets.specs.declared.tables.Locks.{Ghosts}
use Rattle.lane_waves.specs.declared.runs.LaneRun.{LaneRun}
use Rattle.lane_waves.specs.Held.{RunEnds}

module _ {W D S B X : Type 0} {G : Ghosts B} (sight : S → Sight) (tables : ℕ → TableId) (K : Shape) where
  -- each run was made to its end
  pub record AllRunsEnd (old new : List (LaneRun W D S B X G)) : Type 0 where
    pub each : (i : ℕ) (d : LaneRun W D S B X G) → i < length old → RunEnds sight tables K (slice_index_or old i d) (slice_index_or new i d)
