use Rattle.std.proofs.Common.{length}
use Rattle.lane_waves.proofs.watching.+list_shards.Given as goal

abbrev pub decreases-list_shards : goal.decreases-list_shards
decreases-list_shards g l = length l.locks.now
