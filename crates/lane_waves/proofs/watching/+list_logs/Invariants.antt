use Rattle.std.proofs.Common.{length}
use Rattle.lane_waves.proofs.watching.+list_logs.Given as goal

abbrev pub decreases-list_logs : goal.decreases-list_logs
decreases-list_logs g l = length l.locks.now
