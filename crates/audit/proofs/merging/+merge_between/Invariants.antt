use Rattle.std.proofs.Common.{◌-◌}
use Rattle.audit.proofs.merging.+merge_between.Given as goal

abbrev pub decreases-merge_between : goal.decreases-merge_between
decreases-merge_between l = l.high - l.low
