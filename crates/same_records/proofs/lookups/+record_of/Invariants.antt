use Rattle.std.proofs.Common.{length}
use Rattle.same_records.proofs.lookups.+record_of.Given as goal

abbrev pub decreases-record_of : goal.decreases-record_of
decreases-record_of l = length l.past.now
