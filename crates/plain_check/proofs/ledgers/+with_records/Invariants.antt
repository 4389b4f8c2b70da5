use Rattle.std.proofs.Common.{length}
use Rattle.plain_check.proofs.ledgers.+with_records.Given as goal

abbrev pub decreases-with_records : goal.decreases-with_records
decreases-with_records l = length l.past.now
