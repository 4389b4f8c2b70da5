use Rattle.std.proofs.Common.{length}
use Rattle.plain_check.proofs.telling.+put_statuses.Given as goal

abbrev pub decreases-put_statuses : goal.decreases-put_statuses
decreases-put_statuses l = length l.hashes.now
