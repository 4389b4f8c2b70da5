use Rattle.std.proofs.Common.{length}
use Rattle.piece_rows.proofs.transactions.+push_each.Given as goal

abbrev pub decreases-push_each : goal.decreases-push_each
decreases-push_each l = length l.bytes.now
