use Rattle.std.proofs.Common.{length}
use Rattle.plain_check.proofs.running.+put_file.Given as goal

abbrev pub decreases-put_file : goal.decreases-put_file
decreases-put_file l = length l.txs.now
