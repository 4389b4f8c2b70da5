use Rattle.std.proofs.Common.{length}
use Rattle.plain_check.proofs.running.+put_files.Given as goal

abbrev pub decreases-put_files : goal.decreases-put_files
decreases-put_files l = length l.files.now
