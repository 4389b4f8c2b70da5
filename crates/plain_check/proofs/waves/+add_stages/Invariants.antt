use Rattle.std.proofs.Common.{length}
use Rattle.plain_check.proofs.waves.+add_stages.Given as goal

abbrev pub decreases-add_stages : goal.decreases-add_stages
decreases-add_stages g l = length l.files.now
