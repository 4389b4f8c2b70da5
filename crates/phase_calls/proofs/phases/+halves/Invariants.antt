use Rattle.std.proofs.Common.{◌+◌, ◌-◌, ◌*◌, length}
use Rattle.phase_calls.proofs.phases.+halves.Given as goal

abbrev pub decreases-at_each : goal.decreases-at_each
decreases-at_each g l = 4 * length l.calls.now

abbrev pub decreases-both_halves : goal.decreases-both_halves
decreases-both_halves g l = 4 * (length l.low.now + length l.high.now) - 1

abbrev pub decreases-halves_at_once : goal.decreases-halves_at_once
decreases-halves_at_once g l = 4 * (length l.low.now + length l.high.now) - 2

abbrev pub decreases-halves_at_once-front : goal.decreases-halves_at_once-front
decreases-halves_at_once-front g l = 4 * length l.low.now + 1

abbrev pub decreases-halves_at_once-back : goal.decreases-halves_at_once-back
decreases-halves_at_once-back g l = 4 * length l.high.now + 1
