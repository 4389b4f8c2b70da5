use Rattle.std.proofs.Common.{◌≡◌, ◌-◌}
use Rattle.lane_sources.proofs.source.LaneSource.finish.Given as goal

abbrev pub invariant-submissions : goal.invariant-submissions
invariant-submissions g l = l.self.lane ≡ l.lane

abbrev pub decreases-submissions : goal.decreases-submissions
decreases-submissions g l = l.end - l.self.at
