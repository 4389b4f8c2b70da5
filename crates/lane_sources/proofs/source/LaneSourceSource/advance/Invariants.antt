use Rattle.std.proofs.Common.{◌≡◌, ◌-◌, ◌≤◌, ◌++◌, length}
use Rattle.lane_sources.specs.Sources.{left_at}
use Rattle.lane_sources.proofs.source.LaneSourceSource.advance.Given as goal

abbrev pub invariant-submissions : goal.invariant-submissions
invariant-submissions g l = record {
  lane : l.self.lane ≡ l.fn.self.lane;
  given : l.self.given ++ left_at g.F.Deals.shape g.F.Deals.verdicts g.F.Deals.file l.fn.self.lane l.self.at
      ≡ left_at g.F.Deals.shape g.F.Deals.verdicts g.F.Deals.file l.fn.self.lane l.fn.self.at;
  few : length l.self.given ≤ l.size;
}

abbrev pub decreases-submissions : goal.decreases-submissions
decreases-submissions g l = l.count - l.self.at
