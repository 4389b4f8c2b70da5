use Rattle.std.proofs.Common.{◌≡◌, length}
use Rattle.file_runs.proofs.Sending.{AreBegun}
use Rattle.file_runs.proofs.waves.works_of.Given as goal

abbrev pub invariant-lanes : goal.invariant-lanes
invariant-lanes g l = record {
  count : length l.works.items ≡ l.lane;
  begun : AreBegun g.F.Deals.shape g.F.Deals.verdicts g.F.Deals.file l.works.items;
}
