use Rattle.std.proofs.Common.{take}
use Rattle.std.specs.List.{All}
use Rattle.rack_runs.specs.Works.{IsSeen}
use Rattle.rack_runs.proofs.nodes.see_logs.Given as goal

abbrev pub invariant-logs : goal.invariant-logs
invariant-logs g l = All (IsSeen g.D.Disk) (take l.log-index l.logs)
