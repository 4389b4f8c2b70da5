use Rattle.std.proofs.Common.{◌≤◌, take}
use Rattle.std.specs.List.{All}
use Rattle.lane_waves.proofs.waves.see_logs.Given as goal

abbrev pub invariant-logs : goal.invariant-logs
invariant-logs g l = All (λ l. l.opened ≤ l.faults) (take l.log-index l.logs)
