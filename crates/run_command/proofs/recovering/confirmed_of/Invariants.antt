use Rattle.std.proofs.Common.{◌≡◌, ◌≤◌, take}
use Rattle.printed_lines.specs.Recoveries.{won_in}
use Rattle.run_command.proofs.recovering.confirmed_of.Given as goal

abbrev pub invariant-outcomes : goal.invariant-outcomes
invariant-outcomes l = record {
  count : l.confirmed ≡ won_in (take l.outcome-index l.outcomes);
  bound : l.confirmed ≤ l.outcome-index;
}
