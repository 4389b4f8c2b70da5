use Rattle.std.proofs.Common.{◌≡◌}
use Rattle.file_runs.specs.Runs.{joined}
use Rattle.audit_command.proofs.auditing.joined.Given as goal

abbrev pub invariant-files : goal.invariant-files
invariant-files l = l.all.items ≡ joined l.yielded
