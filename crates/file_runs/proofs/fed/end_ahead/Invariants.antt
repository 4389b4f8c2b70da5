use Rattle.std.proofs.Common.{◌≡◌}
use Rattle.file_runs.proofs.fed.end_ahead.Given as goal

abbrev pub invariant-works : goal.invariant-works
invariant-works g l = l.works.items ≡ l.fn.works.items
