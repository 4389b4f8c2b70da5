use Rattle.std.proofs.Common.{take}
use Rattle.std.specs.List.{All}
use Rattle.cbdc_model.specs.After.{IsJournal}
use Rattle.file_runs.specs.Ledgers.{FliesNext}
use Rattle.file_runs.proofs.driving.see_logs.Given as goal

abbrev pub invariant-logs : goal.invariant-logs
invariant-logs g l = record {
  journals : All (λ l. IsJournal l.header l.journal) (take l.log-index l.logs);
  next : All FliesNext (take l.log-index l.logs);
}
