use Rattle.std.proofs.Common.{◌≡◌, ◌++◌, map, reverse, take}
use Rattle.audit.specs.Rows.{read}
use Rattle.rack_ledgers.proofs.lent.lend_logs.Given as goal

abbrev pub invariant-logs : goal.invariant-logs
invariant-logs g l = read l.all.items ≡ read l.initial.all.items ++ map (λ x. reverse x.journal) (take l.log-index l.logs)
