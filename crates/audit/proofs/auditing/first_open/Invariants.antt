use Rattle.std.proofs.Common.{ℕ, List, take}
use Rattle.cbdc_model.specs.Records.{Record}
use Rattle.audit.specs.Rows.{read, rows_at}
use Rattle.audit.specs.Knowing.{Knows}
use Rattle.audit.specs.Walks.{AllDone}
use Rattle.audit.proofs.auditing.first_open.Given as goal

abbrev pub invariant-places : goal.invariant-places
invariant-places l =
    (J : ℕ → List Record) → Knows (read l.journals) l.known J → AllDone l.shape J (rows_at (read l.journals) (take l.at l.history))
