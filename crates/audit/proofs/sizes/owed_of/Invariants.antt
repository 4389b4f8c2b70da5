use Rattle.std.proofs.Common.{◌≡◌, ◌||◌, drop}
use Rattle.cbdc_model.specs.Records.{Digest, journal}
use Rattle.cbdc_model.specs.Status.{has}
use Rattle.audit.specs.Rows.{read, rows_at, newest_first}
use Rattle.audit.specs.Waiting.{owes, any_row}
use Rattle.audit.proofs.sizes.owed_of.Given as goal

abbrev pub invariant-places : goal.invariant-places
invariant-places l = (y : Digest)
    → (has l.owed.hashes y || any_row (λ row. owes l.shape (λ n. journal n (newest_first (read l.journals) l.history)) row.what y)
    (rows_at (read l.journals) (drop l.at l.history)))
    ≡ any_row (λ row. owes l.shape (λ n. journal n (newest_first (read l.journals) l.history)) row.what y) (rows_at (read l.journals) l.history)
