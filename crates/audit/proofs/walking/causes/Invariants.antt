use Rattle.std.proofs.Common.{take}
use Rattle.cbdc_model.specs.Records.{journal}
use Rattle.audit.specs.Rows.{read, newest_first}
use Rattle.audit.specs.Knowing.{Knows}
use Rattle.audit.specs.Walks.{AllCaused}
use Rattle.audit.proofs.walking.causes.Given as goal

abbrev pub invariant-places : goal.invariant-places
invariant-places l =
    Knows (read l.journals) l.known (λ n. journal n (newest_first (read l.journals) (take l.at l.history)))
    × AllCaused l.shape (newest_first (read l.journals) (take l.at l.history))
