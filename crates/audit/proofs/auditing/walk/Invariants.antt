use Rattle.std.proofs.Common.{List, [], take}
use Rattle.cbdc_model.specs.Records.{journal}
use Rattle.cbdc_model.specs.Coins.{Output}
use Rattle.cbdc_model.specs.History.{committed}
use Rattle.audit.specs.Rows.{read, newest_first}
use Rattle.audit.specs.Knowing.{Knows}
use Rattle.audit.specs.Walks.{AllCaused}
use Rattle.audit.specs.Keeping.{IsIndex, HasSpent}
use Rattle.audit.proofs.auditing.walk.Given as goal

abbrev pub invariant-places : goal.invariant-places
invariant-places l =
    Knows (read l.journals) l.known (λ n. journal n (newest_first (read l.journals) (take l.at l.history)))
    × AllCaused l.shape (newest_first (read l.journals) (take l.at l.history))
    × ((mint : List Output) → IsIndex l.handed l.ids → HasSpent mint l.handed [] l.initial.fold
    → HasSpent mint l.handed (committed (newest_first (read l.journals) (take l.at l.history))) l.fold)
