use Rattle.std.proofs.Common.{take}
use Rattle.cbdc_model.specs.Records.{journal}
use Rattle.audit.specs.Rows.{read, newest_first}
use Rattle.audit.specs.Knowing.{Knows}
use Rattle.audit.specs.Standing.{HasStatuses}
use Rattle.audit.proofs.sizes.standing_of.Given as goal

abbrev pub invariant-places : goal.invariant-places
invariant-places l =
    Knows (read l.journals) l.known (λ n. journal n (newest_first (read l.journals) (take l.at l.history)))
    × HasStatuses l.shape l.statuses (newest_first (read l.journals) (take l.at l.history))
