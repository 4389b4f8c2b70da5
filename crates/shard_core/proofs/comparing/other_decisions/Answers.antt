use Rattle.std.proofs.Common.{false, arith}
use Rattle.cbdc_model.specs.Next.{same_decision}
use Rattle.shard_core.proofs.Places.{misfit_at, no_misfit, found_short, other_bool}
use Rattle.shard_core.proofs.comparing.other_decisions.Goals as goal

pub returns-then-kept-at : goal.returns-then-kept-at
returns-then-kept-at c =
    misfit_at same_decision _ _ _ false false c.loop-at.invariant (omega arith) (omega arith) (other_bool _ _ c.if-kept-at.true)

pub returns-then-kept-given : goal.returns-then-kept-given
returns-then-kept-given c =
    no_misfit same_decision _ _ (λ i d e h. c.loop-at.invariant i d e (omega arith)) (omega arith)

pub returns-else-kept-given : goal.returns-else-kept-given
returns-else-kept-given c =
    rw c.min.ensures (found_short same_decision _ _ (λ i d e h g. c.loop-at.invariant i d e (omega arith)) (λ q. omega arith))
