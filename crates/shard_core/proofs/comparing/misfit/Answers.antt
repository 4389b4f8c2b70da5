use Rattle.std.proofs.Common.{false, arith, sym, ◌∙◌}
use Rattle.shard_core.specs.Places.{fits_reply}
use Rattle.shard_core.proofs.Places.{misfit_at, no_misfit, found_short}
use Rattle.shard_core.proofs.comparing.misfit.Goals as goal

pub returns-then-not-is_held : goal.returns-then-not-is_held
returns-then-not-is_held c =
    misfit_at fits_reply _ _ _ c.index-replies-at.result false c.loop-at.invariant (omega arith) (omega arith)
    (rw (← c.index-replies-at.is, c.if-decisions-at.true) (sym c.is_held.ensures ∙ c.if-not-is_held.true))

pub returns-then-replies-decisions : goal.returns-then-replies-decisions
returns-then-replies-decisions c =
    no_misfit fits_reply _ _ (λ i d e h. c.loop-at.invariant i d e (omega arith)) (omega arith)

pub returns-else-replies-decisions : goal.returns-else-replies-decisions
returns-else-replies-decisions c =
    rw c.min.ensures (found_short fits_reply _ _ (λ i d e h g. c.loop-at.invariant i d e (omega arith)) (λ q. omega arith))
