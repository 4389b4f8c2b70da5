use Rattle.std.proofs.Common.{arith, sym, ◌∙◌}
use Rattle.cbdc_model.specs.Next.{same_entry}
use Rattle.shard_core.proofs.Places.{misfit_at, no_misfit, found_short}
use Rattle.shard_core.proofs.comparing.other_part.Goals as goal

pub returns-then-not-are_same_entries : goal.returns-then-not-are_same_entries
returns-then-not-are_same_entries c =
    misfit_at same_entry _ _ _ c.index-kept-at.result c.index-given-at.result c.loop-at.invariant (omega arith) (omega arith)
    (rw (← c.index-kept-at.is, ← c.index-given-at.is) (sym c.are_same_entries.ensures ∙ c.if-not-are_same_entries.true))

pub returns-then-kept-given : goal.returns-then-kept-given
returns-then-kept-given c =
    no_misfit same_entry _ _ (λ i d e h. c.loop-at.invariant i d e (omega arith)) (omega arith)

pub returns-else-kept-given : goal.returns-else-kept-given
returns-else-kept-given c =
    rw c.min.ensures (found_short same_entry _ _ (λ i d e h g. c.loop-at.invariant i d e (omega arith)) (λ q. omega arith))
