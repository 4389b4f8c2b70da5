use Rattle.std.proofs.Common.{◌≡◌, ◌<◌, ◌≤◌, ℕ, get_or, None}
use Rattle.cbdc_model.specs.Records.{Won}
use Rattle.cbdc_model.specs.Outcomes.{outcome_by}
use Rattle.audit.proofs.outcomes.decide_by.Given as goal

abbrev pub invariant-loop-k : goal.invariant-loop-k
invariant-loop-k l =
    ((j : ℕ) → j < l.k → get_or l.outcomes j Won ≡ outcome_by (get_or l.replies j None) l.shard (get_or l.initial.outcomes j Won))
    × ((j : ℕ) → l.k ≤ j → get_or l.outcomes j Won ≡ get_or l.initial.outcomes j Won)
