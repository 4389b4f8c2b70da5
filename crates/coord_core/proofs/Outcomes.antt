-- Outcomes are in the grammar where the replies name batches of the shape.
use Rattle.std.proofs.Common.{ℕ, zero, suc, ◌<◌, List, [], ◌∷◌, length, map, get_or, arith}
use Rattle.std.specs.Prelude.{All}
use Rattle.cbdc_types.specs.declared.batch.ShardReplies.{ShardReplies}
use Rattle.cbdc_model.specs.Records.{Shape, Won}
use Rattle.cbdc_model.specs.Grammar.{IsOutcome}
use Rattle.coord_core.specs.Hashes.{NamesBatch, AllNameBatches}

pub won_outcomes : (K : Shape) (ms : List ℕ) → All (λ o. IsOutcome K o) (map (λ m. Won) ms)
won_outcomes K [] k d lt = absurd (omega arith)
won_outcomes K (m ∷ ms) zero d lt = tt
won_outcomes K (m ∷ ms) (suc k) d lt = won_outcomes K ms k d (omega arith)

pub named_at : (K : Shape) (rs : List ShardReplies) (i : ℕ) (d : ShardReplies) → AllNameBatches K rs → i < length rs
    → All (λ r. NamesBatch K r) (get_or rs i d).replies
named_at K [] i d named lt = absurd (omega arith)
named_at K (r ∷ rs) zero d named lt = named.0
named_at K (r ∷ rs) (suc i) d named lt = named_at K rs i d named.1 (omega arith)
