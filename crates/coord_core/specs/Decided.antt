-- The replies by which a batch is decided, and what the code makes of them.
use Rattle.std.specs.Prelude.{◌≡◌, ℕ, suc, ◌<◌, max, ◌==◌, List, [], ◌∷◌, map, length, if◌then◌else◌, Some}
use Rattle.std.specs.Int.{bit_at}
use Rattle.cbdc_types.specs.declared.batch.ShardReplies.{ShardReplies}
use Rattle.cbdc_model.specs.Records.{Shape, Compact, Reply, Outcome, Won}
use Rattle.cbdc_model.specs.Ranges.{part}
use Rattle.cbdc_model.specs.Outcomes.{outcome_by}
use Rattle.cbdc_model.specs.Deciding.{replies_at, replies_in}

-- one shard's replies, taken into the outcomes by the greater shards; the masks say which transactions it replies to
abbrev pub replied_outcomes : ℕ → List ℕ → List Reply → List Outcome → List Outcome
replied_outcomes s [] rs os = os
replied_outcomes s (m ∷ ms) rs [] = []
replied_outcomes s (m ∷ ms) [] (o ∷ os) = o ∷ os
replied_outcomes s (m ∷ ms) (r ∷ rs) (o ∷ os) = if bit_at m s == 1 then outcome_by (Some r) s o ∷ replied_outcomes s ms rs os
    else o ∷ replied_outcomes s ms (r ∷ rs) os

-- the outcomes by all shards' replies, those of the least shard last
abbrev pub combined_outcomes : List ℕ → List ShardReplies → List Outcome
combined_outcomes ms [] = map (λ m. Won) ms
combined_outcomes ms (r ∷ rs) = replied_outcomes r.shard ms r.replies (combined_outcomes ms rs)

-- the greatest stamp of the replies, or the one given where that is greater
abbrev pub latest_reply : ℕ → List ShardReplies → ℕ
latest_reply n [] = n
latest_reply n (r ∷ rs) = latest_reply (max n r.stamp) rs

-- the shards rise, from the first number on, and are below the limit
abbrev pub ShardsRise : ℕ → ℕ → List ShardReplies → Type 0
ShardsRise low limit [] = Unit {0}
ShardsRise low limit (r ∷ rs) = (low < suc r.shard) × (r.shard < limit) × ShardsRise (suc r.shard) limit rs

-- the stamp of each shard's replies is below the limit
abbrev pub StampsBelow : ℕ → List ShardReplies → Type 0
StampsBelow limit [] = Unit {0}
StampsBelow limit (r ∷ rs) = (r.stamp < limit) × StampsBelow limit rs

-- the shards rise, and each has replied to each entry of its part
pub record AreRepliesTo (K : Shape) (txs : List Compact) (replies : List ShardReplies) : Type 0 where
  pub rising : ShardsRise 0 K.shards replies
  pub each : (s : ℕ) → s < K.shards → length (replies_in (replies_at replies s)) ≡ length (part K s 0 txs)
