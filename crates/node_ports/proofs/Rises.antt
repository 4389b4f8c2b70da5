-- Replies of shards that rise, in the words of the lane and of the coordinator.
use Rattle.std.proofs.Common.{◌<◌, ℕ, suc, List, [], ◌∷◌, arith}
use Rattle.std.specs.List.{All}
use Rattle.std.proofs.lemmas.List.Elements.{All-head, All-tail, All-weaker}
use Rattle.cbdc_types.specs.declared.batch.ShardReplies.{ShardReplies}
use Rattle.cbdc_model.specs.Records.{Shape, Reply, Held, Missing, Taken}
use Rattle.cbdc_model.specs.Grammar.{IsReply}
use Rattle.lane_driver.specs.Calls.{IsRising, AllAbove}
use Rattle.lane_driver.specs.Told.{AreShards}
use Rattle.coord_core.specs.Hashes.{NamesBatch, AllNameBatches}
use Rattle.coord_core.specs.Decided.{ShardsRise, StampsBelow}

-- the first is not below
abbrev pub BeginsFrom : ℕ → List ShardReplies → Type 0
BeginsFrom low [] = Unit {0}
BeginsFrom low (r ∷ rs) = low < suc r.shard

pub begins_after : (n : ℕ) (rs : List ShardReplies) → AllAbove (λ r. r.shard) n rs → BeginsFrom (suc n) rs
begins_after n [] above = tt
begins_after n (r ∷ rs) above = omega (arith, above.0)

pub rises_below : (low limit : ℕ) (rs : List ShardReplies) → BeginsFrom low rs → IsRising (λ r. r.shard) rs → All (λ r. r.shard < limit) rs
    → ShardsRise low limit rs
rises_below low limit [] begins rising below = tt
rises_below low limit (r ∷ rs) begins rising below = (
  begins,
  All-head (λ r. r.shard < limit) r rs below,
  rises_below (suc r.shard) limit rs (begins_after r.shard rs rising.0) rising.1 (All-tail (λ r. r.shard < limit) r rs below),
)

pub begins_low : (rs : List ShardReplies) → BeginsFrom 0 rs
begins_low [] = tt
begins_low (r ∷ rs) = omega arith

pub all_earlier : (limit : ℕ) (rs : List ShardReplies) → All (λ r. r.stamp < limit) rs → StampsBelow limit rs
all_earlier limit [] all = tt
all_earlier limit (r ∷ rs) all = (All-head (λ r. r.stamp < limit) r rs all, all_earlier limit rs (All-tail (λ r. r.stamp < limit) r rs all))

pub rises : (shards : ℕ) (rs : List ShardReplies) → AreShards (λ r. r.shard) shards rs → ShardsRise 0 shards rs
rises shards rs are = rises_below 0 shards rs (begins_low rs) are.0 are.1

names_one : (K : Shape) (r : Reply) → IsReply K r → NamesBatch K r
names_one K Held is = tt
names_one K (Missing x) is = tt
names_one K (Taken x by) is = is.1

pub all_name : (K : Shape) (rs : List ShardReplies) → All (λ r. All (IsReply K) r.replies) rs → AllNameBatches K rs
all_name K [] all = tt
all_name K (r ∷ rs) all = (
  All-weaker (IsReply K) (NamesBatch K) (names_one K) r.replies (All-head (λ r. All (IsReply K) r.replies) r rs all),
  all_name K rs (All-tail (λ r. All (IsReply K) r.replies) r rs all),
)
