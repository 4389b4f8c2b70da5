-- The journals of all nodes, node by node.
use Rattle.std.proofs.Common.{◌≡◌, ℕ, ◌-◌, ◌<◌, true, false, nat_lt, if◌then◌else◌, ap, ◌∙◌, arith}
use Rattle.cbdc_model.specs.Records.{Shape}
use Rattle.cbdc_model.specs.Ranges.{shard_node}
use Rattle.cbdc_model.specs.Sights.{Sight}
use Rattle.run_laws.specs.Runs.{seen_by}
use Rattle.run_laws.specs.Turns.{SeenLaw}

pub seen_log : (K : Shape) (logs shards : ℕ → Sight) (n : ℕ) → n < K.coordinators → seen_by K logs shards n ≡ (logs n).seen
seen_log K logs shards n lt = ap (λ t. if t then (logs n).seen else (shards (n - K.coordinators)).seen) low
  where
    low : nat_lt n K.coordinators ≡ true
    low = grind (arith, lt)

pub seen_shard : (K : Shape) (logs shards : ℕ → Sight) (s : ℕ) → seen_by K logs shards (shard_node K s) ≡ (shards s).seen
seen_shard K logs shards s = ap (λ t. if t then (logs (shard_node K s)).seen else (shards (shard_node K s - K.coordinators)).seen) high
    ∙ ap (λ m. (shards m).seen) back
  where
    high : nat_lt (shard_node K s) K.coordinators ≡ false
    high = grind arith

    back : shard_node K s - K.coordinators ≡ s
    back = omega arith

pub seen_law : SeenLaw
seen_law K logs shards = (seen_log K logs shards, seen_shard K logs shards)
