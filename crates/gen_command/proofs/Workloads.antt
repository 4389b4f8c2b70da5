-- The files of a workload are within the limits of files.
use Rattle.std.proofs.Common.{arith, ◌≤◌, ℕ, [], ◌∷◌, length}
use Rattle.std.specs.Prelude.{All}
use Rattle.std.specs.List.{range_with_len}
use Rattle.std.proofs.lemmas.List.Elements.{All-nil, All-cons, All-map}
use Rattle.std.proofs.lemmas.List.FromFn.{length-map-range_with_len}
use Rattle.cbdc_model.specs.Coins.{genesis_id}
use Rattle.input_files.specs.Limits.{IsShort}
use Rattle.workload.specs.Generator.{coin, mint_of, minted_of, joined_of, splits_of, joins_of, split_of, join_of}

pub few : (seed n : ℕ) → n ≤ 10000 → length (mint_of seed n) ≤ 1000000
few seed n small = omega (arith, small, length-map-range_with_len (coin seed) 0 (minted_of n))

splits : (seed n : ℕ) → All IsShort (splits_of seed n)
splits seed n = All-map IsShort (split_of seed n (genesis_id (mint_of seed n))) (range_with_len 0 (minted_of n))
    (λ k d lt. record { inputs = omega arith; outputs = omega arith })

joins : (seed n : ℕ) → All IsShort (joins_of seed n)
joins seed n = All-map IsShort (join_of seed n (genesis_id (mint_of seed n))) (range_with_len 0 (joined_of n))
    (λ k d lt. record { inputs = omega arith; outputs = omega arith })

pub both : (seed n : ℕ) → All (λ txs. All IsShort txs) (splits_of seed n ∷ joins_of seed n ∷ [])
both seed n =
    All-cons (λ txs. All IsShort txs) (splits_of seed n) (joins_of seed n ∷ []) (splits seed n)
    (All-cons (λ txs. All IsShort txs) (joins_of seed n) [] (joins seed n) (All-nil (λ txs. All IsShort txs)))
