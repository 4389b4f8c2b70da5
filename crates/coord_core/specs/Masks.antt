-- The shards that a transaction concerns, as the bits of a number.
use Rattle.std.specs.Prelude.{ℕ, ◌^◌, List, [], ◌∷◌, map, bit_or}
use Rattle.cbdc_model.specs.Records.{Digest, Shape, Compact}
use Rattle.cbdc_model.specs.Ranges.{shard_of}

-- a mask in which the bits of these hashes' shards are set, too
abbrev pub marked : Shape → ℕ → List Digest → ℕ
marked K m [] = m
marked K m (x ∷ xs) = marked K (bit_or m (2 ^ shard_of K x)) xs

-- the bits of the shards that a transaction concerns
abbrev pub mask_of : Shape → Compact → ℕ
mask_of K t = marked K (marked K 0 t.inputs) t.outputs

-- so for each transaction
abbrev pub masks_of : Shape → List Compact → List ℕ
masks_of K txs = map (λ t. mask_of K t) txs
