-- What a journal without a record finds of it, and numbers of shards.
use Rattle.std.proofs.Common.{◌≡◌, ℕ, ◌*◌, ◌/◌, ◌%◌, ◌<◌, ◌==◌, Bool, true, false, List, [], ◌∷◌, Option, Some, None, is_some, slice_index, refl, ap}
use Rattle.std.proofs.Common.{arith, mul-lt-mul_of_pos_right, div-lt_iff_lt-mul, mod-lt, lit<}
use Rattle.cbdc_model.specs.Outcomes.{won_txs}
use Rattle.cbdc_model.specs.Ranges.{shard_of, first_byte}
use Rattle.cbdc_model.specs.Records.{Digest, Shape, record_of, entries_in, outcomes_in, Batch, Compact, Record, lock_of, outcomes_of}
use Rattle.ledger_laws.proofs.Next.{has_lock, has_commit}

pub not_true : (a : Bool) → (a ≡ true → ⊥) → a ≡ false
not_true a h = grind arith

pub true_false : (a : Bool) → a ≡ true → a ≡ false → ⊥
true_false a t f = cc

pub number_is : (m n : ℕ) → (m == n) ≡ true → m ≡ n
number_is m n h = grind (arith, h)

pub number_self : (n : ℕ) → (n == n) ≡ true
number_self n = grind arith

pub other_way : (m n : ℕ) → (m == n) ≡ false → (n == m) ≡ false
other_way m n e = grind arith

pub won_txs-nil : (txs : List Compact) → won_txs txs [] ≡ []
won_txs-nil [] = refl
won_txs-nil (t ∷ ts) = refl

pub none_found : (r : Option Record) → is_some r ≡ false → r ≡ None
none_found None h = refl
none_found (Some r) h = cc

pub no_lock : (J : List Record) (b : Batch) → has_lock J b ≡ false → lock_of J b ≡ []
no_lock J b h = ap entries_in (none_found (record_of 2 J b) h)

pub no_commit : (J : List Record) (b : Batch) → has_commit J b ≡ false → outcomes_of J b ≡ []
no_commit J b h = ap outcomes_in (none_found (record_of 7 J b) h)

below_shards : (n shards : ℕ) → n < 256 → 0 < shards → n * shards / 256 < shards
below_shards n shards lt h =
    let m : n * shards < 256 * shards = mul-lt-mul_of_pos_right lt h in
    let k : n * shards < shards * 256 = omega (arith, m) in
    (div-lt_iff_lt-mul {k = 256} {x = n * shards} {y = shards} (lit< tt)).1 k

pub shard_of-lt : (K : Shape) (x : Digest) → 0 < K.shards → shard_of K x < K.shards
unfolding shard_of first_byte
shard_of-lt K x h = below_shards (slice_index x 0 % 256) K.shards (mod-lt (slice_index x 0) {m = 256} (lit< tt)) h
