-- How many bytes a first record takes.
use Rattle.std.proofs.Common.{◌≡◌, ℕ, suc, ◌+◌, ◌-◌, ◌≤◌, ◌<◌, ◌==◌, if◌then◌else◌, List, [], ◌∷◌, length, map, true, false, Bool, refl, arith}
use Rattle.std.specs.Prelude.{nat_lt}
use Rattle.std.specs.List.{AllByRecursion}
use Rattle.sha2.proofs.Facts256.{length-sha256}
use Rattle.byte_spelling.specs.Spelling.{FitsHash}
use Rattle.cbdc_types.specs.Limits.{IsWithinLimits}
use Rattle.cbdc_model.specs.Records.{Digest, Shape, Header, Genesis, Start}
use Rattle.cbdc_model.specs.Coins.{Output, Coin, coin_hash, made_coins, id_of, genesis_id, genesis_hashes}
use Rattle.cbdc_model.specs.Ranges.{shard_of, on_shard, node_count}
use Rattle.cbdc_model.specs.History.{header_of}
use Rattle.cbdc_model.specs.Room.{size_of}
use Rattle.record_log.proofs.Lengths.{body_length}
use Rattle.record_log.proofs.Records.{FitsHeader}
use Rattle.rack_ledgers.specs.First.{first_need}
use Rattle.ledger_init.specs.Made.{first_record_of}

on_length : (K : Shape) (s : ℕ) (xs : List Digest) → length (on_shard K s xs) ≤ length xs
on_length K s [] = omega arith
on_length K s (x ∷ xs) = elim (shard_of K x == s) as
    (λ c. length (if c then x ∷ on_shard K s xs else on_shard K s xs) ≤ length (x ∷ xs)) [
      | true ↦ omega (arith, on_length K s xs)
      | false ↦ omega (arith, on_length K s xs)
    ]

on_all : (Q : Digest → Type 0) (K : Shape) (s : ℕ) (xs : List Digest) → AllByRecursion Q xs → AllByRecursion Q (on_shard K s xs)
on_all Q K s [] h = tt
on_all Q K s (x ∷ xs) h = elim (shard_of K x == s) as
    (λ c. AllByRecursion Q (if c then x ∷ on_shard K s xs else on_shard K s xs)) [
      | true ↦ (h.0, on_all Q K s xs h.1)
      | false ↦ on_all Q K s xs h.1
    ]

coin_len : (c : Coin) → length (coin_hash c) ≡ 32
unfolding coin_hash
coin_len c = length-sha256 _

id_len : (mint : List Output) → length (genesis_id mint) ≡ 32
unfolding id_of
id_len mint = length-sha256 _

made_hashes : (id : Digest) (k : ℕ) (os : List Output) → AllByRecursion FitsHash (map coin_hash (made_coins id k os))
made_hashes id k [] = tt
made_hashes id k (o ∷ os) = (coin_len (record { point = record { tx = id; index = k }; output = o }), made_hashes id (suc k) os)

made_length : (id : Digest) (k : ℕ) (os : List Output) → length (map coin_hash (made_coins id k os)) ≡ length os
made_length id k [] = refl
made_length id k (o ∷ os) = omega (arith, made_length id (suc k) os)

-- one more than its size, with the closing gate
pub first_size : (K : Shape) (mint : List Output) (n : ℕ) → IsWithinLimits K → length mint ≤ 1000000 → n < node_count K
    → first_need (first_record_of K mint n) ≡ size_of (first_record_of K mint n) + 1
first_size K mint n limits few inside =
    let h : Header = header_of K (genesis_id mint) n in
    let fits : FitsHeader h = record { node = omega (arith, inside, limits.coordinators, limits.shards); shape = limits; genesis = id_len mint } in
    let hs : List Digest = on_shard K (n - K.coordinators) (genesis_hashes mint) in
    let few_here : length hs ≤ 1000000 = omega (
      arith,
      on_length K (n - K.coordinators) (genesis_hashes mint),
      made_length (genesis_id mint) 0 mint,
      few,
    ) in
    let all_here = on_all FitsHash K (n - K.coordinators) (genesis_hashes mint) (made_hashes (genesis_id mint) 0 mint) in
    elim (nat_lt n K.coordinators) as (λ (b : Bool). first_need (if b then Start h else Genesis h hs)
    ≡ size_of (if b then Start h else Genesis h hs) + 1) [
      | true ↦ omega (arith, body_length (Start h) fits)
      | false ↦ omega (arith, body_length (Genesis h hs) (fits, (few_here, all_here)))
    ]
