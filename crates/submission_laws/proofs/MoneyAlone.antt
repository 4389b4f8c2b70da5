-- All outputs of a workload are money: its transactions issue nothing and redeem nothing.
use Rattle.std.proofs.Common.{◌≡◌, ℕ, ◌+◌, ◌-◌, ◌*◌, ◌/◌, Bool, true, false, List, [], ◌∷◌, map, take, replicate, refl, ap, sym, ◌∙◌, inl, inr, arith}
use Rattle.std.proofs.Common.{sum_by}
use Rattle.std.specs.Prelude.{slice_index, nat_eq, if◌then◌else◌}
use Rattle.std.specs.List.{starts_with, range_with_len}
use Rattle.std.proofs.lemmas.Slice.Eq.{bytes_eq-Decides}
use Rattle.std.proofs.lemmas.List.Sums.{sum_by-cons}
use Rattle.byte_spelling.specs.Spelling.{number}
use Rattle.cbdc_types.specs.Kinds.{kind_of}
use Rattle.cbdc_types.specs.declared.tx.Kind.{Kind}
use Rattle.cbdc_types.specs.declared.tx.Kind.TheVariants.{Permit, Burn, Money}
use Rattle.cbdc_model.specs.Records.{Digest}
use Rattle.cbdc_model.specs.Coins.{Input, Output, FullTx, tx_id}
use Rattle.cbdc_model.specs.Money.{if_money, if_permit, if_burn, money_of, issuable_of, burnt_of, permits_of, sum_out, issued_by, redeemed_by, issued}
use Rattle.cbdc_model.specs.Money.{redeemed}
use Rattle.cbdc_model.specs.Clean.{value_out}
use Rattle.ledger_laws.proofs.Members.{In}
use Rattle.workload.specs.Generator.{program, coin, coin_value, low_half, high_half, mint_of, minted_of, split_of, join_by}

-- a program that a number spells begins with no 16 bytes 254 or 255
not_marked : (byte k : ℕ) → (byte ≡ 0 → ⊥) → starts_with nat_eq (program k) (replicate 16 byte) ≡ false
unfolding number
not_marked byte k some =
    elim (starts_with nat_eq (program k) (replicate 16 byte)) as (λ b. starts_with nat_eq (program k) (replicate 16 byte) ≡ b → b ≡ false) [
      | true ↦ λ e. absurd (some (ap (λ xs. slice_index xs 8) ((bytes_eq-Decides (replicate 16 byte) (take 16 (program k))).0 e)))
      | false ↦ λ e. refl
    ] refl

pub is_money : (k v : ℕ) → kind_of (record { program = program k; value = v }) ≡ Money
unfolding kind_of
is_money k v =
    ap (λ b. if b then Permit else if starts_with nat_eq (program k) (replicate 16 255) then Burn else Money)
    (not_marked 254 k (λ e. omega (arith, e)))
    ∙ ap (λ b. if b then Burn else Money) (not_marked 255 k (λ e. omega (arith, e)))

one_sum : {A : Type 0} (f : A → ℕ) (a : A) → sum_by f (a ∷ []) ≡ f a
one_sum f a = let e = sum_by-cons f a [] in omega (arith, e)

two_sum : {A : Type 0} (f : A → ℕ) (a b : A) → sum_by f (a ∷ b ∷ []) ≡ f a + f b
two_sum f a b = let e = sum_by-cons f a (b ∷ []) in let o = one_sum f b in omega (arith, e, o)

-- what is money is no permit, and not burnt
pub no_permit : (o : Output) (n : ℕ) → kind_of o ≡ Money → if_permit (kind_of o) n ≡ 0
no_permit o n e = ap (λ k. if_permit k n) e

no_burn : (o : Output) → kind_of o ≡ Money → burnt_of o ≡ 0
no_burn o e = ap (λ k. if_burn k o.value) e

-- nothing is issued or redeemed
abbrev pub MovesNone : FullTx → Type 0
MovesNone t = (issued_by t ≡ 0) × (redeemed_by t ≡ 0)

pub split_moves : (seed n i : ℕ) (genesis : Digest) → MovesNone (split_of seed n genesis i)
split_moves seed n i genesis = (
  omega (
    arith,
    one_sum (λ (c : Input). issuable_of c.output) (record { point = record { tx = genesis; index = i }; output = coin seed i }),
    no_permit (coin seed i) (coin_value seed i) (is_money i (coin_value seed i)),
  ),
  omega (
    arith,
    two_sum burnt_of (low_half seed n i) (high_half seed n i),
    no_burn (low_half seed n i) (is_money (n + 2 * i) (coin_value seed i / 2)),
    no_burn (high_half seed n i) (is_money (n + 2 * i + 1) (coin_value seed i - coin_value seed i / 2)),
  ),
)

pub join_moves : (seed n i : ℕ) (split : Digest) → MovesNone (join_by seed n i split)
join_moves seed n i split = (
  omega (
    arith,
    two_sum (λ (c : Input). issuable_of c.output) (record { point = record { tx = split; index = 0 }; output = low_half seed n i })
        (record { point = record { tx = split; index = 1 }; output = high_half seed n i }),
    no_permit (low_half seed n i) (coin_value seed i / 2) (is_money (n + 2 * i) (coin_value seed i / 2)),
    no_permit (high_half seed n i) (coin_value seed i - coin_value seed i / 2) (is_money (n + 2 * i + 1) (coin_value seed i - coin_value seed i / 2)),
  ),
  omega (
    arith,
    one_sum burnt_of (record { program = program (3 * n + i); value = coin_value seed i }),
    no_burn (record { program = program (3 * n + i); value = coin_value seed i }) (is_money (3 * n + i) (coin_value seed i)),
  ),
)

pub none_issued : (ts : List FullTx) → ((t : FullTx) → In t ts → MovesNone t) → issued ts ≡ 0
none_issued [] none = refl
none_issued (t ∷ ts) none = omega (arith, (none t (inl refl)).0, none_issued ts (λ u h. none u (inr h)), sum_by-cons issued_by t ts)

pub none_redeemed : (ts : List FullTx) → ((t : FullTx) → In t ts → MovesNone t) → redeemed ts ≡ 0
none_redeemed [] none = refl
none_redeemed (t ∷ ts) none = omega (arith, (none t (inl refl)).1, none_redeemed ts (λ u h. none u (inr h)), sum_by-cons redeemed_by t ts)

-- the mint's money is its value
coins_money : (seed : ℕ) (is : List ℕ) → sum_out money_of (map (coin seed) is) ≡ value_out (map (coin seed) is)
coins_money seed [] = refl
coins_money seed (i ∷ is) = omega (
  arith,
  ap (λ k. if_money k (coin_value seed i)) (is_money i (coin_value seed i)),
  coins_money seed is,
  sum_by-cons money_of (coin seed i) (map (coin seed) is),
  sum_by-cons (λ o. o.value) (coin seed i) (map (coin seed) is),
)

pub mint_money : (seed n : ℕ) → sum_out money_of (mint_of seed n) ≡ value_out (mint_of seed n)
mint_money seed n = coins_money seed (range_with_len 0 (minted_of n))
