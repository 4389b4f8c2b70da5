-- Each transaction of a workload is sound.
use Rattle.std.proofs.Common.{◌≡◌, ◌⊎◌, inl, inr, ◌+◌, ◌-◌, ◌*◌, ◌/◌, ◌≤◌, ℕ, zero, suc, [], ◌∷◌, Some, refl, sym, ap, ◌∙◌, arith}
use Rattle.std.specs.Prelude.{slice_get, sum_by, All}
use Rattle.std.specs.List.{range_with_len}
use Rattle.std.proofs.lemmas.List.Elements.{All-map}
use Rattle.std.proofs.lemmas.List.Sums.{sum_by-cons}
use Rattle.base_types.specs.declared.faults.Refusal.TheVariants.{NoInputs, NoOutputs, WitnessCount, RepeatedInput, ZeroInput, ZeroOutput}
use Rattle.base_types.specs.declared.faults.Refusal.TheVariants.{InputOverflow, OutputOverflow, Unbalanced, BurnedInput, PermitCount, PermitRaised}
use Rattle.base_types.specs.declared.faults.Refusal.TheVariants.{BadWitness, Unverified}
use Rattle.cbdc_types.specs.Kinds.{kind_of}
use Rattle.cbdc_types.specs.declared.tx.Kind.TheVariants.{Burn, Money}
use Rattle.cbdc_model.specs.Money.{permits_of}
use Rattle.cbdc_model.specs.Records.{Digest}
use Rattle.cbdc_model.specs.Coins.{Input, Output, FullTx, tx_id, genesis_id}
use Rattle.sentinel.specs.declared.verifier.Verdict.TheVariants.{Good}
use Rattle.sentinel.specs.FirstRefusal.{IsSoundTx}
use Rattle.workload.specs.Generator.{coin, coin_value, low_half, high_half, program, mint_of, minted_of, joined_of, splits_of, joins_of, split_of}
use Rattle.workload.specs.Generator.{join_of, join_by}
use Rattle.submission_laws.specs.Files.{all_good}
use Rattle.submission_laws.proofs.MoneyAlone.{is_money, no_permit}

one_at : {A : Type 0} (a x : A) (i : ℕ) → slice_get (a ∷ []) i ≡ Some x → (i ≡ 0) × (a ≡ x)
one_at a x zero at = (refl, cc)
one_at a x (suc i) at = absurd (cc)

two_at : {A : Type 0} (a b x : A) (i : ℕ) → slice_get (a ∷ b ∷ []) i ≡ Some x → ((i ≡ 0) × (a ≡ x)) ⊎ ((i ≡ 1) × (b ≡ x))
two_at a b x zero at = inl (refl, cc)
two_at a b x (suc zero) at = inr (refl, cc)
two_at a b x (suc (suc i)) at = absurd (cc)

one_sum : {A : Type 0} (f : A → ℕ) (a : A) → sum_by f (a ∷ []) ≡ f a
one_sum f a = let e = sum_by-cons f a [] in omega (arith, e)

-- money is not burnt
not_burnt : (o p : Output) → kind_of o ≡ Money → o ≡ p → kind_of p ≡ Burn → ⊥
not_burnt o p money same burnt = lie (sym money ∙ ap kind_of same ∙ burnt)
  where
    lie : Money ≡ Burn → ⊥
    lie e = cc

pub two_sum : {A : Type 0} (f : A → ℕ) (a b : A) → sum_by f (a ∷ b ∷ []) ≡ f a + f b
two_sum f a b = let e = sum_by-cons f a (b ∷ []) in let o = one_sum f b in omega (arith, e, o)

module _ (seed n i : ℕ) where
  abbrev spent : Digest → Input
  spent genesis = record { point = record { tx = genesis; index = i }; output = coin seed i }

  abbrev low_input : Digest → Input
  low_input split = record { point = record { tx = split; index = 0 }; output = low_half seed n i }

  abbrev high_input : Digest → Input
  high_input split = record { point = record { tx = split; index = 1 }; output = high_half seed n i }

  abbrev joined : Output
  joined = record { program = program (3 * n + i); value = coin_value seed i }

  low_some : 1 ≤ coin_value seed i / 2
  low_some = omega arith

  high_some : 1 ≤ coin_value seed i - coin_value seed i / 2
  high_some = omega arith

  whole : coin_value seed i / 2 + (coin_value seed i - coin_value seed i / 2) ≡ coin_value seed i
  whole = omega arith

  small : coin_value seed i ≤ 101
  small = omega arith

  low_money : kind_of (low_half seed n i) ≡ Money
  low_money = is_money (n + 2 * i) (coin_value seed i / 2)

  high_money : kind_of (high_half seed n i) ≡ Money
  high_money = is_money (n + 2 * i + 1) (coin_value seed i - coin_value seed i / 2)

  -- no permit is spent, and none is made
  split_takes_none : (genesis : Digest) → sum_by (λ (c : Input). permits_of c.output) (spent genesis ∷ []) ≡ 0
  split_takes_none genesis = one_sum (λ (c : Input). permits_of c.output) (spent genesis) ∙ no_permit (coin seed i) 1 (is_money i (coin_value seed i))

  split_makes_none : sum_by permits_of (low_half seed n i ∷ high_half seed n i ∷ []) ≡ 0
  split_makes_none = omega (
    arith,
    two_sum permits_of (low_half seed n i) (high_half seed n i),
    no_permit (low_half seed n i) 1 low_money,
    no_permit (high_half seed n i) 1 high_money,
  )

  join_takes_none : (split : Digest) → sum_by (λ (c : Input). permits_of c.output) (low_input split ∷ high_input split ∷ []) ≡ 0
  join_takes_none split = omega (
    arith,
    two_sum (λ (c : Input). permits_of c.output) (low_input split) (high_input split),
    no_permit (low_half seed n i) 1 low_money,
    no_permit (high_half seed n i) 1 high_money,
  )

  join_makes_none : sum_by permits_of (joined ∷ []) ≡ 0
  join_makes_none = one_sum permits_of joined ∙ no_permit joined 1 (is_money (3 * n + i) (coin_value seed i))

  split_sound : (genesis : Digest) → IsSoundTx (split_of seed n genesis i) (λ index. Good)
  split_sound genesis NoInputs e = cc
  split_sound genesis NoOutputs e = cc
  split_sound genesis WitnessCount ne = ne refl
  split_sound genesis (RepeatedInput k) least =
      let (x, at, (j, lt, again)) = least.holds in
      let first = one_at (spent genesis) x k at in
      let zero_is = first.0 in
      omega (arith, lt, zero_is)
  split_sound genesis (ZeroInput k) least =
      let (x, at, none) = least.holds in
      let same = ap (λ (y : Input). y.output.value) (one_at (spent genesis) x k at).1 in
      omega (arith, none, same)
  split_sound genesis (ZeroOutput k) least =
      let (x, at, none) = least.holds in
      let low = low_some in
      let high = high_some in
      elim (two_at (low_half seed n i) (high_half seed n i) x k at) [
        | inl first ↦ let same = ap (λ (o : Output). o.value) first.1 in omega (arith, none, same, low)
        | inr second ↦ let same = ap (λ (o : Output). o.value) second.1 in omega (arith, none, same, high)
      ]
  split_sound genesis InputOverflow much = let s = one_sum (λ (x : Input). x.output.value) (spent genesis) in let few = small in
      omega (arith, much, s, few)
  split_sound genesis OutputOverflow much = let s = two_sum (λ (o : Output). o.value) (low_half seed n i) (high_half seed n i) in let few = small in
      let w = whole in omega (arith, much, s, few, w)
  split_sound genesis (Unbalanced ins outs) is =
      let s = one_sum (λ (x : Input). x.output.value) (spent genesis) in
      let o = two_sum (λ (o : Output). o.value) (low_half seed n i) (high_half seed n i) in
      let w = whole in
      let a = is.0 in
      let b = is.1 in
      is.2 (omega (arith, a, b, s, o, w))
  split_sound genesis (BurnedInput k) least =
      let (x, at, burnt) = least.holds in
      not_burnt (coin seed i) x.output (is_money i (coin_value seed i)) (ap (λ (y : Input). y.output) (one_at (spent genesis) x k at).1) burnt
  split_sound genesis (PermitCount ins outs) is = is.2 (inl (is.0 ∙ split_takes_none genesis, is.1 ∙ split_makes_none))
  split_sound genesis (PermitRaised was now) is = let none = split_takes_none genesis in omega (arith, is.0, none)
  split_sound genesis (BadWitness k) least = let bad = least.holds.1 in cc
  split_sound genesis (Unverified k) least = let absent = least.holds.1 in cc

  join_sound : (split : Digest) → IsSoundTx (join_by seed n i split) (λ index. Good)
  join_sound split NoInputs e = cc
  join_sound split NoOutputs e = cc
  join_sound split WitnessCount ne = ne refl
  join_sound split (RepeatedInput k) least =
      let (x, at, (j, lt, (y, there, same))) = least.holds in
      let point = ap (λ p. p.index) same in
      elim (two_at (low_input split) (high_input split) x k at) [
        | inl first ↦ let z = first.0 in omega (arith, lt, z)
        | inr second ↦ elim (two_at (low_input split) (high_input split) y j there) [
          | inl other ↦
              let a = ap (λ (c : Input). c.point.index) second.1 in
              let b = ap (λ (c : Input). c.point.index) other.1 in
              omega (arith, a, b, point)
          | inr other ↦ let z = second.0 in let o = other.0 in omega (arith, lt, z, o)
        ]
      ]
  join_sound split (ZeroInput k) least =
      let (x, at, none) = least.holds in
      let low = low_some in
      let high = high_some in
      elim (two_at (low_input split) (high_input split) x k at) [
        | inl first ↦ let same = ap (λ (c : Input). c.output.value) first.1 in omega (arith, none, same, low)
        | inr second ↦ let same = ap (λ (c : Input). c.output.value) second.1 in omega (arith, none, same, high)
      ]
  join_sound split (ZeroOutput k) least =
      let (x, at, none) = least.holds in
      let same = ap (λ (o : Output). o.value) (one_at joined x k at).1 in
      omega (arith, none, same)
  join_sound split InputOverflow much = let s = two_sum (λ (x : Input). x.output.value) (low_input split) (high_input split) in let few = small in
      let w = whole in omega (arith, much, s, few, w)
  join_sound split OutputOverflow much = let s = one_sum (λ (o : Output). o.value) joined in let few = small in omega (arith, much, s, few)
  join_sound split (Unbalanced ins outs) is =
      let s = two_sum (λ (x : Input). x.output.value) (low_input split) (high_input split) in
      let o = one_sum (λ (o : Output). o.value) joined in
      let w = whole in
      let a = is.0 in
      let b = is.1 in
      is.2 (omega (arith, a, b, s, o, w))
  join_sound split (BurnedInput k) least =
      let (x, at, burnt) = least.holds in
      elim (two_at (low_input split) (high_input split) x k at) [
        | inl first ↦ not_burnt (low_half seed n i) x.output low_money (ap (λ (y : Input). y.output) first.1) burnt
        | inr second ↦ not_burnt (high_half seed n i) x.output high_money (ap (λ (y : Input). y.output) second.1) burnt
      ]
  join_sound split (PermitCount ins outs) is = is.2 (inl (is.0 ∙ join_takes_none split, is.1 ∙ join_makes_none))
  join_sound split (PermitRaised was now) is = let none = join_takes_none split in omega (arith, is.0, none)
  join_sound split (BadWitness k) least = let bad = least.holds.1 in cc
  join_sound split (Unverified k) least = let absent = least.holds.1 in cc

abbrev pub IsGood : FullTx → Type 0
IsGood t = IsSoundTx t (all_good (tx_id t))

pub splits_sound : (seed n : ℕ) → All IsGood (splits_of seed n)
splits_sound seed n = All-map IsGood (split_of seed n (genesis_id (mint_of seed n))) (range_with_len 0 (minted_of n))
    (λ k d lt. split_sound seed n _ (genesis_id (mint_of seed n)))

pub joins_sound : (seed n : ℕ) → All IsGood (joins_of seed n)
joins_sound seed n = All-map IsGood (join_of seed n (genesis_id (mint_of seed n))) (range_with_len 0 (joined_of n)) (λ k d lt. join_sound seed n _ _)
