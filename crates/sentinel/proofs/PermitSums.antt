-- The permits of lists: what they come to, and whether they are paired.
use Rattle.std.proofs.Common.{◌≡◌, ◌⊎◌, inl, inr, ℕ, zero, suc, ◌+◌, ◌<◌, ◌≤◌, List, [], ◌∷◌, refl, sym, arith, sum_by}
use Rattle.std.proofs.lemmas.List.Sums.{sum_by-cons}
use Rattle.cbdc_types.specs.Kinds.{kind_of}
use Rattle.cbdc_types.specs.declared.tx.Kind.{Kind}
use Rattle.cbdc_types.specs.declared.tx.Kind.TheVariants.{Permit, Burn, Money}
use Rattle.cbdc_model.specs.Coins.{Input, Output, FullTx}
use Rattle.cbdc_model.specs.Money.{if_permit, permits_of, issuable_of, sum_in, sum_out, ArePaired}
use Rattle.sentinel.specs.FirstRefusal.{permits_in, permits_out, issuable_in, issuable_out}

-- a permit's value is a part of all values
part_of : (k : Kind) (n : ℕ) → if_permit k n ≤ n
part_of Permit n = omega arith
part_of Burn n = omega arith
part_of Money n = omega arith

sum_below : {A : Type 0} (out : A → Output) (xs : List A) → sum_by (λ x. issuable_of (out x)) xs ≤ sum_by (λ x. (out x).value) xs
sum_below out [] = omega arith
sum_below out (x ∷ xs) =
    omega (
      arith,
      part_of (kind_of (out x)) (out x).value,
      sum_below out xs,
      sum_by-cons (λ x. (out x).value) x xs,
      sum_by-cons (λ x. issuable_of (out x)) x xs,
    )

pub claimed_below : (inputs : List Input) → sum_in issuable_of inputs ≤ sum_by (λ x. x.output.value) inputs
claimed_below inputs = sum_below (λ (x : Input). x.output) inputs

pub among_below : (outputs : List Output) → sum_out issuable_of outputs ≤ sum_by (λ o. o.value) outputs
among_below outputs = sum_below (λ (o : Output). o) outputs

-- where there is no permit, none is worth anything
worthless : (k : Kind) (n : ℕ) → if_permit k 1 ≡ 0 → if_permit k n ≡ 0
worthless Permit n none = absurd (omega (arith, none))
worthless Burn n none = refl
worthless Money n none = refl

none_worth : {A : Type 0} (out : A → Output) (xs : List A) → sum_by (λ x. permits_of (out x)) xs ≡ 0 → sum_by (λ x. issuable_of (out x)) xs ≡ 0
none_worth out [] none = refl
none_worth out (x ∷ xs) none =
    let all = sum_by-cons (λ x. permits_of (out x)) x xs in
    let first : permits_of (out x) ≡ 0 = omega (arith, all, none) in
    let rest : sum_by (λ x. permits_of (out x)) xs ≡ 0 = omega (arith, all, none) in
    omega (arith, worthless (kind_of (out x)) (out x).value first, none_worth out xs rest, sum_by-cons (λ x. issuable_of (out x)) x xs)

pub among_none : (outputs : List Output) → sum_out permits_of outputs ≡ 0 → sum_out issuable_of outputs ≡ 0
among_none outputs none = none_worth (λ (o : Output). o) outputs none

pub paired_or_not : (ins outs : ℕ) → ArePaired ins outs ⊎ (ArePaired ins outs → ⊥)
paired_or_not ins outs = grind arith

pub pair_of : (ins outs : ℕ) → ins ≡ outs → ins ≤ 1 → ArePaired ins outs
pair_of zero outs e le = inl (refl, sym e)
pair_of (suc zero) outs e le = inr (refl, sym e)
pair_of (suc (suc n)) outs e le = absurd (omega (arith, le))

-- where permits are paired and more is made than was spent, there is one of each
pub one_each : (t : FullTx) → ArePaired (permits_in t) (permits_out t) → issuable_in t < issuable_out t → (permits_in t ≡ 1) × (permits_out t ≡ 1)
one_each t (inl none) lt = absurd (omega (arith, lt, among_none t.outputs none.1))
one_each t (inr one) lt = one
