-- A sound transaction is proper, and a proper one is refused for a verdict alone.
use Rattle.std.proofs.Common.{◌≡◌, ◌⊎◌, inl, inr, ℕ, suc, zero, ◌<◌, ◌≤◌, ◌^◌, true, false, List, [], ◌∷◌, map, length, slice_get, Some, None}
use Rattle.std.proofs.Common.{bytes_eq, refl, sym, ap, ◌∙◌, subst, arith, lit<}
use Rattle.std.specs.Prelude.{◌≢◌}
use Rattle.std.specs.List.{IsDistinct, AllByRecursion}
use Rattle.std.proofs.lemmas.Bool.{cases_lt}
use Rattle.std.proofs.lemmas.Slice.Eq.{bytes_eq-Decides}
use Rattle.std.proofs.lemmas.Map.Keys.{IsDistinct-cons}
use Rattle.std.proofs.lemmas.List.Elements.{All-from_recursion, recursion_from_All}
use Rattle.cbdc_model.specs.Coins.{Input, OutPoint, FullTx}
use Rattle.cbdc_model.specs.Book.{key}
use Rattle.cbdc_types.specs.Kinds.{kind_of}
use Rattle.cbdc_types.specs.declared.tx.Kind.TheVariants.{Burn}
use Rattle.cbdc_model.specs.Clean.{IsProper}
use Rattle.cbdc_model.specs.Money.{ArePaired}
use Rattle.sentinel.specs.FirstRefusal.{Verdicts, Applies, rank, HasAt, IsLeast, Repeats, input_sum, output_sum, permits_in, permits_out, issuable_in}
use Rattle.sentinel.specs.FirstRefusal.{issuable_out}
use Rattle.sentinel.proofs.PermitSums.{among_none, paired_or_not}
use Rattle.base_types.specs.declared.faults.Refusal.{Refusal}
use Rattle.base_types.specs.declared.faults.Refusal.TheVariants.{NoInputs, NoOutputs, WitnessCount, RepeatedInput, ZeroInput, ZeroOutput}
use Rattle.base_types.specs.declared.faults.Refusal.TheVariants.{InputOverflow, OutputOverflow, Unbalanced, BurnedInput, PermitCount, PermitRaised}
use Rattle.base_types.specs.declared.faults.Refusal.TheVariants.{BadWitness, Unverified}
use Rattle.run_laws.specs.Runs.{SoundLaw, ProperLaw}

-- where there is no least place, there is none
none_up_to : (P : ℕ → Type 0) → ((i : ℕ) → IsLeast P i → ⊥) → (n i : ℕ) → i < n → P i → ⊥
none_up_to P none zero i lt p = omega (arith, lt)
none_up_to P none (suc n) i lt p = none i (record { holds = p; none_before = λ k below q. none_up_to P none n k (omega (arith, lt, below)) q })

none_at : (P : ℕ → Type 0) → ((i : ℕ) → IsLeast P i → ⊥) → (i : ℕ) → P i → ⊥
none_at P none i p = none_up_to P none (suc i) i (omega arith) p

-- no value is 0
no_zeros : {A : Type 0} (value : A → ℕ) (xs : List A) → ((i : ℕ) → HasAt (λ x. value x ≡ 0) xs i → ⊥) → AllByRecursion (λ x. 1 ≤ value x) xs
no_zeros value [] none = tt
no_zeros value (x ∷ xs) none = (positive (value x) (λ e. none 0 (x, refl, e)), no_zeros value xs (λ i h. none (suc i) (h.0, h.1, h.2)))
  where
    positive : (n : ℕ) → (n ≡ 0 → ⊥) → 1 ≤ n
    positive n h = grind (arith, h)

same_point : (p q : OutPoint) → key p ≡ key q → p ≡ q
same_point p q e =
    let i : p.index ≡ q.index = cc in
    let t : p.tx ≡ q.tx = cc in
    λ k. record { tx = t k; index = i k }

apart : (p q : OutPoint) → (p ≡ q → ⊥) → bytes_eq (key p) (key q) ≡ false
apart p q h = elim (bytes_eq (key p) (key q)) as (λ t. bytes_eq (key p) (key q) ≡ t → t ≡ false) [
  | true ↦ λ e. absurd (h (same_point p q ((bytes_eq-Decides (key p) (key q)).0 e)))
  | false ↦ λ e. refl
] refl

-- no other input names the outpoint of one
away : (x : Input) (rest : List Input) → ((j : ℕ) (y : Input) → slice_get rest j ≡ Some y → y.point ≡ x.point → ⊥)
    → AllByRecursion (λ k. bytes_eq (key x.point) k ≡ false) (map (λ c. key c.point) rest)
away x [] none = tt
away x (y ∷ rest) none = (apart x.point y.point (λ e. none 0 y refl (sym e)), away x rest (λ j z at e. none (suc j) z at e))

no_points : IsDistinct (λ (p q : List ℕ). bytes_eq p q) []
unfolding IsDistinct
no_points = tt

distinct : (inputs : List Input) → ((i : ℕ) → Repeats inputs i → ⊥) → IsDistinct (λ p q. bytes_eq p q) (map (λ c. key c.point) inputs)
distinct [] none = no_points
distinct (x ∷ rest) none =
    IsDistinct-cons (λ p q. bytes_eq p q) (key x.point) (map (λ c. key c.point) rest)
    (away x rest (λ j y at e. none (suc j) (y, at, (0, omega arith, (x, refl, sym e)))))
    (distinct rest (λ i h. none (suc i) (later i h)))
  where
    later : (i : ℕ) → Repeats rest i → Repeats (x ∷ rest) (suc i)
    later i h = (h.0, h.1, (suc h.2.0, omega (arith, h.2.1), h.2.2))

-- what is never refused has an item, and sums that fit
some_of : {A : Type 0} (xs : List A) → (xs ≡ [] → ⊥) → 0 < length xs
some_of [] none = absurd (none refl)
some_of (x ∷ xs) none = omega arith

same_of : (m n : ℕ) → ((m ≡ n → ⊥) → ⊥) → m ≡ n
same_of m n h = elim (m_or m n) [ inl e ↦ e | inr e ↦ absurd (h e) ]
  where
    m_or : (m n : ℕ) → (m ≡ n) ⊎ (m ≡ n → ⊥)
    m_or m n = grind arith

below_of : (n limit : ℕ) → (limit ≤ n → ⊥) → n < limit
below_of n limit h = elim (or n limit) [ inl lt ↦ lt | inr le ↦ absurd (h le) ]
  where
    or : (n limit : ℕ) → (n < limit) ⊎ (limit ≤ n)
    or n limit = grind arith

-- no item has what is at no place
none_of : {A : Type 0} (Q : A → Type 0) (xs : List A) → ((i : ℕ) → HasAt Q xs i → ⊥) → AllByRecursion (λ x. ¬ (Q x)) xs
none_of Q [] none = tt
none_of Q (x ∷ xs) none = (λ h. none 0 (x, refl, h), none_of Q xs (λ i h. none (suc i) (h.0, h.1, h.2)))

-- permits are none and none, or one and one
paired_of : (t : FullTx) (verdicts : Verdicts) → ((r : Refusal) → rank r < 12 → ¬ (Applies t verdicts r)) → ArePaired (permits_in t) (permits_out t)
paired_of t verdicts none = elim (paired_or_not (permits_in t) (permits_out t)) [
  | inl paired ↦ paired
  | inr other ↦ absurd (none (PermitCount (permits_in t) (permits_out t)) (lit< tt) (refl, refl, other))
]

-- the one that is made has no greater value
not_raised_of : (t : FullTx) → ArePaired (permits_in t) (permits_out t)
    → (permits_in t ≡ 1 → permits_out t ≡ 1 → issuable_in t < issuable_out t → ⊥) → issuable_out t ≤ issuable_in t
not_raised_of t (inl none) raised = omega (arith, among_none t.outputs none.1)
not_raised_of t (inr one) raised = elim (cases_lt (issuable_in t) (issuable_out t)) [
  | inl lt ↦ absurd (raised one.0 one.1 lt)
  | inr le ↦ le
]

-- what is refused for no reason that asks no verdict is proper
proper_of : (t : FullTx) (verdicts : Verdicts) → ((r : Refusal) → rank r < 12 → ¬ (Applies t verdicts r)) → IsProper t
proper_of t verdicts none = record {
  has_input = some_of t.inputs (none NoInputs (lit< tt));
  has_output = some_of t.outputs (none NoOutputs (lit< tt));
  witnesses = same_of (length t.witnesses) (length t.inputs) (none WitnessCount (lit< tt));
  no_repeat = distinct t.inputs (none_at (Repeats t.inputs) (λ i. none (RepeatedInput i) (lit< tt)));
  no_zero_input = All-from_recursion (λ c. 1 ≤ c.output.value) t.inputs
      (no_zeros (λ c. c.output.value) t.inputs (none_at (HasAt (λ x. x.output.value ≡ 0) t.inputs) (λ i. none (ZeroInput i) (lit< tt))));
  no_zero_output = All-from_recursion (λ o. 1 ≤ o.value) t.outputs
      (no_zeros (λ o. o.value) t.outputs (none_at (HasAt (λ o. o.value ≡ 0) t.outputs) (λ i. none (ZeroOutput i) (lit< tt))));
  inputs_fit = below_of _ (2 ^ 64) (none InputOverflow (lit< tt));
  outputs_fit = below_of _ (2 ^ 64) (none OutputOverflow (lit< tt));
  keeps_money = record {
    balanced = same_of _ _ (λ h. none (Unbalanced _ _) (lit< tt) (refl, refl, h));
    none_burnt = All-from_recursion (λ c. kind_of c.output ≢ Burn) t.inputs
        (none_of (λ (c : Input). kind_of c.output ≡ Burn) t.inputs
        (none_at (HasAt (λ x. kind_of x.output ≡ Burn) t.inputs) (λ i. none (BurnedInput i) (lit< tt))));
    permits = paired_of t verdicts none;
    not_raised = not_raised_of t (paired_of t verdicts none) (λ ins outs lt. none (PermitRaised _ _) (lit< tt) (ins, outs, refl, refl, lt));
  };
}

pub sound_law : SoundLaw
sound_law t verdicts sound = proper_of t verdicts (λ r below. sound r)

-- what holds of all items holds of the one at a place
no_item : {A : Type 0} (x : A) → None ≡ Some x → ⊥
no_item x h = cc

same_item : {A : Type 0} (x y : A) → Some x ≡ Some y → x ≡ y
same_item x y h = cc

all_at : {A : Type 0} (P : A → Type 0) (xs : List A) (i : ℕ) (x : A) → AllByRecursion P xs → slice_get xs i ≡ Some x → P x
all_at P [] i x all at = absurd (no_item x at)
all_at P (y ∷ xs) zero x all at = subst P (same_item y x at) all.0
all_at P (y ∷ xs) (suc i) x all at = all_at P xs i x all.1 at

-- a value that is not 0 is not 0 at a place
zero_not : {A : Type 0} (value : A → ℕ) (xs : List A) (i : ℕ) → AllByRecursion (λ x. 1 ≤ value x) xs → HasAt (λ x. value x ≡ 0) xs i → ⊥
zero_not value xs i all h = positive (value h.0) (all_at (λ x. 1 ≤ value x) xs i h.0 all h.1) h.2
  where
    positive : (n : ℕ) → 1 ≤ n → n ≡ 0 → ⊥
    positive n le e = omega (arith, le, e)

-- what no item has is at no place
none_there : {A : Type 0} (Q : A → Type 0) (xs : List A) (i : ℕ) → AllByRecursion (λ x. ¬ (Q x)) xs → HasAt Q xs i → ⊥
none_there Q xs i all h = all_at (λ x. ¬ (Q x)) xs i h.0 all h.1 h.2

-- keys of which no two are one: the first is none of the others
key_apart : (k : List ℕ) (ks : List (List ℕ)) → IsDistinct (λ p q. bytes_eq p q) (k ∷ ks) → AllByRecursion (λ q. bytes_eq k q ≡ false) ks
unfolding IsDistinct
key_apart k ks d = d.0

keys_apart : (k : List ℕ) (ks : List (List ℕ)) → IsDistinct (λ p q. bytes_eq p q) (k ∷ ks) → IsDistinct (λ p q. bytes_eq p q) ks
unfolding IsDistinct
keys_apart k ks d = d.1

key_at : (k : List ℕ) (xs : List Input) (i : ℕ) (x : Input) → AllByRecursion (λ q. bytes_eq k q ≡ false) (map (λ c. key c.point) xs)
    → slice_get xs i ≡ Some x → bytes_eq k (key x.point) ≡ false
key_at k [] i x all at = absurd (no_item x at)
key_at k (y ∷ xs) zero x all at = subst (λ z. bytes_eq k (key z.point) ≡ false) (same_item y x at) all.0
key_at k (y ∷ xs) (suc i) x all at = key_at k xs i x all.1 at

-- an outpoint is itself
itself : (p q : OutPoint) → p ≡ q → bytes_eq (key p) (key q) ≡ false → ⊥
itself p q e h = lie (sym ((bytes_eq-Decides (key p) (key q)).1 (ap key e)) ∙ h)
  where
    lie : true ≡ false → ⊥
    lie s = cc

-- where no two inputs name one outpoint none stands earlier
not_twice : (xs : List Input) (i k : ℕ) (x y : Input) → IsDistinct (λ p q. bytes_eq p q) (map (λ c. key c.point) xs) → slice_get xs i ≡ Some x
    → slice_get xs k ≡ Some y
    → k < i → y.point ≡ x.point → ⊥
not_twice [] i k x y d here earlier lt e = no_item x here
not_twice (z ∷ xs) zero k x y d here earlier lt e = omega (arith, lt)
not_twice (z ∷ xs) (suc i) zero x y d here earlier lt e =
    itself z.point x.point (ap (λ (c : Input). c.point) (same_item z y earlier) ∙ e)
    (key_at (key z.point) xs i x (key_apart (key z.point) (map (λ c. key c.point) xs) d) here)
not_twice (z ∷ xs) (suc i) (suc k) x y d here earlier lt e =
    not_twice xs i k x y (keys_apart (key z.point) (map (λ c. key c.point) xs) d) here earlier (omega (arith, lt)) e

repeats_not : (xs : List Input) (i : ℕ) → IsDistinct (λ p q. bytes_eq p q) (map (λ c. key c.point) xs) → Repeats xs i → ⊥
repeats_not xs i d h = not_twice xs i h.2.0 h.0 h.2.2.0 d h.1 h.2.2.1 h.2.1 h.2.2.2

some_not : {A : Type 0} (xs : List A) → 0 < length xs → xs ≡ [] → ⊥
some_not [] some e = omega (arith, some)
some_not (x ∷ xs) some e = cc

past_not : (n limit : ℕ) → n < limit → limit ≤ n → ⊥
past_not n limit below past = omega (arith, below, past)

-- a proper transaction is refused for no reason that asks no verdict
refused_not : (t : FullTx) (verdicts : Verdicts) → IsProper t → (r : Refusal) → rank r < 12 → ¬ (Applies t verdicts r)
refused_not t verdicts p NoInputs below = some_not t.inputs p.has_input
refused_not t verdicts p NoOutputs below = some_not t.outputs p.has_output
refused_not t verdicts p WitnessCount below = λ other. other p.witnesses
refused_not t verdicts p (RepeatedInput i) below = λ least. repeats_not t.inputs i p.no_repeat least.holds
refused_not t verdicts p (ZeroInput i) below = λ least.
    zero_not (λ c. c.output.value) t.inputs i (recursion_from_All (λ c. 1 ≤ c.output.value) t.inputs p.no_zero_input) least.holds
refused_not t verdicts p (ZeroOutput i) below = λ least.
    zero_not (λ o. o.value) t.outputs i (recursion_from_All (λ o. 1 ≤ o.value) t.outputs p.no_zero_output) least.holds
refused_not t verdicts p InputOverflow below = past_not (input_sum t) (2 ^ 64) p.inputs_fit
refused_not t verdicts p OutputOverflow below = past_not (output_sum t) (2 ^ 64) p.outputs_fit
refused_not t verdicts p (Unbalanced ins outs) below = λ h. h.2 (h.0 ∙ p.keeps_money.balanced ∙ sym h.1)
refused_not t verdicts p (BurnedInput i) below = λ least.
    none_there (λ (c : Input). kind_of c.output ≡ Burn) t.inputs i
    (recursion_from_All (λ c. kind_of c.output ≢ Burn) t.inputs p.keeps_money.none_burnt) least.holds
refused_not t verdicts p (PermitCount ins outs) below = λ h.
    h.2 (subst (λ m. ArePaired m outs) (sym h.0) (subst (λ m. ArePaired (permits_in t) m) (sym h.1) p.keeps_money.permits))
refused_not t verdicts p (PermitRaised was now) below = λ h. omega (arith, p.keeps_money.not_raised, h.2, h.3, h.4)
refused_not t verdicts p (BadWitness i) below = absurd (omega (arith, below))
refused_not t verdicts p (Unverified i) below = absurd (omega (arith, below))

pub proper_law : ProperLaw
proper_law t verdicts = (refused_not t verdicts, proper_of t verdicts)
