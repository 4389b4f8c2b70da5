-- What each part of the test decides.
use Rattle.std.proofs.Common.{◌≡◌, ℕ, zero, suc, ◌<◌, ◌≤◌, Bool, ◌&&◌, not, ◌==◌, nat_lt, List, [], ◌∷◌, length, Some, None, refl, sym, ap, ◌∙◌}
use Rattle.std.proofs.Common.{subst, arith, inl, inr}
use Rattle.std.specs.Prelude.{bytes_eq, Decides}
use Rattle.std.specs.List.{list_all}
use Rattle.std.proofs.lemmas.Bool.{cases_lt}
use Rattle.std.proofs.lemmas.Bool.Decides.{Decides-eqb, Decides-ltb, Decides-like, Decides-not, Decides-and, Decides-below_and}
use Rattle.std.proofs.lemmas.Slice.Eq.{bytes_eq-Decides}
use Rattle.cbdc_types.specs.declared.tx.OutPoint.{OutPoint}
use Rattle.cbdc_types.specs.declared.tx.Input.{Input}
use Rattle.cbdc_types.specs.declared.tx.Kind.{Kind}
use Rattle.cbdc_types.specs.declared.tx.Kind.TheVariants.{Permit, Burn, Money}
use Rattle.cbdc_model.specs.Money.{ArePaired}
use Rattle.sentinel.specs.declared.verifier.Verdict.{Verdict}
use Rattle.sentinel.specs.declared.verifier.Verdict.TheVariants.{Good, Bad, Absent}
use Rattle.sentinel.specs.FirstRefusal.{Verdicts, HasAt, HasVerdict, IsLeast, Repeats}
use Rattle.submissions.specs.SoundTest.{same_point, are_distinct, each_below, is_burn, are_paired, is_bad, is_absent}

some_same : {X : Type 0} → (x y : X) → Some x ≡ Some y → y ≡ x
some_same x y e = cc

none_some : {X : Type 0} → (x : X) → None ≡ Some x → ⊥
none_some x e = cc

-- what has no least place has none
none_under : (P : ℕ → Type 0) → ((i : ℕ) → ¬ (IsLeast P i)) → (n k : ℕ) → k < n → ¬ (P k)
none_under P none zero k lt = absurd (omega arith)
none_under P none (suc n) k lt = elim (cases_lt k n) [
  | inl earlier ↦ none_under P none n k earlier
  | inr later ↦ λ p. let here : k ≡ n = omega arith in none n (record { holds = subst P here p; none_before = none_under P none n })
]

pub no_place : (P : ℕ → Type 0) → ((i : ℕ) → ¬ (IsLeast P i)) → (i : ℕ) → ¬ (P i)
no_place P none i = none_under P none (suc i) i (omega arith)

-- that each item passes says that none has the property
module _ {X : Type 0} (Q : X → Type 0) (test : X → Bool) (each : (x : X) → Decides (test x) (¬ (Q x))) where
  pub none_has : (xs : List X) → Decides (list_all test xs) ((i : ℕ) → ¬ (HasAt Q xs i))
  none_has [] = (λ pass i has. none_some has.0 has.1, λ none. refl)
  none_has (x ∷ xs) = Decides-like (test x && list_all test xs) behind ahead (Decides-and (test x) (list_all test xs) (each x) (none_has xs))
    where
      behind : (¬ (Q x)) × ((i : ℕ) → ¬ (HasAt Q xs i)) → (i : ℕ) → ¬ (HasAt Q (x ∷ xs) i)
      behind none zero has = none.0 (subst Q (some_same x has.0 has.1) has.2)
      behind none (suc i) has = none.1 i has

      ahead : ((i : ℕ) → ¬ (HasAt Q (x ∷ xs) i)) → (¬ (Q x)) × ((i : ℕ) → ¬ (HasAt Q xs i))
      ahead none = (λ q. none zero (x, refl, q), λ i has. none (suc i) has)

pub points_decide : (p q : OutPoint) → Decides (same_point p q) (p ≡ q)
points_decide p q = Decides-like (same_point p q) whole parts
    (Decides-and (bytes_eq p.tx q.tx) (p.index == q.index) (bytes_eq-Decides p.tx q.tx) (Decides-eqb p.index q.index))
  where
    whole : (p.tx ≡ q.tx) × (p.index ≡ q.index) → p ≡ q
    whole e = λ i. record { tx = e.0 i; index = e.1 i }

    parts : p ≡ q → (p.tx ≡ q.tx) × (p.index ≡ q.index)
    parts e = (ap (λ o. o.tx) e, ap (λ o. o.index) e)

pub no_repeats : (xs : List Input) → Decides (are_distinct xs) ((i : ℕ) → ¬ (Repeats xs i))
no_repeats [] = (λ pass i has. none_some has.0 has.1, λ none. refl)
no_repeats (x ∷ xs) = Decides-like (new && are_distinct xs) behind ahead
    (Decides-and new (are_distinct xs) (none_has Has test (λ y. Decides-not (same_point x.point y.point) (points_decide x.point y.point)) xs)
    (no_repeats xs))
  where
    Has : Input → Type 0
    Has y = x.point ≡ y.point

    test : Input → Bool
    test y = not (same_point x.point y.point)

    new : Bool
    new = list_all test xs

    behind : ((i : ℕ) → ¬ (HasAt Has xs i)) × ((i : ℕ) → ¬ (Repeats xs i)) → (i : ℕ) → ¬ (Repeats (x ∷ xs) i)
    behind none zero (y, at, (k, lt, has)) = omega arith
    behind none (suc i) (y, at, (zero, lt, (z, there, same))) = none.0 i (y, at, ap (λ w. w.point) (sym (some_same x z there)) ∙ same)
    behind none (suc i) (y, at, (suc k, lt, has)) = none.1 i (y, at, (k, omega arith, has))

    ahead : ((i : ℕ) → ¬ (Repeats (x ∷ xs) i)) → ((i : ℕ) → ¬ (HasAt Has xs i)) × ((i : ℕ) → ¬ (Repeats xs i))
    ahead none = (
      λ i (y, at, same). none (suc i) (y, at, (zero, omega arith, (x, refl, same))),
      λ i (y, at, (k, lt, has)). none (suc i) (y, at, (suc k, omega arith, has)),
    )

pub positive_decides : (n : ℕ) → Decides (nat_lt 0 n) (¬ (n ≡ 0))
positive_decides n = Decides-like (nat_lt 0 n) (λ lt e. omega arith) (λ ne. omega arith) (Decides-ltb 0 n)

pub items_decide : {X : Type 0} → (xs : List X) → Decides (nat_lt 0 (length xs)) (¬ (xs ≡ []))
items_decide [] = (λ pass. absurd cc, λ some. absurd (some refl))
items_decide (x ∷ xs) = Decides-like (nat_lt 0 (length (x ∷ xs))) (λ lt e. let none : length (x ∷ xs) ≡ 0 = ap length e in omega arith)
    (λ some. omega arith) (Decides-ltb 0 (length (x ∷ xs)))

pub not_bad_decides : (v : Verdict) → Decides (not (is_bad v)) (¬ (v ≡ Bad))
not_bad_decides v = Decides-not (is_bad v) (bad v)
  where
    bad : (v : Verdict) → Decides (is_bad v) (v ≡ Bad)
    bad Good = (λ e. cc, λ e. cc)
    bad Bad = (λ e. refl, λ e. refl)
    bad Absent = (λ e. cc, λ e. cc)

pub not_absent_decides : (v : Verdict) → Decides (not (is_absent v)) (¬ (v ≡ Absent))
not_absent_decides v = Decides-not (is_absent v) (absent v)
  where
    absent : (v : Verdict) → Decides (is_absent v) (v ≡ Absent)
    absent Good = (λ e. cc, λ e. cc)
    absent Bad = (λ e. cc, λ e. cc)
    absent Absent = (λ e. refl, λ e. refl)

-- no input has the verdict
pub no_verdict : (wanted : Verdict) (test : Verdict → Bool) (each : (v : Verdict) → Decides (test v) (¬ (v ≡ wanted))) (inputs : List Input)
    (verdicts : Verdicts)
    → Decides (each_below (λ i. test (verdicts i)) (length inputs)) ((i : ℕ) → ¬ (HasVerdict wanted inputs verdicts i))
no_verdict wanted test each inputs verdicts =
    Decides-like (each_below (λ i. test (verdicts i)) (length inputs)) (λ none i (lt, is). none i lt is) (λ none i lt is. none i (lt, is))
    (Decides-below_and (λ i. test (verdicts i)) (λ i. ¬ (verdicts i ≡ wanted)) (each_below (λ i. test (verdicts i))) (λ i. each (verdicts i)) refl
    (λ n. refl) (length inputs))

-- no input claims a burn output
pub not_burn_decides : (k : Kind) → Decides (not (is_burn k)) (¬ (k ≡ Burn))
not_burn_decides k = Decides-not (is_burn k) (burn k)
  where
    burn : (k : Kind) → Decides (is_burn k) (k ≡ Burn)
    burn Permit = (λ e. cc, λ e. cc)
    burn Burn = (λ e. refl, λ e. refl)
    burn Money = (λ e. cc, λ e. cc)

-- none and none, or one and one
pub paired_decides : (ins outs : ℕ) → Decides (are_paired ins outs) (ArePaired ins outs)
paired_decides ins outs = Decides-like (are_paired ins outs) whole parts
    (Decides-and (ins == outs) (nat_lt ins 2) (Decides-eqb ins outs) (Decides-ltb ins 2))
  where
    whole : (ins ≡ outs) × (ins < 2) → ArePaired ins outs
    whole h = grind (arith, h.0, h.1)

    parts : ArePaired ins outs → (ins ≡ outs) × (ins < 2)
    parts (inl h) = (omega (arith, h.0, h.1), omega (arith, h.0))
    parts (inr h) = (omega (arith, h.0, h.1), omega (arith, h.0))

pub not_less_decides : (a b : ℕ) → Decides (not (nat_lt a b)) (b ≤ a)
not_less_decides a b = Decides-like (not (nat_lt a b)) (λ none. elim (cases_lt a b) [ inl lt ↦ absurd (none lt) | inr le ↦ le ])
    (λ le lt. omega (arith, le, lt)) (Decides-not (nat_lt a b) (Decides-ltb a b))
