-- The lanes that are still open once one is resumed.
use Rattle.std.proofs.Common.{◌≡◌, ◌≢◌, ℕ, suc, ◌+◌, ◌<◌, List, [], ◌∷◌, length, get_or, take, drop, length-take, length-drop, refl, arith, ap, ◌∙◌}
use Rattle.std.proofs.Common.{sym, subst, add-one, drop-cons}
use Rattle.std.specs.List.{All}
use Rattle.std.proofs.lemmas.List.Elements.{All-nil, All-cons, All-head, All-tail}
use Rattle.cbdc_types.specs.declared.batch.OpenLane.{OpenLane}
use Rattle.cbdc_model.specs.Records.{Header, Compact}
use Rattle.cbdc_model.specs.Slots.{Phase}
use Rattle.lane_driver.specs.Told.{KeepsOtherLanes}
use Rattle.recovery.specs.Open.{IsLaneOpen, LanesAbove, LanesRise}

pub still_open : (h k : Header) (n : ℕ) (p q : ℕ → Phase) (t u : ℕ → List Compact) (o : OpenLane) → k ≡ h → KeepsOtherLanes h n p q t u
    → n < o.batch.lane → IsLaneOpen h p t o → IsLaneOpen k q u o
still_open h k n p q t u o e keeps lt is =
    let other : o.batch.lane ≢ n = omega arith in
    let same = keeps o.batch.lane is.lane other in
    subst (λ h. IsLaneOpen h q u o) (sym e) (record {
      lane = is.lane;
      batch = is.batch;
      phase_is = same.0 ∙ is.phase_is;
      txs = same.1 ∙ is.txs;
      size = is.size;
      limits = is.limits;
      stamp = is.stamp;
      outcomes = is.outcomes;
    })

all_still_open : (h k : Header) (n : ℕ) (p q : ℕ → Phase) (t u : ℕ → List Compact) (os : List OpenLane) → k ≡ h → KeepsOtherLanes h n p q t u
    → LanesAbove n os → All (IsLaneOpen h p t) os → All (IsLaneOpen k q u) os
all_still_open h k n p q t u [] e keeps above all = All-nil (IsLaneOpen k q u)
all_still_open h k n p q t u (o ∷ os) e keeps above all =
    All-cons (IsLaneOpen k q u) o os (still_open h k n p q t u o e keeps above.0 (All-head (IsLaneOpen h p t) o os all))
    (all_still_open h k n p q t u os e keeps above.1 (All-tail (IsLaneOpen h p t) o os all))

pub split_rest : (os : List OpenLane) (i : ℕ) (o : OpenLane) → i < length os → o ≡ get_or os i o → drop i os ≡ o ∷ drop (i + 1) os
split_rest os i o lt e = rw add-one (drop-cons os i o lt ∙ ap (λ x. x ∷ drop (suc i) os) (sym e))

pub open_here : (h : Header) (p : ℕ → Phase) (t : ℕ → List Compact) (os : List OpenLane) (i : ℕ) (o : OpenLane) → i < length os → o ≡ get_or os i o
    → All (IsLaneOpen h p t) (drop i os) → IsLaneOpen h p t o
open_here h p t os i o lt e all =
    let P : List OpenLane → Type 0 = λ xs. All (IsLaneOpen h p t) xs in
    All-head (IsLaneOpen h p t) o (drop (i + 1) os) (subst P (split_rest os i o lt e) all)

-- where one stands behind another, there are two
pub more_behind : (os : List OpenLane) (i : ℕ) (x : OpenLane) (xs : List OpenLane) → drop (i + 1) os ≡ x ∷ xs → 1 < length os
more_behind os i x xs d = let n : length (drop (i + 1) os) ≡ suc (length xs) = ap length d in omega (arith, n, length-drop (i + 1) os)

pub more_before : (os : List OpenLane) (i : ℕ) (x : OpenLane) (xs : List OpenLane) → i < length os → take i os ≡ x ∷ xs → 1 < length os
more_before os i x xs lt d = let n : length (take i os) ≡ suc (length xs) = ap length d in omega (arith, n, lt, length-take i os)

pub rise_rest : (os : List OpenLane) (i : ℕ) (o : OpenLane) → i < length os → o ≡ get_or os i o → LanesRise (drop i os) → LanesRise (drop (i + 1) os)
rise_rest os i o lt e rise = (subst LanesRise (split_rest os i o lt e) rise).1

pub open_rest : (h k : Header) (p q : ℕ → Phase) (t u : ℕ → List Compact) (os : List OpenLane) (i : ℕ) (o : OpenLane) → i < length os
    → o ≡ get_or os i o
    → LanesRise (drop i os) → All (IsLaneOpen h p t) (drop i os) → k ≡ h → (1 < length os → KeepsOtherLanes h o.batch.lane p q t u)
    → All (IsLaneOpen k q u) (drop (i + 1) os)
open_rest h k p q t u os i o lt e rise all same keeps = rest (drop (i + 1) os) refl
  where
    split : drop i os ≡ o ∷ drop (i + 1) os
    split = split_rest os i o lt e

    here : All (IsLaneOpen h p t) (drop (i + 1) os)
    here = let P : List OpenLane → Type 0 = λ xs. All (IsLaneOpen h p t) xs in All-tail (IsLaneOpen h p t) o (drop (i + 1) os) (subst P split all)

    rest : (xs : List OpenLane) → drop (i + 1) os ≡ xs → All (IsLaneOpen k q u) (drop (i + 1) os)
    rest [] d = let P : List OpenLane → Type 0 = λ ys. All (IsLaneOpen k q u) ys in subst P (sym d) (All-nil (IsLaneOpen k q u))
    rest (x ∷ xs) d = all_still_open h k o.batch.lane p q t u (drop (i + 1) os) same (keeps (more_behind os i x xs d)) (subst LanesRise split rise).0
        here
