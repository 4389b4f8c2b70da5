-- What was found of lanes, and their plans, taken from the end as the lanes are taken up.
use Rattle.std.proofs.Common.{◌≡◌, ℕ, suc, ◌+◌, ◌<◌, ◌≤◌, List, [], ◌∷◌, ◌++◌, length, get_or, take, drop, reverse, Option, None, inl, inr, arith}
use Rattle.std.proofs.Common.{sym, ap, ◌∙◌, subst, add-one, drop-cons}
use Rattle.std.specs.List.{AllZip}
use Rattle.std.proofs.lemmas.Bool.{cases_lt}
use Rattle.std.proofs.lemmas.List.{reverse-append, take_more, get_or_default, get_or_append_left, get_or_push}
use Rattle.std.proofs.lemmas.Slice.Zip.{all_zipped_more}
use Rattle.cbdc_types.specs.declared.batch.OpenLane.{OpenLane}
use Rattle.cbdc_model.specs.Records.{Shape, Record}
use Rattle.ledger_runs.specs.Turning.{IsLaneOf, KeepsLanes}
use Rattle.ledger_runs.specs.Planning.{IsFound, KeepsOpens}

-- ---- a value for each of a list, taken from the end

module _ {A B : Type 0} (Fits : A → B → Type 0) (os : List A) (i : ℕ) (o : A) (lt : i < length os) (is : o ≡ get_or os i o) where
  split_rest : drop i os ≡ o ∷ drop (i + 1) os
  split_rest = rw add-one (drop-cons os i o lt ∙ ap (λ x. x ∷ drop (suc i) os) (sym is))

  last_two : (bs less : List B) (b : B) → bs ≡ less ++ b ∷ [] → AllZip Fits (drop i os) (reverse bs)
      → AllZip Fits (o ∷ drop (i + 1) os) (b ∷ reverse less)
  last_two bs less b e each =
      subst (λ xs. AllZip Fits xs (b ∷ reverse less)) split_rest
      (subst (λ rs. AllZip Fits (drop i os) rs) (ap reverse e ∙ reverse-append less (b ∷ [])) each)

  last_here : (bs less : List B) (b : B) → bs ≡ less ++ b ∷ [] → AllZip Fits (drop i os) (reverse bs) → Fits o b
  last_here bs less b e each = (last_two bs less b e each).0

  all_less : (bs less : List B) (b : B) → bs ≡ less ++ b ∷ [] → AllZip Fits (drop i os) (reverse bs) → AllZip Fits (drop (i + 1) os) (reverse less)
  all_less bs less b e each = (last_two bs less b e each).1

  one_left : (bs : List B) → bs ≡ [] → AllZip Fits (drop i os) (reverse bs) → ⊥
  one_left bs none each = subst (λ xs. AllZip Fits xs []) split_rest (subst (λ rs. AllZip Fits (drop i os) (reverse rs)) none each)

  pub one_more : (bs : List B) (b : B) → AllZip Fits (take i os) bs → Fits o b → AllZip Fits (take (i + 1) os) (bs ++ b ∷ [])
  one_more bs b so here =
      subst (λ xs. AllZip Fits xs (bs ++ b ∷ [])) (sym (take_more os i o lt))
      (all_zipped_more Fits (take i os) bs (get_or os i o) b so (subst (λ x. Fits x b) is here))

-- the same of what stands at a place
module _ {A B : Type 0} (Fits : A → B → Type 0) (os : List A) (i : ℕ) (d : A) (lt : i < length os) where
  there : get_or os i d ≡ get_or os i (get_or os i d)
  there = get_or_default os i d (get_or os i d) lt

  pub here_at : (bs less : List B) (b : B) → bs ≡ less ++ b ∷ [] → AllZip Fits (drop i os) (reverse bs) → Fits (get_or os i d) b
  here_at = last_here Fits os i (get_or os i d) lt there

  pub less_at : (bs less : List B) (b : B) → bs ≡ less ++ b ∷ [] → AllZip Fits (drop i os) (reverse bs) → AllZip Fits (drop (i + 1) os) (reverse less)
  less_at = all_less Fits os i (get_or os i d) lt there

  pub some_at : (bs : List B) → bs ≡ [] → AllZip Fits (drop i os) (reverse bs) → ⊥
  some_at = one_left Fits os i (get_or os i d) lt there

-- ---- what was found

-- it is still so of the later lanes behind the turn of another
pub found_on : (K H : Shape) (turn : ℕ) (I J : ℕ → List Record) (opens now : ℕ → Option OpenLane) → H ≡ K → KeepsLanes H turn I J
    → KeepsOpens H turn opens now → (k : ℕ) → turn + 1 ≤ k → IsLaneOf K k
    → (found : Option OpenLane) → IsFound K I opens k found → IsFound K J now k found
found_on K H turn I J opens now same lanes keeps k above inside found was = record {
  told = was.told ∙ sym (subst (λ h. KeepsOpens h turn opens now) same keeps k inside (λ e. omega (arith, e, above)));
  idle = λ none. subst (λ h. KeepsLanes h turn I J) same lanes k inside (λ e. omega (arith, e, above)) ∙ was.idle none;
  size = was.size;
}

-- ---- one lane more

-- there is room for what is found of it
pub within_room : (n i count room : ℕ) → n ≤ i → i < count → room ≡ count → n < room
within_room n i count room few low same = omega arith

-- what is said of each lane is said of it, too
pub found_more : (P : ℕ → Option OpenLane → Type 0) (old new : List (Option OpenLane)) (i : ℕ) (x : Option OpenLane) → length old ≡ i
    → new ≡ old ++ x ∷ []
    → ((k : ℕ) → k < i → P k (get_or old k None)) → P i x → (k : ℕ) → k < i + 1 → P k (get_or new k None)
found_more P old new i x long is before here k low = elim (cases_lt k i) [
  | inl earlier ↦
      let same : get_or new k None ≡ get_or old k None =
      ap (λ xs. get_or xs k None) is ∙ get_or_append_left old (x ∷ []) None k (subst (λ n. k < n) (sym long) earlier) in
      subst (P k) (sym same) (before k earlier)
  | inr later ↦
      let at : i ≡ k = omega arith in
      let same : get_or new k None ≡ x = ap (λ xs. get_or xs k None) is ∙ get_or_push old x None k (long ∙ at) in
      subst (P k) (sym same) (subst (λ n. P n x) at here)
]
