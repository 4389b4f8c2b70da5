-- Pieces that are written one after another.
use Rattle.std.proofs.Common.{rules, inl, inr, ◌<◌, ◌≡◌, ℕ, zero, suc, ◌+◌, ◌-◌, ◌≤◌, List, [], ◌∷◌, ◌++◌, length, take, drop, min, Option, Some}
use Rattle.std.proofs.Common.{refl, sym, ◌∙◌, ap, subst, arith, append_assoc, length-append, length-take, length-drop, Result, Ok, Err}
use Rattle.std.proofs.lemmas.List.{take_at, take_all, append-nil, take-append-le}
use Rattle.std.proofs.lemmas.Bool.{cases_lt}
use Rattle.outside.specs.Images.{Tells}
use Rattle.line_text.specs.Lines.{Text, Prints}

pub take_further : (m n : ℕ) (xs : List ℕ) → take (m + n) xs ≡ take m xs ++ take n (drop m xs)
take_further zero n xs = ap (λ (k : ℕ). take k xs) (omega arith)
take_further (suc m) n [] = take_all (suc m + n) [] (omega arith) ∙ sym (take_all n [] (omega arith))
take_further (suc m) n (x ∷ xs) = let k : suc m + n ≡ suc (m + n) = omega arith in
    ap (λ (j : ℕ). take j (x ∷ xs)) k ∙ ap (λ (l : List ℕ). x ∷ l) (take_further m n xs)

-- one piece more of what is written
pub written_further : (t bytes : List ℕ) (at n : ℕ) (taken : Option (List ℕ)) → taken ≡ Some ((t ++ take at bytes) ++ take n (drop at bytes))
    → taken ≡ Some (t ++ take (at + n) bytes)
written_further t bytes at n taken is = is ∙ ap (λ (l : List ℕ). Some l)
    (append_assoc t (take at bytes) (take n (drop at bytes)) ∙ ap (λ (l : List ℕ). t ++ l) (sym (take_further at n bytes)))

-- a front of the first text is a front of both
pub front_of_both : (a b : Text) (n : ℕ) → (m : ℕ) × (take n a ≡ take m (a ++ b))
front_of_both a b n = elim (cases_lt n (length a)) [
  | inl lt ↦ let le : n ≤ length a = omega arith in (n, sym (take-append-le n a b le))
  | inr le ↦ (length a, take_all n a le ∙ sym (take_at a b (length a) refl))
]

-- a front of the second behind the first is a front of both
pub front_behind : (a b : Text) (n : ℕ) → a ++ take n b ≡ take (length a + n) (a ++ b)
front_behind [] b n = ap (λ (k : ℕ). take k b) (omega arith)
front_behind (x ∷ a) b n =
    let k : length (x ∷ a) + n ≡ suc (length a + n) = omega arith in
    ap (λ (l : Text). x ∷ l) (front_behind a b n) ∙ sym (ap (λ (j : ℕ). take j (x ∷ (a ++ b))) k)

-- the first text failed, so both did
pub front_stays : (old new : Option Text) (a b : Text) → Tells old (λ t. (n : ℕ) × (new ≡ Some (t ++ take n a)))
    → Tells old (λ t. (n : ℕ) × (new ≡ Some (t ++ take n (a ++ b))))
front_stays old new a b failed = λ t is.
    let (n, taken) = failed t is in
    let (m, front) = front_of_both a b n in
    (m, taken ∙ ap (λ (l : Text). Some (t ++ l)) front)

module _ {E : Type 0} where
  -- the second text behind the first
  pub prints_then : (old mid new : Option Text) (a b : Text) (r : Result (Unit {0}) E) → Tells old (λ t. mid ≡ Some (t ++ a)) → Prints mid new b r
      → Prints old new (a ++ b) r
  prints_then old mid new a b (Ok done) first second = λ t is.
      second (t ++ a) (first t is) ∙ ap (λ (l : Text). Some l) (append_assoc t a b)
  prints_then old mid new a b (Err e) first second = λ t is.
      let (n, taken) = second (t ++ a) (first t is) in
      (length a + n, taken ∙ ap (λ (l : Text). Some l) (append_assoc t a (take n b) ∙ ap (λ (l : Text). t ++ l) (front_behind a b n)))
