-- Items of lists that were joined.
use Rattle.std.proofs.Common.{◌≡◌, ◌≤◌, ◌+◌, ◌++◌, ◌∷◌, [], ℕ, zero, suc, List, length, map, Some, refl, ap, arith}
use Rattle.std.specs.Prelude.{slice_get, slice_index_or}

module _ {A B : Type 0} (f : A → B) (ys : List B) (d : B) where
  pub front_item : (xs : List A) (n : ℕ) (x : A) → slice_get xs n ≡ Some x → slice_index_or (map f xs ++ ys) n d ≡ f x
  front_item [] n x at = absurd (cc)
  front_item (y ∷ xs) zero x at = let same : y ≡ x = cc in ap f same
  front_item (y ∷ xs) (suc n) x at = front_item xs n x at

  pub back_item : (xs : List A) (m n : ℕ) → m ≡ length xs + n → slice_index_or (map f xs ++ ys) m d ≡ slice_index_or ys n d
  back_item [] m n is = ap (λ (k : ℕ). slice_index_or ys k d) (omega (arith, is))
  back_item (x ∷ xs) zero n is = absurd (omega (arith, is))
  back_item (x ∷ xs) (suc m) n is = back_item xs m n (omega (arith, is))

module _ {A B : Type 0} (f : A → B) (d : B) where
  pub map_item : (xs : List A) (n : ℕ) (x : A) → slice_get xs n ≡ Some x → slice_index_or (map f xs) n d ≡ f x
  map_item [] n x at = absurd (cc)
  map_item (y ∷ xs) zero x at = let same : y ≡ x = cc in ap f same
  map_item (y ∷ xs) (suc n) x at = map_item xs n x at

  pub map_past : (xs : List A) (n : ℕ) → length xs ≤ n → slice_index_or (map f xs) n d ≡ d
  map_past [] n past = refl
  map_past (x ∷ xs) zero past = absurd (omega (arith, past))
  map_past (x ∷ xs) (suc n) past = map_past xs n (omega (arith, past))
