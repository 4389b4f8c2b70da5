-- Loops that stop at the first item that fails.
use Rattle.std.proofs.Common.{◌≡◌, ℕ, ◌+◌, ◌<◌, ◌≤◌, List, length, take, get_or, subst, All}
use Rattle.std.proofs.lemmas.List.{take_all}
use Rattle.std.proofs.lemmas.List.Elements.{All-more}

module _ {X : Type 0} (P : X → Type 0) (xs : List X) where
  pub one_more : (i : ℕ) (x : X) → i < length xs → x ≡ get_or xs i x → P x → All P (take i xs) → All P (take (i + 1) xs)
  one_more i x lt is p so_far = All-more P xs i x lt so_far (subst P is p)

  pub all_passed : (i : ℕ) → length xs ≤ i → All P (take i xs) → All P xs
  all_passed i le so_far = subst (All P) (take_all i xs le) so_far
