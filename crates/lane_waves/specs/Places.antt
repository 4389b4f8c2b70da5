-- Lists by the numbers of their places.
use Rattle.std.specs.Prelude.{ℕ, suc, List, [], ◌∷◌}

-- so it is of each item and its number, the first having number k
abbrev pub AllFrom : {A : Type 0} → (ℕ → A → Type 0) → ℕ → List A → Type 0
AllFrom P k [] = Unit {0}
AllFrom P k (x ∷ xs) = P k x × AllFrom P (suc k) xs

-- so it is of the items of two lists that have one number
abbrev pub BothFrom : {A B : Type 0} → (ℕ → A → B → Type 0) → ℕ → List A → List B → Type 0
BothFrom P k [] [] = Unit {0}
BothFrom P k (x ∷ xs) (y ∷ ys) = P k x y × BothFrom P (suc k) xs ys
BothFrom P k xs ys = ⊥
