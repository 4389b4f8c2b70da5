-- The first place where two lists don't fit.
use Rattle.std.specs.Prelude.{ℕ, suc, Bool, ◌||◌, not, List, [], ◌∷◌, if◌then◌else◌, Option, Some, None, option_map}
use Rattle.cbdc_model.specs.Records.{Reply, is_held}

-- the first place where the test fails, or the shorter length; none where the lists are as long and pass everywhere
abbrev pub first_misfit : {A B : Type 0} → (A → B → Bool) → List A → List B → Option ℕ
first_misfit fits [] [] = None
first_misfit fits [] (y ∷ ys) = Some 0
first_misfit fits (x ∷ xs) [] = Some 0
first_misfit fits (x ∷ xs) (y ∷ ys) = if fits x y then option_map (λ n. suc n) (first_misfit fits xs ys) else Some 0

-- only a Held entry may be committed
abbrev pub fits_reply : Reply → Bool → Bool
fits_reply r d = not d || is_held r
