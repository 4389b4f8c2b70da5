-- What a search for the first place finds.
use Rattle.std.proofs.Common.{◌≡◌, ◌≢◌, ℕ, zero, suc, ◌<◌, Bool, true, false, List, [], ◌∷◌, length, get_or, Option, Some, None, option_map, min}
use Rattle.std.proofs.Common.{arith, refl, ap}
use Rattle.std.proofs.lemmas.Grind.{common_steps}
use Rattle.cbdc_model.specs.Records.{Answered, Reply}
use Rattle.cbdc_model.specs.Replies.{replies}
use mathlib.Core.Bool.{not, beq}
use Rattle.cbdc_model.specs.Next.{difference, misfit, same_decision}
use Rattle.shard_core.specs.Places.{first_misfit, fits_reply}

pub difference_is : {A : Type 0} (same : A → A → Bool) (xs ys : List A) → difference same xs ys ≡ first_misfit same xs ys
difference_is same [] [] = refl
difference_is same [] (y ∷ ys) = refl
difference_is same (x ∷ xs) [] = refl
difference_is same (x ∷ xs) (y ∷ ys) = let rest = difference_is same xs ys in rw rest

pub misfit_is : (es : List Answered) (ds : List Bool) → misfit es ds ≡ first_misfit fits_reply (replies es) ds
misfit_is [] [] = refl
misfit_is [] (d ∷ ds) = refl
misfit_is (a ∷ es) [] = refl
misfit_is (a ∷ es) (d ∷ ds) = let rest = misfit_is es ds in grind (arith, common_steps, misfit_is es ds)

pub misfit_at : {A B : Type 0} (fits : A → B → Bool) (xs : List A) (ys : List B) (k : ℕ) (x : A) (y : B)
    → ((i : ℕ) (d : A) (e : B) → i < k → fits (get_or xs i d) (get_or ys i e) ≡ true)
    → k < length xs → k < length ys → fits (get_or xs k x) (get_or ys k y) ≡ false → Some k ≡ first_misfit fits xs ys
misfit_at fits [] ys k x y all lx ly bad = absurd (omega arith)
misfit_at fits (u ∷ xs) [] k x y all lx ly bad = absurd (omega arith)
misfit_at fits (u ∷ xs) (v ∷ ys) zero x y all lx ly bad = let e : fits u v ≡ false = bad in rw e
misfit_at fits (u ∷ xs) (v ∷ ys) (suc k) x y all lx ly bad =
    let e : fits u v ≡ true = all 0 x y (omega arith) in
    let rest = misfit_at fits xs ys k x y (λ i d f h. all (suc i) d f (omega arith)) (omega arith) (omega arith) bad in
    rw (e, ← rest)

pub no_misfit : {A B : Type 0} (fits : A → B → Bool) (xs : List A) (ys : List B)
    → ((i : ℕ) (d : A) (e : B) → i < length xs → fits (get_or xs i d) (get_or ys i e) ≡ true)
    → length xs ≡ length ys → None ≡ first_misfit fits xs ys
no_misfit fits [] [] all same = refl
no_misfit fits [] (y ∷ ys) all same = absurd (omega arith)
no_misfit fits (x ∷ xs) [] all same = absurd (omega arith)
no_misfit fits (x ∷ xs) (y ∷ ys) all same =
    let e : fits x y ≡ true = all 0 x y (omega arith) in
    let rest = no_misfit fits xs ys (λ i d f h. all (suc i) d f (omega arith)) (omega arith) in
    rw (e, ← rest)

pub found_short : {A B : Type 0} (fits : A → B → Bool) (xs : List A) (ys : List B)
    → ((i : ℕ) (d : A) (e : B) → i < length xs → i < length ys → fits (get_or xs i d) (get_or ys i e) ≡ true)
    → length xs ≢ length ys → Some (min (length xs) (length ys)) ≡ first_misfit fits xs ys
found_short fits [] [] all differ = absurd (differ refl)
found_short fits [] (y ∷ ys) all differ = ap Some (omega arith)
found_short fits (x ∷ xs) [] all differ = ap Some (omega arith)
found_short fits (x ∷ xs) (y ∷ ys) all differ =
    let e : fits x y ≡ true = all 0 x y (omega arith) (omega arith) in
    let rest = found_short fits xs ys (λ i d f h g. all (suc i) d f (omega arith) (omega arith)) (λ q. differ (omega arith)) in
    rw (e, ← rest) (ap Some (omega arith))

pub other_bool : (a b : Bool) → not (beq a b) ≡ true → same_decision a b ≡ false
other_bool true true h = cc
other_bool true false h = refl
other_bool false true h = refl
other_bool false false h = cc

none_some : {X : Type 0} (o : Option X) → (f : X → X) → None ≡ option_map f o → None ≡ o
none_some None f h = refl
none_some (Some x) f h = cc

fits_by : (t : Bool) (r : Reply) (rs : List Reply) (d : Bool) (ds : List Bool) → None ≡ first_misfit fits_reply (r ∷ rs) (d ∷ ds) → fits_reply r d ≡ t
    → (None ≡ first_misfit fits_reply rs ds → length ds ≡ length rs) → length (d ∷ ds) ≡ length (r ∷ rs)
fits_by true r rs d ds h e rest =
    let same : length ds ≡ length rs = rest (none_some (first_misfit fits_reply rs ds) (λ n. suc n) (rw e at h)) in omega (arith, same)
fits_by false r rs d ds h e rest = let no : None ≡ Some 0 = rw e at h in cc

-- where all places fit, the lists are as long
pub fits_length : (rs : List Reply) (ds : List Bool) → None ≡ first_misfit fits_reply rs ds → length ds ≡ length rs
fits_length [] [] h = refl
fits_length [] (d ∷ ds) h = cc
fits_length (r ∷ rs) [] h = cc
fits_length (r ∷ rs) (d ∷ ds) h = fits_by (fits_reply r d) r rs d ds h refl (λ g. fits_length rs ds g)
