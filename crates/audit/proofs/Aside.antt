-- What is made of a list by many, where each is well, and a place of it.
use Rattle.std.proofs.Common.{◌≡◌, ◌<◌, ℕ, zero, suc, List, [], ◌∷◌, length, map, get_or, refl, sym, ap, ◌∙◌, subst, arith, Result, Ok, Err}
use Rattle.std.specs.Prelude.{IfOk, MatchResult, Contains}
use Rattle.std.specs.List.{AllZip}
use Rattle.std.specs.Global.{Vec}
use Rattle.cbdc_model.specs.Records.{Compact}
use Rattle.cbdc_model.specs.Coins.{FullTx, compact}
use Rattle.audit.specs.Keeping.{IsFormOf}

all_ok : {X T : Type 0} (E : Type 0) (R : X → T → Type 0) (xs : List X) (ys : List T)
    → AllZip (λ x (y : Result T E). IfOk y (R x)) xs (map (λ y. Ok y) ys) → AllZip R xs ys
all_ok E R [] [] h = tt
all_ok E R [] (y ∷ ys) h = absurd h
all_ok E R (x ∷ xs) [] h = absurd h
all_ok E R (x ∷ xs) (y ∷ ys) h = (h.0, all_ok E R xs ys h.1)

pub ok_zip : {X T : Type 0} (E : Type 0) (R : X → T → Type 0) (xs : List X) (each : List (Result T E)) (all : Result (Vec T) E)
    → AllZip (λ x y. IfOk y (R x)) xs each
    → MatchResult all (λ v. (ys : List T) × (each ≡ map (λ y. Ok y) ys) × (v.items ≡ ys)) (λ e. Contains each (Err e))
    → IfOk all (λ v. AllZip R xs v.items)
ok_zip E R xs each (Ok v) z (ys, is, items) = subst (λ l. AllZip R xs l) (sym items)
    (all_ok E R xs ys (subst (λ l. AllZip (λ x y. IfOk y (R x)) xs l) is z))
ok_zip E R xs each (Err e) z h = tt

-- there are as many forms as transactions, and each place has its own
pub as_many : (txs : List FullTx) (forms : List Compact) → AllZip IsFormOf txs forms → length forms ≡ length txs
as_many [] [] h = refl
as_many [] (f ∷ forms) h = absurd h
as_many (t ∷ txs) [] h = absurd h
as_many (t ∷ txs) (f ∷ forms) h = ap suc (as_many txs forms h.1)

pub form_at : (txs : List FullTx) (forms : List Compact) (i : ℕ) (t : FullTx) (f : Compact) → AllZip IsFormOf txs forms → i < length txs
    → t ≡ get_or txs i t → f ≡ get_or forms i f → f ≡ compact t
form_at [] forms i t f h lt a b = absurd (omega (arith, lt))
form_at (x ∷ txs) [] i t f h lt a b = absurd h
form_at (x ∷ txs) (y ∷ forms) zero t f h lt a b = let same : t ≡ x = a in b ∙ h.0 ∙ ap compact (sym same)
form_at (x ∷ txs) (y ∷ forms) (suc i) t f h lt a b = form_at txs forms i t f h.1 (omega (arith, lt)) a b
