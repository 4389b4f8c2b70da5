-- What is said of a whole answer, and of a fault, where it is known which came; and of each of a list, at a place.
use Rattle.std.proofs.Common.{◌≡◌, ℕ, ◌<◌, List, length, get_or, Result, Ok, Err, IfErr, OnOk, sym, subst}
use Rattle.std.specs.Prelude.{All, IfOk}

pub when_whole : {A E X : Type 0} (r : Result A E) (a : A) → r ≡ Ok a → OnOk r X → X
when_whole {X = X} r a is so = subst (λ o. OnOk o X) is so

pub of_whole : {A E : Type 0} (P : A → Type 0) (r : Result A E) (a : A) → r ≡ Ok a → IfOk r P → P a
of_whole P r a is so = subst (λ o. IfOk o P) is so

pub of_fault : {A E : Type 0} (P : E → Type 0) (r : Result A E) (e : E) → r ≡ Err e → IfErr r P → P e
of_fault P r e is so = subst (λ o. IfErr o P) is so

pub all_at : {A : Type 0} (P : A → Type 0) (xs : List A) (i : ℕ) (x : A) → i < length xs → x ≡ get_or xs i x → All P xs → P x
all_at P xs i x lt is all = subst P (sym is) (all i x lt)
