-- The greatest stamp of a list of answers.
use Rattle.std.proofs.Common.{◌≡◌, ℕ, ◌+◌, ◌<◌, max, List, [], ◌∷◌, ◌++◌, length, get_or, take, Result, refl, arith, ap, ◌∙◌, sym, subst, IsOk, Ok}
use Rattle.std.specs.List.{All}
use Rattle.std.proofs.lemmas.List.{take_more}
use Rattle.std.proofs.lemmas.List.Elements.{All-more}
use Rattle.cbdc_types.specs.declared.calls.NodeFault.{NodeFault}
use Rattle.lane_driver.specs.Gathering.{ok_stamp, latest_of}

pub latest_of-push : (xs : List (Result ℕ NodeFault)) (a : Result ℕ NodeFault) → latest_of (xs ++ a ∷ []) ≡ max (latest_of xs) (ok_stamp a)
latest_of-push [] a = grind arith
latest_of-push (x ∷ xs) a = let e = latest_of-push xs a in grind (arith, e)

pub latest_of-more : (xs : List (Result ℕ NodeFault)) (i : ℕ) (a : Result ℕ NodeFault) (t : ℕ) → i < length xs → a ≡ get_or xs i a → a ≡ Ok t
    → latest_of (take (i + 1) xs) ≡ max (latest_of (take i xs)) t
latest_of-more xs i a t h e k =
    ap latest_of (take_more xs i a h) ∙ (latest_of-push (take i xs) (get_or xs i a) ∙ ap (λ b. max (latest_of (take i xs)) (ok_stamp b)) (sym e ∙ k))

pub ok-more : {A : Type 0} (xs : List (Result A NodeFault)) (i : ℕ) (a : Result A NodeFault) (t : A) → i < length xs → a ≡ get_or xs i a → a ≡ Ok t
    → All IsOk (take i xs) → All IsOk (take (i + 1) xs)
ok-more {A = A} xs i a t h e k all = All-more IsOk xs i a h all (let P : Result A NodeFault → Type 0 = λ r. IsOk r in subst P (sym (sym e ∙ k)) refl)

pub ruleset latest_steps = (latest_of-more, ok-more)
