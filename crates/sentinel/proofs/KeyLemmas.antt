-- Keys in a map: what tells them apart there tells them apart as the definitions do.
use Rattle.std.proofs.Common.{◌≡◌, ℕ, Bool, ◌&&◌, List, [], ◌∷◌, Option, Some, refl, sym, ◌∙◌, ap, cond}
use Rattle.std.specs.Map.{lookup}
use Rattle.std.specs.Prelude.{bytes_eq}
use lib.Dec.{eqb}
use lib.Pointwise.{pointwise}
use Rattle.sentinel.specs.contracts.line.KeyPartialEq.TheImpl.{eq-value}
use Rattle.sentinel.specs.declared.line.Key.{Key}
use Rattle.sentinel.specs.Lines.{is_key}

ids_are : (x y : List ℕ) → pointwise eqb x y ≡ bytes_eq x y
ids_are [] [] = refl
ids_are [] (y ∷ ys) = refl
ids_are (x ∷ xs) [] = refl
ids_are (x ∷ xs) (y ∷ ys) = let rest = ids_are xs ys in rw rest

pub key_is : (q k : Key) → eq-value.it q k ≡ is_key q.tx q.index k.tx k.index
key_is q k = ap (λ (b : Bool). b && eqb q.index k.index) (ids_are q.tx k.tx)

module _ {K X : Type 0} (s t : K → Bool) (same : (k : K) → s k ≡ t k) where
  lookup_by : (es : List (K × X)) → lookup s es ≡ lookup t es
  lookup_by [] = refl
  lookup_by (e ∷ es) = let here = same e.0 in let rest = lookup_by es in rw (here, rest)

-- what a map has at a key
pub found_by : (q : Key) (es : List (Key × Bool))
    → lookup (λ (k : Key). eq-value.it q k) es ≡ lookup (λ (k : Key). is_key q.tx q.index k.tx k.index) es
found_by q es = lookup_by (λ k. eq-value.it q k) (λ k. is_key q.tx q.index k.tx k.index) (λ k. key_is q k) es

-- what a map has at a key once this one was put in
pub put_by : (key q : Key) (good : Bool) (old new : List (Key × Bool))
    → lookup (λ (k : Key). eq-value.it q k) new ≡ cond (eq-value.it key q) (Some good) (lookup (λ (k : Key). eq-value.it q k) old)
    → lookup (λ (k : Key). is_key q.tx q.index k.tx k.index) new
    ≡ cond (is_key key.tx key.index q.tx q.index) (Some good) (lookup (λ (k : Key). is_key q.tx q.index k.tx k.index) old)
put_by key q good old new put =
    sym (found_by q new) ∙ put
    ∙ ap (λ (b : Bool). cond b (Some good) (lookup (λ (k : Key). eq-value.it q k) old)) (key_is key q)
    ∙ ap (λ (o : Option Bool). cond (is_key key.tx key.index q.tx q.index) (Some good) o) (found_by q old)
