-- The hashes of what is kept under hashes.
use Rattle.std.proofs.Common.{ℕ, arith, ◌≡◌, ◌+◌, Bool, true, false, not, ◌&&◌, ◌||◌, List, [], ◌∷◌, length, map, Option, Some, None, is_some}
use Rattle.std.proofs.Common.{if◌then◌else◌, refl, ap, sym, ◌∙◌, subst}
use Rattle.cbdc_model.specs.Records.{Digest, same_digest}
use Rattle.cbdc_model.specs.Status.{has}
use Rattle.shard_table.specs.declared.slots.Kept.{Kept}
use Rattle.shard_table.specs.Entries.{lookup, IsOnce}
use Rattle.shard_table.proofs.Gathers.{same_is}
use Rattle.shard_table.specs.Members.{IsSet}

-- the hashes alone
abbrev pub keys : {V : Type 0} → List (Kept V) → List Digest
keys es = map (λ e. e.hash) es

by_test : {V : Type 0} (e : Kept V) (es : List (Kept V)) (x : Digest) (t : Bool) → has (keys es) x ≡ is_some (lookup es x) → same_digest e.hash x ≡ t
    → has (keys (e ∷ es)) x ≡ is_some (lookup (e ∷ es) x)
by_test e es x true rest h = rw h
by_test e es x false rest h = rw h rest

pub has_is : {V : Type 0} (es : List (Kept V)) (x : Digest) → has (keys es) x ≡ is_some (lookup es x)
has_is [] x = refl
has_is (e ∷ es) x = by_test e es x (same_digest e.hash x) (has_is es x) refl

pub keys_length : {V : Type 0} (es : List (Kept V)) → length (keys es) ≡ length es
keys_length [] = refl
keys_length (e ∷ es) = let rest = keys_length es in rw rest

pub keys_set : {V : Type 0} (es : List (Kept V)) → IsOnce es → IsSet (keys es)
keys_set [] once = tt
keys_set (e ∷ es) once = (has_is es e.hash ∙ ap is_some once.0, keys_set es once.1)

put_by : {V : Type 0} (t : Bool) (o : Option V) (v : V) → is_some (if t then Some v else o) ≡ (t || is_some o)
put_by true o v = refl
put_by false o v = refl

pub put_members : {V : Type 0} (old new : List (Kept V)) (x : Digest) (v : V)
    → ((y : Digest) → lookup new y ≡ (if same_digest x y then Some v else lookup old y)) → (y : Digest)
    → has (keys new) y ≡ (same_digest x y || has (keys old) y)
put_members old new x v kept y = has_is new y ∙ ap is_some (kept y) ∙ put_by (same_digest x y) (lookup old y) v
    ∙ ap (λ (b : Bool). same_digest x y || b) (sym (has_is old y))

cut_by : {V : Type 0} (t : Bool) (o : Option V) → is_some (if t then None else o) ≡ (not t && is_some o)
cut_by true o = refl
cut_by false o = refl

pub cut_members : {V : Type 0} (old new : List (Kept V)) (x : Digest)
    → ((y : Digest) → lookup new y ≡ (if same_digest x y then None else lookup old y)) → (y : Digest)
    → has (keys new) y ≡ (not (same_digest x y) && has (keys old) y)
cut_members old new x kept y = has_is new y ∙ ap is_some (kept y) ∙ cut_by (same_digest x y) (lookup old y)
    ∙ ap (λ (b : Bool). not (same_digest x y) && b) (sym (has_is old y))

pub same_members : {V : Type 0} (old new : List (Kept V)) → ((y : Digest) → lookup new y ≡ lookup old y) → (y : Digest)
    → has (keys new) y ≡ has (keys old) y
same_members old new kept y = has_is new y ∙ ap is_some (kept y) ∙ sym (has_is old y)

pub absent_has : {V : Type 0} (es : List (Kept V)) (x : Digest) → lookup es x ≡ None → has (keys es) x ≡ false
absent_has es x h = has_is es x ∙ ap is_some h

pub there_has : {V : Type 0} (es : List (Kept V)) (x : Digest) (v : V) → lookup es x ≡ Some v → has (keys es) x ≡ true
there_has es x v h = has_is es x ∙ ap is_some h

none_of : {V : Type 0} (o : Option V) → is_some o ≡ false → o ≡ None
none_of None h = refl
none_of (Some v) h = cc

pub has_absent : {V : Type 0} (es : List (Kept V)) (x : Digest) → has (keys es) x ≡ false → lookup es x ≡ None
has_absent es x h = none_of (lookup es x) (sym (has_is es x) ∙ h)

pub there_members : (xs : List Digest) (x : Digest) → has xs x ≡ true → (y : Digest) → has xs y ≡ (same_digest x y || has xs y)
there_members xs x h y =
    elim (same_digest x y) as (λ t. same_digest x y ≡ t → has xs y ≡ (t || has xs y)) [
      | true ↦ λ t. subst (λ (z : Digest). has xs z ≡ true) (same_is x y t) h
      | false ↦ λ t. refl
    ] refl

pub keys_empty : {V : Type 0} (es : List (Kept V)) → keys es ≡ [] → es ≡ []
keys_empty [] h = refl
keys_empty (e ∷ es) h = cc

pub plus_zero : (n : ℕ) → n + 0 ≡ n
plus_zero n = omega arith
