-- What is claimed by the Held entries of a part, and the replies so far.
use Rattle.std.proofs.Common.{◌≡◌, ℕ, zero, suc, ◌+◌, ◌<◌, ◌≤◌, Bool, true, false, ◌||◌, List, [], ◌∷◌, ◌++◌, length, take, drop, get_or}
use Rattle.std.proofs.Common.{if◌then◌else◌, arith, refl, ap, sym, ◌∙◌, append_assoc, drop-cons}
use Rattle.cbdc_model.specs.Records.{Digest, same_digest, Batch, Record, Entry, Reply, is_held}
use Rattle.cbdc_model.specs.Status.{has}
use Rattle.cbdc_model.specs.Replies.{reply_to, answered, replies}

or_false : (a : Bool) → (a || false) ≡ a
or_false true = refl
or_false false = refl

pub or_assoc : (a b c : Bool) → (a || (b || c)) ≡ ((a || b) || c)
or_assoc true b c = refl
or_assoc false b c = refl

pub or_swap : (a b c : Bool) → (a || (b || c)) ≡ ((b || a) || c)
or_swap true true c = refl
or_swap true false c = refl
or_swap false true c = refl
or_swap false false c = refl

pub has_append : (xs ys : List Digest) (y : Digest) → has (xs ++ ys) y ≡ (has xs y || has ys y)
has_append [] ys y = refl
has_append (x ∷ xs) ys y = let rest = has_append xs ys y in rw rest (or_assoc (same_digest x y) (has xs y) (has ys y))

pub has_take : (xs : List Digest) (i : ℕ) (x y : Digest) → i < length xs → x ≡ get_or xs i x
    → has (take (suc i) xs) y ≡ (has (take i xs) y || same_digest x y)
has_take [] i x y l e = absurd (omega arith)
has_take (z ∷ xs) zero x y l e = let same : x ≡ z = e in rw same (or_false (same_digest z y))
has_take (z ∷ xs) (suc i) x y l e = let rest = has_take xs i x y (omega arith) e in
    rw rest (or_assoc (same_digest z y) (has (take i xs) y) (same_digest x y))

pub spare_less : (b : Bool) (s t : ℕ) → s + (if b then 0 else 1) ≡ t → t ≤ s + 1
spare_less true s t h = omega arith
spare_less false s t h = omega arith

-- one reply more
pub one_reply : (J : List Record) (b : Batch) (before : List Digest) (rs all : List Reply) (e : Entry) (es : List Entry) (i : ℕ) (r : Reply)
    → i < length es → e ≡ get_or es i e
    → r ≡ reply_to J b before e.inputs → rs ++ replies (answered J b before (drop i es)) ≡ all
    → (rs ++ r ∷ []) ++ replies (answered J b (if is_held r then e.inputs ++ before else before) (drop (suc i) es)) ≡ all
one_reply J b before rs all e es i r l is reply old =
    let cut : drop i es ≡ e ∷ drop (suc i) es = drop-cons es i e l ∙ ap (λ (f : Entry). f ∷ drop (suc i) es) (sym is) in
    append_assoc rs (r ∷ []) _ ∙ rw reply (ap (λ (fs : List Entry). rs ++ replies (answered J b before fs)) (sym cut) ∙ old)

pub claims_more : (xs before old new : List Digest) → ((y : Digest) → has old y ≡ has before y)
    → ((y : Digest) → has new y ≡ (has xs y || has old y)) → (y : Digest)
    → has new y ≡ has (xs ++ before) y
claims_more xs before old new claims more y = more y ∙ ap (λ (t : Bool). has xs y || t) (claims y) ∙ sym (has_append xs before y)

-- ---- a few hashes in a list, and the others in a table

pub has_here : (xs : List Digest) (i : ℕ) (x y : Digest) → i < length xs → x ≡ get_or xs i x → same_digest x y ≡ true → has xs y ≡ true
has_here [] i x y l e same = absurd (omega arith)
has_here (z ∷ xs) zero x y l e same = let here : same_digest z y ≡ true = ap (λ (w : Digest). same_digest w y) (sym e) ∙ same in rw here refl
has_here (z ∷ xs) (suc i) x y l e same = let rest = has_here xs i x y (omega arith) e same in rw rest (or_true (same_digest z y))
  where
    or_true : (a : Bool) → (a || true) ≡ true
    or_true true = refl
    or_true false = refl

pub not_yet : (xs : List Digest) (i : ℕ) (x y : Digest) → i < length xs → x ≡ get_or xs i x → has (take i xs) y ≡ false → same_digest x y ≡ false
    → has (take (suc i) xs) y ≡ false
not_yet xs i x y l e before here = has_take xs i x y l e ∙ rw (before, here) refl

or_first : (a b : Bool) → a ≡ true → true ≡ (a || b)
or_first true b e = refl
or_first false b e = absurd (cc)

or_second : (a b : Bool) → a ≡ false → b ≡ (a || b)
or_second true b e = absurd (cc)
or_second false b e = refl

pub in_few : (few many : List Digest) (y : Digest) → has few y ≡ true → true ≡ has (few ++ many) y
in_few few many y e = or_first (has few y) (has many y) e ∙ sym (has_append few many y)

pub in_many : (few many : List Digest) (y : Digest) → has few y ≡ false → has many y ≡ has (few ++ many) y
in_many few many y e = or_second (has few y) (has many y) e ∙ sym (has_append few many y)

pub few_more : (few more many : List Digest) (y : Digest) → has ((few ++ more) ++ many) y ≡ (has more y || has (few ++ many) y)
few_more few more many y =
    has_append (few ++ more) many y ∙ ap (λ (t : Bool). t || has many y) (has_append few more y) ∙ sym (or_swap (has more y) (has few y) (has many y))
    ∙ ap (λ (t : Bool). has more y || t) (sym (has_append few many y))

pub many_more : (few more many new : List Digest) (y : Digest) → has new y ≡ (has more y || has many y)
    → has (few ++ new) y ≡ (has more y || has (few ++ many) y)
many_more few more many new y e =
    has_append few new y ∙ ap (λ (t : Bool). has few y || t) e ∙ or_swap (has few y) (has more y) (has many y)
    ∙ sym (or_assoc (has more y) (has few y) (has many y))
    ∙ ap (λ (t : Bool). has more y || t) (sym (has_append few many y))
