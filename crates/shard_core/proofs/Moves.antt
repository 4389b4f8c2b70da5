-- What one entry more moves.
use Rattle.std.proofs.Common.{◌≡◌, ℕ, zero, suc, ◌+◌, ◌<◌, ◌≤◌, Bool, true, false, not, ◌&&◌, ◌||◌, List, [], ◌∷◌, ◌++◌, length, drop, get_or}
use Rattle.std.proofs.Common.{if◌then◌else◌, arith, refl, ap, sym, ◌∙◌, drop-cons}
use Rattle.cbdc_model.specs.Records.{Digest, Entry, Reply, Answered, is_held}
use Rattle.cbdc_model.specs.Status.{has, held_inputs}
use Rattle.shard_core.specs.Moves.{inputs_where, outputs_where, returned_where, inputs_in, outputs_in}
use Rattle.shard_core.proofs.Claims.{has_append}

pub or_step : (f g x c n : Bool) → f ≡ (x || g) → n ≡ (x || c) → (g || n) ≡ (f || c)
or_step f true true c n p q = rw p
or_step f true false c n p q = rw p
or_step f false true c n p q = rw (p, q)
or_step f false false c n p q = rw (p, q)

pub not_step : (f g x c n : Bool) → f ≡ (x || g) → n ≡ (not x && c) → (not g && n) ≡ (not f && c)
not_step f true true c n p q = rw p
not_step f true false c n p q = rw p
not_step f false true c n p q = rw (p, q)
not_step f false false c n p q = rw (p, q)

pub if_step : {X : Type 0} (f g x : Bool) (v c n : X) → f ≡ (x || g) → n ≡ (if x then v else c) → (if g then v else n) ≡ (if f then v else c)
if_step f true true v c n p q = rw p
if_step f true false v c n p q = rw p
if_step f false true v c n p q = rw (p, q)
if_step f false false v c n p q = rw (p, q)

pub drop_at : {X : Type 0} (xs : List X) (i : ℕ) (x : X) → i < length xs → x ≡ get_or xs i x → drop i xs ≡ x ∷ drop (suc i) xs
drop_at xs i x l is = drop-cons xs i x l ∙ ap (λ (z : _). z ∷ drop (suc i) xs) (sym is)

pub outputs_more : (es : List Entry) (ds : List Bool) (i : ℕ) (e : Entry) → drop i es ≡ e ∷ drop (suc i) es → drop i ds ≡ true ∷ drop (suc i) ds
    → (y : Digest)
    → has (outputs_where (drop i es) (drop i ds)) y ≡ (has e.outputs y || has (outputs_where (drop (suc i) es) (drop (suc i) ds)) y)
outputs_more es ds i e p q y = rw (p, q) (has_append e.outputs (outputs_where (drop (suc i) es) (drop (suc i) ds)) y)

pub outputs_same : (es : List Entry) (ds : List Bool) (i : ℕ) (e : Entry) → drop i es ≡ e ∷ drop (suc i) es → drop i ds ≡ false ∷ drop (suc i) ds
    → (y : Digest)
    → has (outputs_where (drop i es) (drop i ds)) y ≡ has (outputs_where (drop (suc i) es) (drop (suc i) ds)) y
outputs_same es ds i e p q y = rw (p, q)

pub inputs_more : (es : List Entry) (ds : List Bool) (i : ℕ) (e : Entry) → drop i es ≡ e ∷ drop (suc i) es → drop i ds ≡ true ∷ drop (suc i) ds
    → (y : Digest)
    → has (inputs_where (drop i es) (drop i ds)) y ≡ (has e.inputs y || has (inputs_where (drop (suc i) es) (drop (suc i) ds)) y)
inputs_more es ds i e p q y = rw (p, q) (has_append e.inputs (inputs_where (drop (suc i) es) (drop (suc i) ds)) y)

pub inputs_same : (es : List Entry) (ds : List Bool) (i : ℕ) (e : Entry) → drop i es ≡ e ∷ drop (suc i) es → drop i ds ≡ false ∷ drop (suc i) ds
    → (y : Digest)
    → has (inputs_where (drop i es) (drop i ds)) y ≡ has (inputs_where (drop (suc i) es) (drop (suc i) ds)) y
inputs_same es ds i e p q y = rw (p, q)

returned_yes : (h d : Bool) (xs rest : List Digest) (y : Digest) → (h && not d) ≡ true
    → has (if h then (if d then rest else xs ++ rest) else rest) y ≡ (has xs y || has rest y)
returned_yes true true xs rest y e = cc
returned_yes true false xs rest y e = has_append xs rest y
returned_yes false d xs rest y e = cc

returned_no : (h d : Bool) (xs rest : List Digest) (y : Digest) → (h && not d) ≡ false
    → has (if h then (if d then rest else xs ++ rest) else rest) y ≡ has rest y
returned_no true true xs rest y e = refl
returned_no true false xs rest y e = cc
returned_no false d xs rest y e = refl

pub returned_more : (es : List Entry) (rs : List Reply) (ds : List Bool) (i : ℕ) (e : Entry) (r : Reply) (d : Bool) → drop i es ≡ e ∷ drop (suc i) es
    → drop i rs ≡ r ∷ drop (suc i) rs
    → drop i ds ≡ d ∷ drop (suc i) ds → (is_held r && not d) ≡ true → (y : Digest)
    → has (returned_where (drop i es) (drop i rs) (drop i ds)) y
    ≡ (has e.inputs y || has (returned_where (drop (suc i) es) (drop (suc i) rs) (drop (suc i) ds)) y)
returned_more es rs ds i e r d p o q h y = rw (p, o, q)
    (returned_yes (is_held r) d e.inputs (returned_where (drop (suc i) es) (drop (suc i) rs) (drop (suc i) ds)) y h)

pub returned_same : (es : List Entry) (rs : List Reply) (ds : List Bool) (i : ℕ) (e : Entry) (r : Reply) (d : Bool) → drop i es ≡ e ∷ drop (suc i) es
    → drop i rs ≡ r ∷ drop (suc i) rs
    → drop i ds ≡ d ∷ drop (suc i) ds → (is_held r && not d) ≡ false → (y : Digest)
    → has (returned_where (drop i es) (drop i rs) (drop i ds)) y ≡ has (returned_where (drop (suc i) es) (drop (suc i) rs) (drop (suc i) ds)) y
returned_same es rs ds i e r d p o q h y = rw (p, o, q)
    (returned_no (is_held r) d e.inputs (returned_where (drop (suc i) es) (drop (suc i) rs) (drop (suc i) ds)) y h)

pub held_more : (es : List Answered) (i : ℕ) (a : Answered) → drop i es ≡ a ∷ drop (suc i) es → is_held a.reply ≡ true → (y : Digest)
    → has (held_inputs (drop i es)) y ≡ (has a.entry.inputs y || has (held_inputs (drop (suc i) es)) y)
held_more es i a p h y = rw (p, h) (has_append a.entry.inputs (held_inputs (drop (suc i) es)) y)

pub held_same : (es : List Answered) (i : ℕ) (a : Answered) → drop i es ≡ a ∷ drop (suc i) es → is_held a.reply ≡ false → (y : Digest)
    → has (held_inputs (drop i es)) y ≡ has (held_inputs (drop (suc i) es)) y
held_same es i a p h y = rw (p, h)

length_more : {X : Type 0} (xs ys : List X) → length (xs ++ ys) ≡ length xs + length ys
length_more [] ys = omega arith
length_more (x ∷ xs) ys = let rest = length_more xs ys in omega (arith, rest)

pub held_count : (es : List Answered) (i : ℕ) (a : Answered) → drop i es ≡ a ∷ drop (suc i) es → is_held a.reply ≡ true
    → length (held_inputs (drop i es)) ≡ length a.entry.inputs + length (held_inputs (drop (suc i) es))
held_count es i a p h = rw (p, h) (length_more a.entry.inputs (held_inputs (drop (suc i) es)))

pub held_count_same : (es : List Answered) (i : ℕ) (a : Answered) → drop i es ≡ a ∷ drop (suc i) es → is_held a.reply ≡ false
    → length (held_inputs (drop i es)) ≡ length (held_inputs (drop (suc i) es))
held_count_same es i a p h = rw (p, h)

pub inputs_in_more : (es : List Entry) (i : ℕ) (e : Entry) → drop i es ≡ e ∷ drop (suc i) es
    → inputs_in (drop i es) ≡ length e.inputs + inputs_in (drop (suc i) es)
inputs_in_more es i e p = rw p

pub outputs_in_more : (es : List Entry) (i : ℕ) (e : Entry) → drop i es ≡ e ∷ drop (suc i) es
    → outputs_in (drop i es) ≡ length e.outputs + outputs_in (drop (suc i) es)
outputs_in_more es i e p = rw p

pub cut_bool : (ds : List Bool) (i : ℕ) (d : Bool) → i < length ds → get_or ds i false ≡ d → drop i ds ≡ d ∷ drop (suc i) ds
cut_bool ds i d l is = drop-cons ds i false l ∙ ap (λ (z : Bool). z ∷ drop (suc i) ds) is

pub drop_end : {X : Type 0} (xs : List X) (i : ℕ) → length xs ≤ i → drop i xs ≡ []
drop_end [] zero l = refl
drop_end [] (suc i) l = refl
drop_end (x ∷ xs) zero l = absurd (omega arith)
drop_end (x ∷ xs) (suc i) l = drop_end xs i (omega arith)
