-- Words at places, one place after another.
use Rattle.std.proofs.Common.{arith, ◌≡◌, ◌∙◌, ◌||◌, ℕ, zero, suc, ◌+◌, ◌-◌, ◌<◌, ◌≤◌, Bool, true, false, not, cond, List, [], ◌∷◌, ◌++◌, length}
use Rattle.std.proofs.Common.{append-nil, Option, Some, None, refl, sym, ap}
use Rattle.std.specs.Prelude.{find, is_some, nat_lt, string_bytes}
use Rattle.std.specs.declared.string.String.{String}
use Rattle.std.specs.declared.alloc.Global.{Global}
use Rattle.std.specs.List.{filter, list_any, range_with_len}
use Rattle.std.specs.Option.{option_map, option_map_or, option_or}
use Rattle.std.specs.Str.{bytes_eq}
use Rattle.std.proofs.lemmas.List.Folds.{find-append, list_any-append}
use Rattle.std.proofs.lemmas.List.{length-map}
use Rattle.std.proofs.lemmas.List.Elements.{filter-append}
use Rattle.std.proofs.lemmas.Bool.Decides.{nat_tests}
use Rattle.std.proofs.lemmas.Slice.Eq.{bytes_eq-Decides}
use Rattle.clap.specs.Lexer.{long_of}
use Rattle.clap.specs.Words.{Text}
use Rattle.command_line.specs.Places.{is_dashes, is_positional, is_trailing, lacks_value, names_option, option_at, option_place, places_before}
use Rattle.command_line.specs.Places.{word_at}
use Rattle.command_line.specs.Words.{texts}

range-append : (a n m : ℕ) → range_with_len a (n + m) ≡ range_with_len a n ++ range_with_len (a + n) m
range-append a zero m = let here : a ≡ a + 0 = omega arith in let none : 0 + m ≡ m = omega arith in rw none (ap (λ k. range_with_len k m) here)
range-append a (suc n) m =
    let more : suc n + m ≡ suc (n + m) = omega arith in
    let same : a + 1 + n ≡ a + suc n = omega arith in
    ap (range_with_len a) more ∙ ap (λ l. a ∷ l) (range-append (a + 1) n m ∙ ap (λ k. range_with_len (a + 1) n ++ range_with_len k m) same)

-- the places before a later one
pub places_parts : (p q : ℕ) → 2 ≤ p → p ≤ q → places_before q ≡ places_before p ++ range_with_len p (q - p)
places_parts p q some le =
    let parts : q - 2 ≡ (p - 2) + (q - p) = omega arith in
    let here : 2 + (p - 2) ≡ p = omega arith in
    ap (range_with_len 2) parts ∙ range-append 2 (p - 2) (q - p) ∙ ap (λ k. places_before p ++ range_with_len k (q - p)) here

pub places_more : (p : ℕ) → 2 ≤ p → places_before (p + 1) ≡ places_before p ++ p ∷ []
places_more p some =
    let one : p + 1 - p ≡ 1 = omega arith in
    places_parts p (p + 1) some (omega arith) ∙ ap (λ n. places_before p ++ range_with_len p n) one

or_none : (a b : Bool) → (a || (b || false)) ≡ (a || b)
or_none true b = refl
or_none false true = refl
or_none false false = refl

pub trailing_more : (words : List Text) (p : ℕ) → 2 ≤ p → is_trailing words (p + 1) ≡ (is_trailing words p || is_dashes (word_at words p))
trailing_more words p some =
    let test = λ (q : ℕ). is_dashes (word_at words q) in
    ap (list_any test) (places_more p some) ∙ list_any-append test (places_before p) (p ∷ []) ∙ or_none (is_trailing words p) (test p)

positional_more : (words : List Text) (p : ℕ) → 2 ≤ p
    → filter (is_positional words) (places_before (p + 1))
    ≡ filter (is_positional words) (places_before p) ++ cond (is_positional words p) (p ∷ []) []
positional_more words p some = ap (filter (is_positional words)) (places_more p some) ∙ filter-append (is_positional words) (places_before p) (p ∷ [])

-- a value of its own joins those before it, and another word joins none
pub positional_joins : (words : List Text) (p : ℕ) (before : List ℕ) → 2 ≤ p → before ≡ filter (is_positional words) (places_before p)
    → is_positional words p ≡ true
    → before ++ p ∷ [] ≡ filter (is_positional words) (places_before (p + 1))
positional_joins words p before some is here = ap (λ ps. ps ++ p ∷ []) is
    ∙ sym (positional_more words p some ∙ ap (λ (b : Bool). filter (is_positional words) (places_before p) ++ cond b (p ∷ []) []) here)

pub positional_stays : (words : List Text) (p : ℕ) (before : List ℕ) → 2 ≤ p → before ≡ filter (is_positional words) (places_before p)
    → is_positional words p ≡ false
    → before ≡ filter (is_positional words) (places_before (p + 1))
positional_stays words p before some is here =
    is ∙ sym (positional_more words p some ∙ ap (λ (b : Bool). filter (is_positional words) (places_before p) ++ cond b (p ∷ []) []) here
    ∙ append-nil (filter (is_positional words) (places_before p)))

-- a walk over all places ends behind the last
pub places_end : (words : List (String Global)) (p : ℕ) → 2 ≤ p → length words ≤ p → (length words < p → p ≡ 2)
    → places_before p ≡ places_before (length (texts words))
places_end words p some past end =
    let same : p - 2 ≡ length words - 2 = grind arith in
    ap (range_with_len 2) (same ∙ ap (λ n. n - 2) (sym (length-map words string_bytes)))

-- no option of the name stands before the place, nor there
pub none_more : (name : Text) (words : List Text) (p : ℕ) → 2 ≤ p → find (names_option name words) (places_before p) ≡ None
    → names_option name words p ≡ false
    → find (names_option name words) (places_before (p + 1)) ≡ None
none_more name words p some before here =
    let test = names_option name words in
    ap (find test) (places_more p some) ∙ find-append test (places_before p) (p ∷ []) ∙ ap (λ o. option_or o (find test (p ∷ []))) before
    ∙ ap (λ (b : Bool). cond b (Some p) None) here

-- none stands before the place, and one there
pub first_there : (name : Text) (words : List Text) (p : ℕ) → 2 ≤ p → p < length words → find (names_option name words) (places_before p) ≡ None
    → names_option name words p ≡ true → option_place name words ≡ Some p
first_there name words p some inside before here =
    let test = names_option name words in
    let n = length words - p in
    let long : n ≡ suc (n - 1) = omega arith in
    ap (find test) (places_parts p (length words) some (omega arith)) ∙ find-append test (places_before p) (range_with_len p n)
    ∙ ap (λ o. option_or o (find test (range_with_len p n))) before
    ∙ ap (λ k. find test (range_with_len p k)) long ∙ ap (λ (b : Bool). cond b (Some p) (find test (range_with_len (p + 1) (n - 1)))) here

not_trailing : (a b : Bool) → (a || b) ≡ false → a ≡ false
not_trailing true b e = e
not_trailing false b e = refl

-- where no `--` stands before the place, none stands before the one before it
pub trailing_less : (words : List Text) (p : ℕ) → 2 < p → is_trailing words p ≡ false → is_trailing words (p - 1) ≡ false
trailing_less words p some e =
    let same : p - 1 + 1 ≡ p = omega arith in
    not_trailing (is_trailing words (p - 1)) (is_dashes (word_at words (p - 1)))
    (sym (trailing_more words (p - 1) (omega arith)) ∙ ap (is_trailing words) same ∙ e)

-- the word at the place is neither `--` nor an option: it is a value of its own, but for an option's
pub own_word : (words : List Text) (p : ℕ) → 2 < p → is_trailing words p ≡ false → is_dashes (word_at words p) ≡ false
    → is_some (long_of (word_at words p)) ≡ false
    → not (lacks_value (long_of (word_at words (p - 1)))) ≡ is_positional words p
own_word words p some free dashes none =
    let before : is_trailing words (p - 1) ≡ false = trailing_less words p some free in
    let behind : nat_lt 2 p ≡ true = grind (arith, nat_tests) in
    rw (free, dashes, before, none, behind) refl

-- what was mapped from nothing is nothing
pub none_mapped : {X Y : Type 0} (f : X → Y) (o : Option X) (p : Option Y) → option_map f o ≡ p → is_some o ≡ false → is_some p ≡ false
none_mapped f None p e none = ap is_some (sym e)
none_mapped f (Some x) p e none = cc

-- where a place has the option, or is told to have none
pub is_named : (name : Text) (words : List Text) (p : ℕ) (value : Option Text) → option_at words p ≡ Some (name, value)
    → names_option name words p ≡ true
is_named name words p value is = ap (λ o. option_map_or (λ (q : Text × Option Text). bytes_eq q.0 name) o false) is
    ∙ (bytes_eq-Decides name name).1 refl
