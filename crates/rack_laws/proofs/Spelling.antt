-- What the bytes of a verdict file's line spell.
use Rattle.std.proofs.Common.{rules, arith, ◌≡◌, ◌≢◌, ℕ, zero, suc, ◌+◌, ◌<◌, ◌^◌, ◌%◌, ◌/◌, Bool, true, false, List, [], ◌∷◌, ◌++◌, length, decimal}
use Rattle.std.proofs.Common.{Ok, refl, sym, ◌∙◌, ap, append_assoc, get_or}
use Rattle.std.specs.List.{AllByRecursion}
use Rattle.std.proofs.lemmas.Fmt.{decimal_injective, decimal_by_steps}
use Rattle.hex.specs.Hex.{encode_lower, encode_with, lower_digits, decode_sized}
use Rattle.hex.proofs.HexLemmas.{decode_sized-encode_lower}
use Rattle.sentinel.specs.Lines.{Line, IsLine, HasNoLineEnd, spelled, word}

-- bytes without one byte
abbrev Free : ℕ → List ℕ → Type 0
Free c bytes = AllByRecursion (λ b. b ≢ c) bytes

free_both : (c : ℕ) (a b : List ℕ) → Free c a → Free c b → Free c (a ++ b)
free_both c [] b one other = other
free_both c (x ∷ a) b one other = (one.0, free_both c a b one.1 other)

-- where a byte ends the part before it, the part is one
pub first_part : (c : ℕ) (s t a b : List ℕ) → Free c s → Free c t → s ++ c ∷ a ≡ t ++ c ∷ b → (s ≡ t) × (a ≡ b)
first_part c [] [] a b one other is = (refl, cc is)
first_part c [] (y ∷ t) a b one other is = absurd (other.0 (cc is))
first_part c (x ∷ s) [] a b one other is = absurd (one.0 (cc is))
first_part c (x ∷ s) (y ∷ t) a b one other is =
    let head : x ≡ y = cc is in
    let tail : s ++ c ∷ a ≡ t ++ c ∷ b = cc is in
    let rest = first_part c s t a b one.1 other.1 tail in
    (λ i. head i ∷ rest.0 i, rest.1)

module _ (c : ℕ) (some : 0 < c) (low : c < 48) (digits : Free c lower_digits) where
  not_there : (t : List ℕ) → Free c t → (k : ℕ) → get_or t k 0 ≢ c
  not_there [] free k at = let bad : 0 ≡ c = at in omega (arith, some, bad)
  not_there (x ∷ t) free zero at = free.0 at
  not_there (x ∷ t) free (suc k) at = not_there t free.1 k at

  hex_free : (bytes : List ℕ) → Free c (encode_with lower_digits bytes)
  unfolding encode_with
  hex_free [] = tt
  hex_free (b ∷ bytes) = (not_there lower_digits digits (b / 16), (not_there lower_digits digits (b % 16), hex_free bytes))

  decimal_free : (n : ℕ) → n < 2 ^ 64 → Free c (decimal n)
  decimal_free = decimal_by_steps (λ n ds. Free c ds) (λ n small. (λ is. omega (arith, low, is), tt))
      (λ n ds large is. free_both c ds ((48 + n % 10) ∷ []) is (λ same. omega (arith, low, same), tt))

feeds : Free 10 lower_digits
feeds = search rules

spaces : Free 32 lower_digits
spaces = search rules

word_free : (good : Bool) → Free 10 (32 ∷ word good)
word_free true = search rules
word_free false = search rules

-- a line has no line feed
pub line_free : (l : Line) → IsLine l → HasNoLineEnd (spelled l)
line_free l is =
    let small : l.index < 2 ^ 64 = omega (arith, is.place) in
    free_both 10 (encode_lower l.tx ++ 32 ∷ decimal l.index) (32 ∷ word l.good)
    (free_both 10 (encode_lower l.tx) (32 ∷ decimal l.index) (hex_free 10 (omega arith) (omega arith) feeds l.tx)
    (λ is. omega (arith, is), decimal_free 10 (omega arith) (omega arith) feeds l.index small))
    (word_free l.good)

same_word : (g h : Bool) → word g ≡ word h → g ≡ h
same_word true true is = refl
same_word false false is = refl
same_word true false is = absurd (omega (arith, ap length is))
same_word false true is = absurd (omega (arith, ap length is))

same_id : (t u : List ℕ) → decode_sized (encode_lower t) 32 ≡ Ok t → decode_sized (encode_lower u) 32 ≡ Ok u → encode_lower t ≡ encode_lower u → t ≡ u
same_id t u one two is = cc (one, two, ap (λ (s : List ℕ). decode_sized s 32) is)

-- and spells nothing else
pub spelled_once : (l k : Line) → IsLine l → IsLine k → spelled l ≡ spelled k → l ≡ k
spelled_once l k is are same =
    let whole : encode_lower l.tx ++ 32 ∷ (decimal l.index ++ 32 ∷ word l.good) ≡ encode_lower k.tx ++ 32 ∷ (decimal k.index ++ 32 ∷ word k.good)
    = sym (append_assoc (encode_lower l.tx) (32 ∷ decimal l.index) (32 ∷ word l.good)) ∙ same
    ∙ append_assoc (encode_lower k.tx) (32 ∷ decimal k.index) (32 ∷ word k.good) in
    let first = first_part 32 (encode_lower l.tx) (encode_lower k.tx) (decimal l.index ++ 32 ∷ word l.good) (decimal k.index ++ 32 ∷ word k.good)
    (hex_free 32 (omega arith) (omega arith) spaces l.tx) (hex_free 32 (omega arith) (omega arith) spaces k.tx) whole in
    let small : l.index < 2 ^ 64 = omega (arith, is.place) in
    let also : k.index < 2 ^ 64 = omega (arith, are.place) in
    let second = first_part 32 (decimal l.index) (decimal k.index) (word l.good) (word k.good)
    (decimal_free 32 (omega arith) (omega arith) spaces l.index small) (decimal_free 32 (omega arith) (omega arith) spaces k.index also) first.1
    in
    let ids : l.tx ≡ k.tx = same_id l.tx k.tx (decode_sized-encode_lower l.tx 32 is.size is.bytes)
    (decode_sized-encode_lower k.tx 32 are.size are.bytes) first.0 in
    let places : l.index ≡ k.index = decimal_injective l.index k.index small also second.0 in
    let words : l.good ≡ k.good = same_word l.good k.good second.1 in
    λ i. record { tx = ids i; index = places i; good = words i }
