-- What the parts of a line spell.
use Rattle.std.proofs.Common.{arith, ◌≡◌, ℕ, Bool, true, false, List, ◌∷◌, ◌++◌, length, take, drop, codes, get_or, Result, Ok, Err, refl, sym, ◌∙◌}
use Rattle.std.proofs.Common.{ap, subst, reverse}
use Rattle.std.specs.Prelude.{MatchResult, is_err}
use Rattle.std.proofs.lemmas.List.{append_cancel_right, reverse-append}
use Rattle.std.proofs.Math.Seq.{take-append_seam, drop-append_seam}
use Rattle.hex.specs.Hex.{encode_lower, IsBytes, decode_sized, lower_digits}
use Rattle.hex.specs.declared.error.FromHexError.{FromHexError}
use Rattle.hex.proofs.HexLemmas.{decode_sized-encode_lower, decode_sized-twice, decode_sized-ok, decode_of-ok, length-encode_with}
use Rattle.sentinel.specs.Lines.{word}

-- ---- ids

abbrev pub Decoded : Result (List ℕ) FromHexError → Result (Unit {0}) FromHexError → List ℕ → Type 0
Decoded d r out = MatchResult d (λ bytes. (r ≡ Ok tt) × (out ≡ bytes)) (λ e. r ≡ Err e)

decoded_to : (d : Result (List ℕ) FromHexError) (r : Result (Unit {0}) FromHexError) (out tx : List ℕ) → Decoded d r out → d ≡ Ok tx
    → (r ≡ Ok tt) × (out ≡ tx)
decoded_to (Ok bytes) r out tx h is = (h.0, cc)
decoded_to (Err e) r out tx h is = absurd (cc)

-- digits that spell an id are decoded to it
pub decoded_id : (digits : List ℕ) (r : Result (Unit {0}) FromHexError) (out tx : List ℕ) → Decoded (decode_sized digits 32) r out → length tx ≡ 32
    → IsBytes tx → digits ≡ encode_lower tx → (r ≡ Ok tt) × (out ≡ tx)
decoded_id digits r out tx h size bytes is = decoded_to (decode_sized digits 32) r out tx h
    (ap (λ (s : List ℕ). decode_sized s 32) is ∙ decode_sized-encode_lower tx 32 size bytes)

decoded_bytes : (digits : List ℕ) (d : Result (List ℕ) FromHexError) (r : Result (Unit {0}) FromHexError) (out : List ℕ) → decode_sized digits 32 ≡ d
    → Decoded d r out → is_err r ≡ false → IsBytes out
decoded_bytes digits (Ok bytes) r out is h ok =
    let size = decode_sized-ok digits 32 bytes is in
    subst IsBytes (sym h.1) (decode_of-ok digits bytes (sym (decode_sized-twice digits 32 size) ∙ is)).3
decoded_bytes digits (Err e) r out is h ok = absurd (let bad = rw h at ok in cc)

pub id_bytes : (digits : List ℕ) (r : Result (Unit {0}) FromHexError) (out : List ℕ) → Decoded (decode_sized digits 32) r out → is_err r ≡ false
    → IsBytes out
id_bytes digits r out h ok = decoded_bytes digits (decode_sized digits 32) r out refl h ok

-- ---- the words at the end

other_words : (a b : List ℕ) → a ++ codes " good" ≡ b ++ codes " bad" → ⊥
other_words a b is =
    let back : codes "doog " ++ reverse a ≡ codes "dab " ++ reverse b =
    sym (reverse-append a (codes " good")) ∙ ap reverse is ∙ reverse-append b (codes " bad") in
    let letter : 111 ≡ 97 = ap (λ (xs : List ℕ). get_or xs 1 0) back in
    omega (arith, letter)

pub same_front : (a b : List ℕ) (g h : Bool) → a ++ 32 ∷ word g ≡ b ++ 32 ∷ word h → a ≡ b
same_front a b true true is = append_cancel_right a b (codes " good") is
same_front a b false false is = append_cancel_right a b (codes " bad") is
same_front a b true false is = absurd (other_words a b is)
same_front a b false true is = absurd (other_words b a (sym is))

-- ---- fronts

pub front_parts : (enc rest front : List ℕ) → length enc ≡ 64 → front ≡ enc ++ rest → (take 64 front ≡ enc) × (drop 64 front ≡ rest)
front_parts enc rest front size is = (
  ap (take 64) is ∙ subst (λ (n : ℕ). take n (enc ++ rest) ≡ enc) size (take-append_seam enc rest),
  ap (drop 64) is ∙ subst (λ (n : ℕ). drop n (enc ++ rest) ≡ rest) size (drop-append_seam enc rest),
)

pub id_size : (tx : List ℕ) → length tx ≡ 32 → length (encode_lower tx) ≡ 64
id_size tx size = omega (arith, length-encode_with lower_digits tx)
