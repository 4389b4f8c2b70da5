-- A list is cut into pieces in one way.
use Rattle.std.proofs.Common.{◌≡◌, ◌↔◌, Bool, inl, inr, ℕ, ◌<◌, List, [], ◌∷◌, ◌++◌, zero, suc, ◌≤◌, min, take, drop, length, reverse, refl, sym, ap}
use Rattle.std.proofs.Common.{◌∙◌, subst, arith, append-nil, append_assoc}
use Rattle.std.proofs.lemmas.Bool.{cases_lt}
use Rattle.std.proofs.lemmas.Grind.{common_steps}
use Rattle.std.proofs.lemmas.List.{take_min}
use Rattle.std.specs.Prelude.{IsTrue}
use Rattle.cbdc_model.specs.Records.{Shape, Compact, Record}
use Rattle.cbdc_model.specs.Waves.{IsCut, prepared}
use Rattle.plain_check.specs.Adding.{PreparesInPieces, AddsPieces}

taken_none : {A : Type 0} (n : ℕ) (none : List A) → none ≡ [] → length (take n none) ≡ 0
taken_none n none e = grind (arith, common_steps, e)

none_taken : {A : Type 0} (n : ℕ) (xs piece : List A) → xs ≡ [] → 0 < length piece → piece ≡ take n xs → ⊥
none_taken n xs piece e some is =
    let short : length piece ≡ 0 = ap length is ∙ taken_none n xs e in
    absurd (omega arith)

pub cut_once : {A : Type 0} (n : ℕ) (xs : List A) (ps qs : List (List A)) → IsCut n xs ps → IsCut n xs qs → ps ≡ qs
cut_once n xs [] [] p q = refl
cut_once n xs [] (b ∷ qs) p q = absurd (none_taken n xs b p q.0 q.1)
cut_once n xs (a ∷ ps) [] p q = absurd (none_taken n xs a q p.0 p.1)
cut_once n xs (a ∷ ps) (b ∷ qs) p q =
    let first : a ≡ b = p.1 ∙ sym q.1 in
    let rest : ps ≡ qs = cut_once n (drop n xs) ps qs p.2 q.2 in
    λ i. first i ∷ rest i

-- a lane prepared what it got where its Prepares are the pieces behind the older ones
pub prepared_by : (K : Shape) (lane n : ℕ) (sent : List Compact) (old new : List Record) (pieces found wanted : List (List Compact)) (told : Bool)
    → n ≡ K.batch → IsCut n sent pieces
    → found ≡ prepared lane new → wanted ≡ reverse pieces ++ prepared lane old → (IsTrue told ↔ (found ≡ wanted))
    → IsTrue told ↔ PreparesInPieces K lane sent old new
prepared_by K lane n sent old new pieces found wanted told size cut f w h =
    let own : IsCut K.batch sent pieces = subst (λ k. IsCut k sent pieces) size cut in (
      λ t. (pieces, own, sym f ∙ h.0 t ∙ w),
      λ p. h.1 (f ∙ p.2 ∙ ap (λ l. reverse l ++ prepared lane old) (cut_once K.batch sent p.0 pieces p.1 own) ∙ sym w),
    )

-- the same of lists that are the same
pub prepared_alike : (K : Shape) (lane : ℕ) (sent sent' : List Compact) (old old' new new' : List Record) → sent ≡ sent' → old ≡ old' → new ≡ new'
    → PreparesInPieces K lane sent old new → PreparesInPieces K lane sent' old' new'
prepared_alike K lane sent sent' old old' new new' s o n h =
    subst (λ l. PreparesInPieces K lane sent' old' l) n
    (subst (λ l. PreparesInPieces K lane sent' l new) o (subst (λ l. PreparesInPieces K lane l old new) s h))

-- one piece after another
pub no_pieces : (n : ℕ) (txs : List Compact) (old : List (List Compact)) → txs ≡ [] → AddsPieces n txs old old
no_pieces n txs old e = ([], e, sym (append-nil old))

pub more_pieces : (n : ℕ) (txs piece rest : List Compact) (old mid new : List (List Compact)) → 0 < length piece → piece ≡ take n txs
    → rest ≡ drop n txs
    → mid ≡ old ++ piece ∷ [] → AddsPieces n rest mid new → AddsPieces n txs old new
more_pieces n txs piece rest old mid new some e f m later = (
  piece ∷ later.0,
  (some, e, subst (λ l. IsCut n l later.0) f later.1),
  later.2 ∙ ap (λ l. l ++ later.0) m ∙ append_assoc old (piece ∷ []) later.0,
)

-- a front that is no longer than the list, and what is behind it
pub front_is : (n k : ℕ) (txs piece : List Compact) → k ≡ min n (length txs) → piece ≡ take k txs → piece ≡ take n txs
front_is n k txs piece e f = f ∙ ap (λ i. take i txs) e ∙ take_min n txs

drop_past : (n : ℕ) (txs : List Compact) → length txs ≤ n → drop n txs ≡ drop (length txs) txs
drop_past n [] h = nothing n
  where
    nothing : (n : ℕ) → drop {A = Compact} n [] ≡ drop {A = Compact} 0 []
    nothing zero = refl
    nothing (suc n) = refl
drop_past zero (t ∷ txs) h = absurd (omega arith)
drop_past (suc n) (t ∷ txs) h = drop_past n txs (omega arith)

pub back_is : (n k : ℕ) (txs rest : List Compact) → k ≡ min n (length txs) → rest ≡ drop k txs → rest ≡ drop n txs
back_is n k txs rest e f = elim (cases_lt n (length txs)) [
  | inl lt ↦ f ∙ ap (λ i. drop i txs) (e ∙ small lt)
  | inr le ↦ f ∙ ap (λ i. drop i txs) (e ∙ large le) ∙ sym (drop_past n txs le)
]
  where
    small : n < length txs → min n (length txs) ≡ n
    small lt = omega arith

    large : length txs ≤ n → min n (length txs) ≡ length txs
    large le = omega arith
