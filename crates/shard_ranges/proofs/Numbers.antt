-- The concerned shards among all.
use Rattle.std.proofs.Common.{◌≡◌, ◌≢◌, ℕ, zero, suc, ◌+◌, ◌<◌, ◌≤◌, Bool, true, false, ◌&&◌, ◌==◌, not, nat_lt, List, [], ◌∷◌, ◌++◌, length, Some}
use Rattle.std.proofs.Common.{slice_get, refl, sym, ap, ◌∙◌, subst, arith, cond}
use Rattle.std.proofs.lemmas.Bool.Decides.{nat_tests}
use Rattle.std.proofs.lemmas.List.{append-nil}
use Rattle.std.specs.Global.{Vec}
use Rattle.cbdc_model.specs.Records.{Compact, Entry, Shape}
use Rattle.cbdc_model.specs.Ranges.{part, is_no_part}
use Rattle.shard_ranges.specs.Parts.{AllAbove, IsRising, NotAmong, Every, IsPart, AreParts, AreSplit, is_concerned, numbered, shard}

-- the parts from shard n on
abbrev AreFrom : Shape → List Compact → ℕ → List (Vec Entry) → Type 0
AreFrom K txs n ps = (s : ℕ) (p : Vec Entry) → slice_get ps s ≡ Some p → p.items ≡ part K (n + s) 0 txs

next_from : (K : Shape) (txs : List Compact) (n : ℕ) (p : Vec Entry) (ps : List (Vec Entry)) → AreFrom K txs n (p ∷ ps) → AreFrom K txs (suc n) ps
next_from K txs n p ps from s q g =
    let e : n + suc s ≡ suc n + s = omega arith in
    subst (λ (k : ℕ). q.items ≡ part K k 0 txs) e (from (suc s) q g)

first_from : (K : Shape) (txs : List Compact) (n : ℕ) (p : Vec Entry) (ps : List (Vec Entry)) → AreFrom K txs n (p ∷ ps) → p.items ≡ part K n 0 txs
first_from K txs n p ps from =
    let e : n + 0 ≡ n = omega arith in
    subst (λ (k : ℕ). p.items ≡ part K k 0 txs) e (from 0 p refl)

above_more : (n m : ℕ) (ps : List (Vec Entry)) → n < m → AllAbove shard n (numbered m ps)
above_more n m [] h = tt
above_more n m (p ∷ ps) h =
    elim (is_no_part p.items) as (λ c. AllAbove shard n (cond c (numbered (suc m) ps) ((m, p.items) ∷ numbered (suc m) ps))) [
      | true ↦ above_more n (suc m) ps (omega arith)
      | false ↦ (h, above_more n (suc m) ps (omega arith))
    ]

pub rising : (n : ℕ) (ps : List (Vec Entry)) → IsRising shard (numbered n ps)
rising n [] = tt
rising n (p ∷ ps) =
    elim (is_no_part p.items) as (λ c. IsRising shard (cond c (numbered (suc n) ps) ((n, p.items) ∷ numbered (suc n) ps))) [
      | true ↦ rising (suc n) ps
      | false ↦ (above_more n (suc n) ps (omega arith), rising (suc n) ps)
    ]

concerned_at : (K : Shape) (txs : List Compact) (n : ℕ) (es : List Entry) → n < K.shards → es ≡ part K n 0 txs → is_no_part es ≡ false
    → is_concerned K txs n ≡ true
concerned_at K txs n es lt e some =
    let within : nat_lt n K.shards ≡ true = grind (arith, nat_tests) in
    let full : is_no_part (part K n 0 txs) ≡ false = ap is_no_part (sym e) ∙ some in
    rw (within, full) refl

pub every : (K : Shape) (txs : List Compact) (n : ℕ) (ps : List (Vec Entry)) → n + length ps ≤ K.shards → AreFrom K txs n ps
    → Every (IsPart K txs) (numbered n ps)
every K txs n [] le from = tt
every K txs n (p ∷ ps) le from =
    let here = first_from K txs n p ps from in
    let rest = every K txs (suc n) ps (omega arith) (next_from K txs n p ps from) in
    elim (is_no_part p.items) as (λ c. is_no_part p.items ≡ c
    → Every (IsPart K txs) (cond c (numbered (suc n) ps) ((n, p.items) ∷ numbered (suc n) ps))) [
      | true ↦ λ _. rest
      | false ↦ λ some. ((concerned_at K txs n p.items (omega arith) here some, here), rest)
    ] refl

-- a shard that is not among them has no part
pub not_among : (K : Shape) (txs : List Compact) (n : ℕ) (ps : List (Vec Entry)) (s : ℕ) → n ≤ s → s < n + length ps → AreFrom K txs n ps
    → NotAmong shard (numbered n ps) s → is_no_part (part K s 0 txs) ≡ true
not_among K txs n [] s le lt from out = absurd (omega arith)
not_among K txs n (p ∷ ps) s le lt from out =
    let here = first_from K txs n p ps from in
    let later = next_from K txs n p ps from in
    elim (n == s) as (λ c. (n == s) ≡ c → is_no_part (part K s 0 txs) ≡ true) [
      | true ↦ λ t.
          let same : n ≡ s = grind (arith, nat_tests) in
          elim (is_no_part p.items) as (λ c. is_no_part p.items ≡ c
          → NotAmong shard (cond c (numbered (suc n) ps) ((n, p.items) ∷ numbered (suc n) ps)) s → is_no_part (part K s 0 txs) ≡ true) [
            | true ↦ λ none _. subst (λ (k : ℕ). is_no_part (part K k 0 txs) ≡ true) same (ap is_no_part (sym here) ∙ none)
            | false ↦ λ _ o. let apart = o.0 in cc
          ] refl out
      | false ↦ λ f.
          let apart : n ≢ s = grind (arith, nat_tests) in
          elim (is_no_part p.items) as (λ c. NotAmong shard (cond c (numbered (suc n) ps) ((n, p.items) ∷ numbered (suc n) ps)) s
          → is_no_part (part K s 0 txs) ≡ true) [
            | true ↦ λ o. not_among K txs (suc n) ps s (omega arith) (omega arith) later o
            | false ↦ λ o. not_among K txs (suc n) ps s (omega arith) (omega arith) later o.1
          ] out
    ] refl

concerned_parts : (a b : Bool) → (a && not b) ≡ true → (a ≡ true) × (b ≡ false)
concerned_parts true true e = absurd (cc)
concerned_parts true false e = (refl, refl)
concerned_parts false b e = absurd (cc)

pub are_parts : (K : Shape) (txs : List Compact) (ps : List (Vec Entry)) → length ps ≡ K.shards → AreSplit K txs ps → AreParts K txs (numbered 0 ps)
are_parts K txs ps len split = record {
  every = every K txs 0 ps (omega arith) (λ s p g. rw (from_zero s) (split s p g));
  rising = rising 0 ps;
  covers = λ s c out.
      let both = concerned_parts (nat_lt s K.shards) (is_no_part (part K s 0 txs)) c in
      let within : nat_lt s K.shards ≡ true = both.0 in
      let below : s < K.shards = grind (arith, nat_tests) in
      let none = not_among K txs 0 ps s (omega arith) (omega arith) (λ k p g. rw (from_zero k) (split k p g)) out in
      let some = both.1 in
      absurd (cc);
} where
  from_zero : (s : ℕ) → 0 + s ≡ s
  from_zero s = omega arith

pub numbered-append : (n m : ℕ) (xs ys : List (Vec Entry)) → m ≡ n + length xs → numbered n (xs ++ ys) ≡ numbered n xs ++ numbered m ys
numbered-append n m [] ys e = let same : m ≡ n = omega arith in rw same refl
numbered-append n m (x ∷ xs) ys e =
    elim (is_no_part x.items) as (λ c. cond c (numbered (suc n) (xs ++ ys)) ((n, x.items) ∷ numbered (suc n) (xs ++ ys))
    ≡ cond c (numbered (suc n) xs) ((n, x.items) ∷ numbered (suc n) xs) ++ numbered m ys) [
      | true ↦ numbered-append (suc n) m xs ys (omega arith)
      | false ↦ ap (λ zs. (n, x.items) ∷ zs) (numbered-append (suc n) m xs ys (omega arith))
    ]

no_part_at : (es : List Entry) → length es ≡ 0 → is_no_part es ≡ true
no_part_at [] e = refl
no_part_at (x ∷ es) e = absurd (omega arith)

some_part_at : (es : List Entry) → length es ≢ 0 → is_no_part es ≡ false
some_part_at [] e = absurd (e refl)
some_part_at (x ∷ es) e = refl

pub kept_none : (n : ℕ) (p : Vec Entry) (found : List (ℕ × List Entry)) → p.len ≡ 0 → found ≡ found ++ numbered n (p ∷ [])
kept_none n p found e = let none = no_part_at p.items (sym p.ok.0 ∙ e) in rw none (sym (append-nil found))

pub kept_some : (n : ℕ) (p : Vec Entry) (found : List (ℕ × List Entry)) → p.len ≢ 0 → found ++ (n, p.items) ∷ [] ≡ found ++ numbered n (p ∷ [])
kept_some n p found e = let some = some_part_at p.items (λ z. e (p.ok.0 ∙ z)) in rw some refl

pub numbered_more : (n : ℕ) (xs : List (Vec Entry)) (x : Vec Entry) (old new : List (ℕ × List Entry)) → n ≡ length xs → old ≡ numbered 0 xs
    → new ≡ old ++ numbered n (x ∷ [])
    → new ≡ numbered 0 (xs ++ x ∷ [])
numbered_more n xs x old new e o h = h ∙ ap (λ zs. zs ++ numbered n (x ∷ [])) o ∙ sym (numbered-append 0 n xs (x ∷ []) (omega arith))

pub one_more_empty : (ps : List (Vec Entry)) (w : Vec Entry) → w.items ≡ [] → ((s : ℕ) (p : Vec Entry) → slice_get ps s ≡ Some p → p.items ≡ [])
    → (s : ℕ) (p : Vec Entry) → slice_get (ps ++ w ∷ []) s ≡ Some p → p.items ≡ []
one_more_empty [] w none all zero p g = let same : w ≡ p = (cc) in ap (λ (v : Vec Entry). v.items) (sym same) ∙ none
one_more_empty [] w none all (suc s) p g = cc
one_more_empty (q ∷ ps) w none all zero p g = all zero p g
one_more_empty (q ∷ ps) w none all (suc s) p g = one_more_empty ps w none (λ k. all (suc k)) s p g
