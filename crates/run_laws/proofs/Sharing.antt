-- What a lane gets of a file, in pieces, and where a submission lies in it.
use Rattle.std.proofs.Common.{◌≡◌, ℕ, suc, ◌+◌, ◌-◌, ◌%◌, ◌<◌, Bool, true, false, cond, ◌==◌, nat_lt, if◌then◌else◌, List, [], ◌∷◌, ◌++◌, map}
use Rattle.std.proofs.Common.{reverse, length, take, drop, Some, refl, sym, ap, ◌∙◌, arith, append_assoc}
use Rattle.std.specs.List.{filter}
use Rattle.std.proofs.lemmas.List.{map-append, reverse-append, take-append-drop, length-append}
use Rattle.std.proofs.lemmas.List.Elements.{filter-append}
use Rattle.cbdc_model.specs.Records.{Digest, Batch, Compact, Record, Prepare}
use Rattle.cbdc_model.specs.Status.{has}
use Rattle.cbdc_model.specs.Coins.{FullTx, compact}
use Rattle.cbdc_model.specs.Waves.{share, IsCut, prepared}
use Rattle.cbdc_model.specs.Places.{Sized, sized_before, sized_onto, place_of}

-- no transaction of the list spends the hash
abbrev pub AllLack : Digest → List Compact → Type 0
AllLack x [] = Unit {0}
AllLack x (t ∷ ts) = (has t.inputs x ≡ false) × AllLack x ts

pub lack_both : (x : Digest) (A B : List Compact) → AllLack x (A ++ B) → AllLack x A × AllLack x B
lack_both x [] B h = (tt, h)
lack_both x (t ∷ A) B h = let r = lack_both x A B h.1 in ((h.0, r.0), r.1)

pub lack_append : (x : Digest) (A B : List Compact) → AllLack x A → AllLack x B → AllLack x (A ++ B)
lack_append x [] B a b = b
lack_append x (t ∷ A) B a b = (a.0, lack_append x A B a.1 b)

-- what a lane gets of a part of a file whose first place is k
abbrev pub got : (FullTx → Bool) → ℕ → ℕ → ℕ → List FullTx → List Compact
got sound n lane k file = map compact (filter sound (share n lane k file))

moved : (k m : ℕ) → suc k + m ≡ k + suc m
moved k m = omega arith

share-append : {A : Type 0} (n lane k : ℕ) (xs ys : List A) → share n lane k (xs ++ ys) ≡ share n lane k xs ++ share n lane (k + length xs) ys
share-append n lane k [] ys = ap (λ m. share n lane m ys) (omega arith)
share-append n lane k (x ∷ xs) ys =
    let rest : share n lane (suc k) (xs ++ ys) ≡ share n lane (suc k) xs ++ share n lane (k + length (x ∷ xs)) ys
    = share-append n lane (suc k) xs ys ∙ ap (λ m. share n lane (suc k) xs ++ share n lane m ys) (moved k (length xs)) in
    elim (k % n == lane)
    as (λ c. (if c then x ∷ share n lane (suc k) (xs ++ ys) else share n lane (suc k) (xs ++ ys))
    ≡ (if c then x ∷ share n lane (suc k) xs else share n lane (suc k) xs) ++ share n lane (k + length (x ∷ xs)) ys) [
      | true ↦ ap (λ l. x ∷ l) rest
      | false ↦ rest
    ]

pub got-append : (sound : FullTx → Bool) (n lane k : ℕ) (xs ys : List FullTx)
    → got sound n lane k (xs ++ ys) ≡ got sound n lane k xs ++ got sound n lane (k + length xs) ys
got-append sound n lane k xs ys =
    ap (λ l. map compact (filter sound l)) (share-append n lane k xs ys)
    ∙ ap (map compact) (filter-append sound (share n lane k xs) (share n lane (k + length xs) ys))
    ∙ map-append compact (filter sound (share n lane k xs)) (filter sound (share n lane (k + length xs) ys))

-- the submission itself goes to its lane alone
pub got_here : (sound : FullTx → Bool) (n lane k : ℕ) (t : FullTx) (ts : List FullTx) → sound t ≡ true → (k % n == lane) ≡ true
    → got sound n lane k (t ∷ ts) ≡ compact t ∷ got sound n lane (suc k) ts
got_here sound n lane k t ts s e =
    ap (λ c. map compact (filter sound (if c then t ∷ share n lane (suc k) ts else share n lane (suc k) ts))) e
    ∙ ap (λ c. map compact (cond c (t ∷ filter sound (share n lane (suc k) ts)) (filter sound (share n lane (suc k) ts)))) s

pub got_elsewhere : (sound : FullTx → Bool) (n lane k : ℕ) (t : FullTx) (ts : List FullTx) → (k % n == lane) ≡ false
    → got sound n lane k (t ∷ ts) ≡ got sound n lane (suc k) ts
got_elsewhere sound n lane k t ts e = ap (λ c. map compact (filter sound (if c then t ∷ share n lane (suc k) ts else share n lane (suc k) ts))) e

-- those of the others that a lane gets lack the hash
abbrev pub EachLacks : (FullTx → Bool) → Digest → List FullTx → Type 0
EachLacks sound x [] = Unit {0}
EachLacks sound x (u ∷ us) = (sound u ≡ true → has (compact u).inputs x ≡ false) × EachLacks sound x us

pub each_both : (sound : FullTx → Bool) (x : Digest) (us vs : List FullTx) → EachLacks sound x (us ++ vs)
    → EachLacks sound x us × EachLacks sound x vs
each_both sound x [] vs h = (tt, h)
each_both sound x (u ∷ us) vs h = let r = each_both sound x us vs h.1 in ((h.0, r.0), r.1)

pub got_lack : (sound : FullTx → Bool) (x : Digest) (n lane k : ℕ) (us : List FullTx) → EachLacks sound x us → AllLack x (got sound n lane k us)
got_lack sound x n lane k [] h = tt
got_lack sound x n lane k (u ∷ us) h =
    let rest : AllLack x (got sound n lane (suc k) us) = got_lack sound x n lane (suc k) us h.1 in
    elim (k % n == lane) as (λ c. AllLack x (map compact (filter sound (if c then u ∷ share n lane (suc k) us else share n lane (suc k) us)))) [
      | true ↦ elim (sound u) as (λ s. sound u ≡ s
          → AllLack x (map compact (cond s (u ∷ filter sound (share n lane (suc k) us)) (filter sound (share n lane (suc k) us))))) [
            | true ↦ λ s. (h.0 s, rest)
            | false ↦ λ s. rest
          ] refl
      | false ↦ rest
    ]

-- lists joined
abbrev pub joined : {A : Type 0} → List (List A) → List A
joined [] = []
joined (p ∷ ps) = p ++ joined ps

pub cut_joined : {A : Type 0} (n : ℕ) (xs : List A) (pieces : List (List A)) → IsCut n xs pieces → joined pieces ≡ xs
cut_joined n xs [] c = sym c
cut_joined n xs (piece ∷ pieces) c = ap (λ p. p ++ joined pieces) c.1 ∙ ap (λ r. take n xs ++ r) (cut_joined n (drop n xs) pieces c.2)
    ∙ take-append-drop n xs

-- a new Prepare of the lane: its batch and its transactions
abbrev pub Told : Type 0
Told = Batch × List Compact

abbrev pub told_before : ℕ → Record → List Told → List Told
told_before lane (Prepare stamp b txs) others = if b.lane == lane then (b, txs) ∷ others else others
told_before lane other others = others

-- the newest first
abbrev pub told_in : ℕ → List Record → List Told
told_in lane [] = []
told_in lane (r ∷ more) = told_before lane r (told_in lane more)

abbrev pub txs_all : List Told → List (List Compact)
txs_all ts = map (λ t. t.1) ts

abbrev pub size_told : Told → Sized
size_told t = record { batch = t.0; size = length t.1 }

prepared_step : (lane : ℕ) (r : Record) (T : List Told) (P : List (List Compact)) (more old : List Record)
    → prepared lane (more ++ old) ≡ txs_all T ++ P → prepared lane (r ∷ (more ++ old)) ≡ txs_all (told_before lane r T) ++ P
prepared_step lane (Prepare stamp b txs) T P more old h = elim (b.lane == lane)
    as (λ c. (if c then txs ∷ prepared lane (more ++ old) else prepared lane (more ++ old)) ≡ txs_all (if c then (b, txs) ∷ T else T) ++ P) [
      | true ↦ ap (λ l. txs ∷ l) h
      | false ↦ h
    ]
prepared_step lane other T P more old h = h

pub prepared_told : (lane : ℕ) (more old : List Record) → prepared lane (more ++ old) ≡ txs_all (told_in lane more) ++ prepared lane old
prepared_told lane [] old = refl
prepared_told lane (r ∷ more) old = prepared_step lane r (told_in lane more) (prepared lane old) more old (prepared_told lane more old)

one_more : (T : List Told) (z : Told) (others : List Sized)
    → map size_told (reverse T) ++ size_told z ∷ others ≡ map size_told (reverse (z ∷ T)) ++ others
one_more T z others =
    sym (ap (λ l. map size_told l ++ others) (reverse-append (z ∷ []) T) ∙ ap (λ l. l ++ others) (map-append size_told (reverse T) (z ∷ []))
    ∙ append_assoc (map size_told (reverse T)) (size_told z ∷ []) others)

sized_step : (lane : ℕ) (r : Record) (others : List Sized) (T : List Told)
    → map size_told (reverse T) ++ sized_before lane r others ≡ map size_told (reverse (told_before lane r T)) ++ others
sized_step lane (Prepare stamp b txs) others T = elim (b.lane == lane)
    as (λ c. map size_told (reverse T) ++ (if c then size_told (b, txs) ∷ others else others)
    ≡ map size_told (reverse (if c then (b, txs) ∷ T else T)) ++ others) [
      | true ↦ one_more T (b, txs) others
      | false ↦ refl
    ]
sized_step lane other others T = refl

pub sized_told : (lane : ℕ) (more : List Record) (others : List Sized)
    → sized_onto lane more others ≡ map size_told (reverse (told_in lane more)) ++ others
sized_told lane [] others = refl
sized_told lane (r ∷ more) others = sized_told lane more (sized_before lane r others) ∙ sized_step lane r others (told_in lane more)

-- where an element lies in one of two lists joined
pub data InTwo (p rest A : List Compact) (y : Compact) (B : List Compact) : Type 0 where
  in_first : (P : List Compact) → p ≡ A ++ y ∷ P → B ≡ P ++ rest → InTwo p rest A y B
  in_rest : (A' : List Compact) → A ≡ p ++ A' → rest ≡ A' ++ y ∷ B → InTwo p rest A y B

heads : (x y : Compact) (xs ys : List Compact) → x ∷ xs ≡ y ∷ ys → (x ≡ y) × (xs ≡ ys)
heads x y xs ys e = (cc, cc)

in_two : (p rest A : List Compact) (y : Compact) (B : List Compact) → p ++ rest ≡ A ++ y ∷ B → InTwo p rest A y B
in_two [] rest A y B e = in_rest A refl e
in_two (z ∷ p) rest [] y B e =
    let h = heads z y (p ++ rest) B e in
    in_first p (ap (λ x. x ∷ p) h.0) (sym h.1)
in_two (z ∷ p) rest (a ∷ A) y B e =
    let h = heads z a (p ++ rest) (A ++ y ∷ B) e in
    elim (in_two p rest A y B h.1) [
      | in_first P e f ↦ in_first P (λ i. h.0 i ∷ e i) f
      | in_rest A' e f ↦ in_rest A' (λ i. sym h.0 i ∷ e i) f
    ]

-- where a transaction lies in the pieces
pub record LiesIn (T : List Told) (A : List Compact) (y : Compact) (B : List Compact) : Type 0 where
  pub front : List Told
  pub batch : Batch
  pub first : List Compact
  pub last : List Compact
  pub back : List Told
  pub parts : T ≡ front ++ (batch, first ++ y ∷ last) ∷ back
  pub before : A ≡ joined (txs_all front) ++ first
  pub behind : B ≡ last ++ joined (txs_all back)

pub lies_in : (T : List Told) (A : List Compact) (y : Compact) (B : List Compact) → joined (txs_all T) ≡ A ++ y ∷ B → LiesIn T A y B
lies_in [] A y B e = absurd (nothing A e)
  where
    nothing : (A : List Compact) → [] ≡ A ++ y ∷ B → ⊥
    nothing [] e = let z : [] ≡ y ∷ B = e in cc
    nothing (a ∷ A) e = let z : [] ≡ a ∷ (A ++ y ∷ B) = e in cc
lies_in ((b, p) ∷ T) A y B e = elim (in_two p (joined (txs_all T)) A y B e) [
  | in_first P f g ↦ record { front = []; batch = b; first = A; last = P; back = T; parts = ap (λ q. (b, q) ∷ T) f; before = refl; behind = g }
  | in_rest A' f g ↦
      let l = lies_in T A' y B g in
      record {
        front = (b, p) ∷ l.front;
        batch = l.batch;
        first = l.first;
        last = l.last;
        back = l.back;
        parts = ap (λ t. (b, p) ∷ t) l.parts;
        before = f ∙ ap (λ a. p ++ a) l.before ∙ sym (append_assoc p (joined (txs_all l.front)) l.first);
        behind = l.behind;
      }
]

-- and so its place
place_here : (z : Sized) (rest : List Sized) (q : ℕ) → q < z.size → place_of (z ∷ rest) q ≡ Some (record { batch = z.batch; at = q })
place_here z rest q lt = ap (λ c. if c then Some (record { batch = z.batch; at = q }) else place_of rest (q - z.size)) below
  where
    below : nat_lt q z.size ≡ true
    below = grind (arith, lt)

place_later : (z : Sized) (rest : List Sized) (q : ℕ) → place_of (z ∷ rest) (z.size + q) ≡ place_of rest q
place_later z rest q =
    ap (λ c. if c then Some (record { batch = z.batch; at = z.size + q }) else place_of rest (z.size + q - z.size)) past ∙ ap (place_of rest) back
  where
    past : nat_lt (z.size + q) z.size ≡ false
    past = grind arith

    back : z.size + q - z.size ≡ q
    back = omega arith

pub place_found : (front : List Told) (b : Batch) (p : List Compact) (back : List Told) (q m : ℕ) → q < length p
    → m ≡ length (joined (txs_all front)) + q
    → place_of (map size_told (front ++ (b, p) ∷ back)) m ≡ Some (record { batch = b; at = q })
place_found [] b p back q m lt e = ap (place_of (map size_told ((b, p) ∷ back))) (omega (arith, e))
    ∙ place_here (size_told (b, p)) (map size_told back) q lt
place_found ((c, o) ∷ front) b p back q m lt e =
    ap (place_of (map size_told ((c, o) ∷ (front ++ (b, p) ∷ back)))) (omega (arith, e, length-append o (joined (txs_all front))))
    ∙ place_later (size_told (c, o)) (map size_told (front ++ (b, p) ∷ back)) (length (joined (txs_all front)) + q)
    ∙ place_found front b p back q (length (joined (txs_all front)) + q) lt refl
