-- What of a file is still to go to a lane.
use Rattle.std.proofs.Common.{◌≡◌, ◌≢◌, ◌⊎◌, inl, inr, ℕ, zero, suc, ◌+◌, ◌*◌, ◌%◌, ◌<◌, ◌≤◌, Bool, true, false, ◌==◌, List, [], ◌∷◌, ◌++◌, length}
use Rattle.std.proofs.Common.{map, take, drop, if◌then◌else◌, refl, sym, ap, ◌∙◌, subst, arith}
use Rattle.std.specs.Prelude.{slice_get, Option, Some, None}
use Rattle.std.specs.List.{filter}
use Rattle.std.proofs.lemmas.Bool.Decides.{eqb_tells}
use Rattle.std.proofs.lemmas.List.Elements.{filter-append}
use Rattle.std.proofs.lemmas.List.{map-append, drop-drop, drop_all, take-append-drop, length-take-le}
use Rattle.std.proofs.lemmas.Nat.{mod-mul-add}
use Rattle.cbdc_model.specs.Records.{Shape, Compact}
use Rattle.cbdc_model.specs.Coins.{FullTx, compact}
use Rattle.cbdc_model.specs.Waves.{share, sent_to}

turned : (n q r : ℕ) → n * q + r ≡ q * n + r
turned n q r = omega arith

pub none_and : (m i : ℕ) → i ≡ 0 * m + i
none_and m i = omega arith

pub zero_add : (n : ℕ) → 0 + n ≡ n
zero_add n = omega arith

if_false : {A : Type 0} (b : Bool) (x y : A) → b ≡ false → (if b then x else y) ≡ y
if_false b x y e = ap (λ c. if c then x else y) e

if_true : {A : Type 0} (b : Bool) (x y : A) → b ≡ true → (if b then x else y) ≡ x
if_true b x y e = ap (λ c. if c then x else y) e

eqb_true : (m n : ℕ) → m ≡ n → (m == n) ≡ true
eqb_true m n e = elim (eqb_tells m n) [ inl h ↦ h.0 | inr h ↦ absurd (h.1 e) ]

eqb_false : (m n : ℕ) → m ≢ n → (m == n) ≡ false
eqb_false m n e = elim (eqb_tells m n) [ inl h ↦ absurd (e h.1) | inr h ↦ h.0 ]

-- a place's lane
pub mod_of : (n q lane : ℕ) → lane < n → (lane + n * q) % n ≡ lane
mod_of n q lane within = ap (λ j. j % n) (swap n q lane) ∙ mod-mul-add q n lane within
  where
    swap : (n q lane : ℕ) → lane + n * q ≡ q * n + lane
    swap n q lane = omega arith

-- places that go elsewhere are passed over
pub share_skip : {A : Type 0} (n lane k m : ℕ) (xs : List A) → ((i : ℕ) → i < m → (k + i) % n ≢ lane)
    → share n lane k xs ≡ share n lane (k + m) (drop m xs)
share_skip n lane k zero xs other = ap (λ j. share n lane j xs) (omega arith)
share_skip n lane k (suc m) [] other = refl
share_skip n lane k (suc m) (x ∷ xs) other =
    if_false (k % n == lane) (x ∷ share n lane (suc k) xs) (share n lane (suc k) xs)
    (eqb_false (k % n) lane (λ e. other 0 (omega arith) (ap (λ j. j % n) (omega arith) ∙ e)))
    ∙ share_skip n lane (suc k) m xs (λ i low e. other (suc i) (omega (arith, low)) (ap (λ j. j % n) (omega arith) ∙ e))
    ∙ ap (λ j. share n lane j (drop m xs)) (omega arith)

share_append : {A : Type 0} (n lane k : ℕ) (xs ys : List A) → share n lane k (xs ++ ys) ≡ share n lane k xs ++ share n lane (k + length xs) ys
share_append n lane k [] ys = ap (λ j. share n lane j ys) (omega arith)
share_append n lane k (x ∷ xs) ys = front (k % n == lane)
    (share_append n lane (suc k) xs ys ∙ ap (λ j. share n lane (suc k) xs ++ share n lane j ys) (omega arith))
  where
    front : (b : Bool) → share n lane (suc k) (xs ++ ys) ≡ share n lane (suc k) xs ++ share n lane (k + suc (length xs)) ys
        → (if b then x ∷ share n lane (suc k) (xs ++ ys) else share n lane (suc k) (xs ++ ys))
        ≡ (if b then x ∷ share n lane (suc k) xs else share n lane (suc k) xs) ++ share n lane (k + suc (length xs)) ys
    front true e = ap (λ l. x ∷ l) e
    front false e = e

-- the places behind one that goes to the lane, up to the next one, go elsewhere
other_places : (n lane q i : ℕ) → lane < n → suc i < n → (suc (lane + n * q) + i) % n ≢ lane
other_places n lane q i within low e = elim (lt_cases (suc (lane + i)) n) [
  | inl fits ↦ (let m : (n * q + suc (lane + i)) % n ≡ suc (lane + i) = mod_small n q (suc (lane + i)) fits in
      let f : suc (lane + i) ≡ lane = sym m ∙ ap (λ j. j % n) (omega arith) ∙ e in omega (arith, f))
  | inr (r, is) ↦ (let m : (n * suc q + r) % n ≡ r = mod_small n (suc q) r (omega (arith, is, within, low)) in
      let w : n * suc q + r ≡ suc (lane + n * q) + i = mul_more n q r lane i is in
      let f : r ≡ lane = sym m ∙ ap (λ j. j % n) w ∙ e in omega (arith, f, is, low))
]
  where
    mod_small : (n q r : ℕ) → r < n → (n * q + r) % n ≡ r
    mod_small n q r low = ap (λ j. j % n) (turned n q r) ∙ mod-mul-add q n r low

    lt_cases : (a b : ℕ) → (a < b) ⊎ ((r : ℕ) × (a ≡ b + r))
    lt_cases zero zero = inr (0, refl)
    lt_cases zero (suc b) = inl (omega arith)
    lt_cases (suc a) zero = inr (suc a, omega arith)
    lt_cases (suc a) (suc b) = elim (lt_cases a b) [ inl h ↦ inl (omega (arith, h)) | inr (r, e) ↦ inr (r, omega (arith, e)) ]

    mul_more : (n q r lane i : ℕ) → suc (lane + i) ≡ n + r → n * suc q + r ≡ suc (lane + n * q) + i
    mul_more n q r lane i is = omega (arith, is)

beyond : (xs : List FullTx) (k : ℕ) → slice_get xs k ≡ None → length xs ≤ k
beyond [] k e = omega arith
beyond (x ∷ xs) zero e = absurd (let z : Some x ≡ None = e in cc)
beyond (x ∷ xs) (suc k) e = let h = beyond xs k e in omega (arith, h)

-- what is left from a place on that goes to the lane: the submission there, where it is sound, and what is left from the next such place on
module _ (K : Shape) (sound : FullTx → Bool) (file : List FullTx) (lane : ℕ) (within : lane < K.coordinators * K.lanes) where
  abbrev n : ℕ
  n = K.coordinators * K.lanes

  abbrev left : ℕ → List Compact
  left at = map compact (filter sound (share n lane at (drop at file)))

  pub left_end : (at : ℕ) → length file ≤ at → left at ≡ []
  left_end at past = ap (λ xs. map compact (filter sound (share n lane at xs))) (drop_all at file past)

  pub left_begin : sent_to K sound file lane ≡ left lane
  left_begin = ap (λ xs. map compact (filter sound xs))
      (share_skip n lane 0 lane file (λ i low e. let m : i % n ≡ i = small i (omega (arith, low, within)) in let f : i ≡ lane =
      sym m ∙ (ap (λ j. j % n) (sym (zero_add i)) ∙ e) in omega (arith, f, low)) ∙ ap (λ j. share n lane j (drop lane file)) (zero_add lane))
    where
      small : (i : ℕ) → i < n → i % n ≡ i
      small i low = ap (λ j. j % n) (none_and n i) ∙ mod-mul-add 0 n i low

  share_at : (q : ℕ) (t : FullTx) → slice_get file (lane + n * q) ≡ Some t
      → share n lane (lane + n * q) (drop (lane + n * q) file) ≡ t ∷ share n lane (lane + n * q + n) (drop (lane + n * q + n) file)
  share_at q t there =
      ap (λ xs. share n lane at xs) (drop_get at file t there)
      ∙ if_true (at % n == lane) (t ∷ share n lane (suc at) (drop (suc at) file)) (share n lane (suc at) (drop (suc at) file))
      (eqb_true (at % n) lane here)
      ∙ ap (λ xs. t ∷ xs) (next n refl)
    where
      at : ℕ
      at = lane + n * q

      here : at % n ≡ lane
      here = mod_of n q lane within

      drop_get : (k : ℕ) (xs : List FullTx) (x : FullTx) → slice_get xs k ≡ Some x → drop k xs ≡ x ∷ drop (suc k) xs
      drop_get k [] x e = absurd (let z : None ≡ Some x = e in cc)
      drop_get zero (y ∷ xs) x e = ap (λ z. z ∷ xs) (let z : Some y ≡ Some x = e in cc)
      drop_get (suc k) (y ∷ xs) x e = drop_get k xs x e

      next : (m : ℕ) → m ≡ n → share n lane (suc at) (drop (suc at) file) ≡ share n lane (at + n) (drop (at + n) file)
      next zero is = absurd (omega (arith, within, is))
      next (suc m) is =
          share_skip n lane (suc at) m (drop (suc at) file) (λ i low. other_places n lane q i within (omega (arith, low, is)))
          ∙ ap (λ xs. share n lane (suc at + m) xs) (drop-drop m (suc at) file)
          ∙ ap (λ j. share n lane j (drop j file)) (omega (arith, is))

  pub left_sound : (q : ℕ) (t : FullTx) → slice_get file (lane + n * q) ≡ Some t → sound t ≡ true
      → left (lane + n * q) ≡ compact t ∷ left (lane + n * q + n)
  left_sound q t there is = ap (λ xs. map compact (filter sound xs)) (share_at q t there)
      ∙ ap (λ xs. map compact xs) (if_true (sound t) (t ∷ more) more is)
    where
      more : List FullTx
      more = filter sound (share n lane (lane + n * q + n) (drop (lane + n * q + n) file))

  pub left_refused : (q : ℕ) (t : FullTx) → slice_get file (lane + n * q) ≡ Some t → sound t ≡ false → left (lane + n * q) ≡ left (lane + n * q + n)
  left_refused q t there is = ap (λ xs. map compact (filter sound xs)) (share_at q t there)
      ∙ ap (λ xs. map compact xs) (if_false (sound t) (t ∷ more) more is)
    where
      more : List FullTx
      more = filter sound (share n lane (lane + n * q + n) (drop (lane + n * q + n) file))

  -- all is what went there from the places before, and what is left
  pub left_split : (at : ℕ) → at ≤ length file → sent_to K sound file lane ≡ sent_to K sound (take at file) lane ++ left at
  left_split at inside =
      ap (λ xs. map compact (filter sound (share n lane 0 xs))) (sym (take-append-drop at file))
      ∙ ap (λ xs. map compact (filter sound xs)) (share_append n lane 0 (take at file) (drop at file)
      ∙ ap (λ j. share n lane 0 (take at file) ++ share n lane j (drop at file))
      (let z : 0 + length (take at file) ≡ at = ap (λ m. 0 + m) (length-take-le at file inside) ∙ zero_add at in z))
      ∙ ap (λ xs. map compact xs) (filter-append sound (share n lane 0 (take at file)) (share n lane at (drop at file)))
      ∙ map-append compact (filter sound (share n lane 0 (take at file))) (filter sound (share n lane at (drop at file)))

  -- so many steps lead past the end, and each gives one transaction at most
  few_more : (m q : ℕ) → length (left (lane + n * suc q)) ≤ m → length (left (lane + n * q)) ≤ suc m
  few_more m q few = go (slice_get file (lane + n * q)) refl
    where
      next : (n q : ℕ) → lane + n * q + n ≡ lane + n * suc q
      next n q = omega arith

      more : length (left (lane + n * q + n)) ≤ m
      more = subst (λ j. length (left j) ≤ m) (sym (next n q)) few

      sound_or : (t : FullTx) → slice_get file (lane + n * q) ≡ Some t → (b : Bool) → sound t ≡ b → length (left (lane + n * q)) ≤ suc m
      sound_or t there true is = let e : length (left (lane + n * q)) ≡ suc (length (left (lane + n * q + n))) =
          ap (λ xs. length xs) (left_sound q t there is) in omega (arith, e, more)
      sound_or t there false is = let e : length (left (lane + n * q)) ≡ length (left (lane + n * q + n)) =
          ap (λ xs. length xs) (left_refused q t there is) in omega (arith, e, more)

      go : (o : Option FullTx) → slice_get file (lane + n * q) ≡ o → length (left (lane + n * q)) ≤ suc m
      go None e = let past_it : length file ≤ lane + n * q = beyond file (lane + n * q) e in
          let z : length (left (lane + n * q)) ≡ 0 = ap (λ xs. length xs) (left_end (lane + n * q) past_it) in omega (arith, z)
      go (Some t) e = sound_or t e (sound t) refl

  pub left_few : (m q : ℕ) → length file ≤ lane + n * q + n * m → length (left (lane + n * q)) ≤ m
  left_few zero q past = let e : length (left (lane + n * q)) ≡ 0 = ap (λ xs. length xs) (left_end (lane + n * q) (omega (arith, past))) in
      omega (arith, e)
  left_few (suc m) q past = few_more m q (left_few m (suc q) (shift n q m past))
    where
      shift : (n q m : ℕ) → length file ≤ lane + n * q + n * suc m → length file ≤ lane + n * suc q + n * m
      shift n q m past = omega (arith, past)
