-- Lists by the numbers of their places.
use Rattle.std.proofs.Common.{◌≡◌, ℕ, zero, suc, ◌+◌, ◌*◌, ◌<◌, ◌≤◌, List, [], ◌∷◌, ◌++◌, length, reverse, take, drop, Some, None, refl, sym, ap, ◌∙◌}
use Rattle.std.proofs.Common.{subst, arith}
use Rattle.std.specs.Prelude.{All, slice_get, vec_len}
use Rattle.std.specs.Global.{Vec}
use Rattle.std.proofs.lemmas.Grind.{common_steps}
use Rattle.std.proofs.lemmas.List.{length-reverse, take_at}
use Rattle.std.proofs.lemmas.List.Elements.{All-head, All-tail}
use Rattle.lane_waves.proofs.Closing.{first_last}
use Rattle.lane_waves.specs.Places.{AllFrom, BothFrom}

pub one_more : {A : Type 0} (k : ℕ) (y : A) (xs : List A) → k + length (y ∷ xs) ≡ suc k + length xs
one_more k y xs = omega arith

pub none_more : (k : ℕ) → k + 0 ≡ k
none_more k = omega arith

pub turned_many : {A : Type 0} (zs : List A) → 0 + length (reverse zs) ≡ length zs
turned_many zs = let e = length-reverse zs in omega (arith, e)

module _ {A : Type 0} (P : ℕ → A → Type 0) where
  pub all_more : (k : ℕ) (xs : List A) (x : A) → AllFrom P k xs → P (k + length xs) x → AllFrom P k (xs ++ x ∷ [])
  all_more k [] x a p = (subst (λ n. P n x) (none_more k) p, tt)
  all_more k (y ∷ xs) x a p = (a.0, all_more (suc k) xs x a.1 (subst (λ n. P n x) (one_more k y xs) p))

  pub all_last : (k : ℕ) (xs : List A) (x : A) → AllFrom P k (xs ++ x ∷ []) → AllFrom P k xs × P (k + length xs) x
  all_last k [] x a = (tt, subst (λ n. P n x) (sym (none_more k)) a.0)
  all_last k (y ∷ xs) x a = let m = all_last (suc k) xs x a.1 in ((a.0, m.0), subst (λ n. P n x) (sym (one_more k y xs)) m.1)

  pub all_at : (k : ℕ) (xs : List A) (n : ℕ) (x : A) → AllFrom P k xs → slice_get xs n ≡ Some x → P (k + n) x
  all_at k [] n x a e = absurd (let z : None ≡ Some x = e in cc)
  all_at k (y ∷ xs) zero x a e = let same : y ≡ x = let z : Some y ≡ Some x = e in cc in let none : k ≡ k + 0 = omega arith in
      subst (λ z. P (k + 0) z) same (subst (λ n. P n y) none a.0)
  all_at k (y ∷ xs) (suc n) x a e = let more : suc k + n ≡ k + suc n = omega arith in subst (λ m. P m x) more (all_at (suc k) xs n x a.1 e)

  pub all_from : (k : ℕ) (xs : List A) → ((i : ℕ) (x : A) → slice_get xs i ≡ Some x → P (k + i) x) → AllFrom P k xs
  all_from k [] f = tt
  all_from k (x ∷ xs) f =
      let none : k + 0 ≡ k = omega arith in (
        subst (λ n. P n x) none (f 0 x refl),
        all_from (suc k) xs (λ i y e. let more : k + suc i ≡ suc k + i = omega arith in subst (λ n. P n y) more (f (suc i) y e)),
      )

module _ {A B : Type 0} (P : ℕ → A → B → Type 0) where
  pub both_at : (k : ℕ) (xs : List A) (ys : List B) (n : ℕ) (x : A) (y : B) → BothFrom P k xs ys → slice_get xs n ≡ Some x → slice_get ys n ≡ Some y
      → P (k + n) x y
  both_at k [] [] n x y a e f = absurd (let z : None ≡ Some x = e in cc)
  both_at k [] (w ∷ ys) n x y a e f = absurd a
  both_at k (v ∷ xs) [] n x y a e f = absurd a
  both_at k (v ∷ xs) (w ∷ ys) zero x y a e f =
      let same : v ≡ x = let z : Some v ≡ Some x = e in cc in
      let like : w ≡ y = let z : Some w ≡ Some y = f in cc in
      let none : k ≡ k + 0 = omega arith in
      subst (λ z. P (k + 0) z y) same (subst (λ z. P (k + 0) v z) like (subst (λ n. P n v w) none a.0))
  both_at k (v ∷ xs) (w ∷ ys) (suc n) x y a e f = let more : suc k + n ≡ k + suc n = omega arith in
      subst (λ m. P m x y) more (both_at (suc k) xs ys n x y a.1 e f)

  pub both_more : (k : ℕ) (xs : List A) (ys : List B) (x : A) (y : B) → BothFrom P k xs ys → P (k + length ys) x y
      → BothFrom P k (xs ++ x ∷ []) (ys ++ y ∷ [])
  both_more k [] [] x y a p = (subst (λ n. P n x y) (none_more k) p, tt)
  both_more k [] (w ∷ ys) x y a p = absurd a
  both_more k (v ∷ xs) [] x y a p = absurd a
  both_more k (v ∷ xs) (w ∷ ys) x y a p = (a.0, both_more (suc k) xs ys x y a.1 (subst (λ n. P n x y) (one_more k w ys) p))

  pub both_last : (k : ℕ) (xs : List A) (ys : List B) (x : A) (y : B) → BothFrom P k (xs ++ x ∷ []) (ys ++ y ∷ [])
      → BothFrom P k xs ys × P (k + length ys) x y
  both_last k [] [] x y a = (tt, subst (λ n. P n x y) (sym (none_more k)) a.0)
  both_last k [] (w ∷ []) x y a = absurd a.1
  both_last k [] (w ∷ (z ∷ ys)) x y a = absurd a.1
  both_last k (v ∷ []) [] x y a = absurd a.1
  both_last k (v ∷ (z ∷ xs)) [] x y a = absurd a.1
  both_last k (v ∷ xs) (w ∷ ys) x y a = let m = both_last (suc k) xs ys x y a.1 in ((a.0, m.0), subst (λ n. P n x y) (sym (one_more k w ys)) m.1)

  pub both_many : (k : ℕ) (xs : List A) (ys : List B) → BothFrom P k xs ys → length xs ≡ length ys
  both_many k [] [] a = refl
  both_many k [] (y ∷ ys) a = absurd a
  both_many k (x ∷ xs) [] a = absurd a
  both_many k (x ∷ xs) (y ∷ ys) a = let e = both_many (suc k) xs ys a.1 in omega (arith, e)

  -- the last item first: the number of an item is how many come behind it
  abbrev pub Down : List A → List B → Type 0
  Down [] [] = Unit {0}
  Down (x ∷ xs) (y ∷ ys) = P (length ys) x y × Down xs ys
  Down xs ys = ⊥

  pub down : (xs : List A) (ys : List B) → BothFrom P 0 (reverse xs) (reverse ys) → Down xs ys
  down [] [] a = tt
  down [] (y ∷ ys) a = absurd (no_left (reverse ys) y (subst (λ zs. BothFrom P 0 [] zs) (first_last y ys) a))
    where
      no_left : (zs : List B) (y : B) → BothFrom P 0 [] (zs ++ y ∷ []) → ⊥
      no_left [] y a = a
      no_left (z ∷ zs) y a = a
  down (x ∷ xs) [] a = absurd (no_right (reverse xs) x (subst (λ zs. BothFrom P 0 zs []) (first_last x xs) a))
    where
      no_right : (zs : List A) (x : A) → BothFrom P 0 (zs ++ x ∷ []) [] → ⊥
      no_right [] x a = a
      no_right (z ∷ zs) x a = a
  down (x ∷ xs) (y ∷ ys) a =
      let m = both_last 0 (reverse xs) (reverse ys) x y
      (subst (λ zs. BothFrom P 0 zs (reverse ys ++ y ∷ [])) (first_last x xs)
      (subst (λ zs. BothFrom P 0 (reverse (x ∷ xs)) zs) (first_last y ys) a)) in
      (subst (λ n. P n x y) (turned_many ys) m.1, down xs ys m.0)

  pub up : (xs : List A) (ys : List B) → Down xs ys → BothFrom P 0 (reverse xs) (reverse ys)
  up [] [] d = tt
  up [] (y ∷ ys) d = absurd d
  up (x ∷ xs) [] d = absurd d
  up (x ∷ xs) (y ∷ ys) d =
      subst (λ zs. BothFrom P 0 zs (reverse (y ∷ ys))) (sym (first_last x xs))
      (subst (λ zs. BothFrom P 0 (reverse xs ++ x ∷ []) zs) (sym (first_last y ys))
      (both_more 0 (reverse xs) (reverse ys) x y (up xs ys d.1) (subst (λ n. P n x y) (sym (turned_many ys)) d.0)))

pub snoc_many : {A : Type 0} (xs ys : List A) (x : A) → xs ≡ ys ++ x ∷ [] → length xs ≡ length ys + 1
snoc_many xs ys x e = ap (λ (zs : List _). length zs) e ∙ more ys x
  where
    more : {A : Type 0} (zs : List A) (z : A) → length (zs ++ z ∷ []) ≡ length zs + 1
    more zs z = grind (arith, common_steps)

pub pushed_many : {A : Type 0} (u v : Vec A) → vec_len u ≡ vec_len v + 1 → length u.items ≡ length v.items + 1
pushed_many u v e = let a = u.ok.0 in let b = v.ok.0 in omega (arith, e, a, b)

pub as_many : {A B : Type 0} (u : Vec A) (v : Vec B) → length u.items ≡ length v.items → vec_len u ≡ vec_len v
as_many u v e = let a = u.ok.0 in let b = v.ok.0 in omega (arith, e, a, b)

pub append_many : {A : Type 0} (xs ys : List A) → length (xs ++ ys) ≡ length xs + length ys
append_many xs ys = grind (arith, common_steps)

pub none_long : {A : Type 0} (xs : List A) → length xs ≡ 0 → xs ≡ []
none_long [] e = refl
none_long (x ∷ xs) e = absurd (let z = e in omega (arith, z))

-- of two lists as long as each other each has one fewer, or one more; or one of them gives one to the other, where there is room
pub many_less : (a b x y : ℕ) → a ≡ x + 1 → b ≡ y + 1 → a ≡ b → x ≡ y
many_less a b x y e f g = omega arith

pub many_more : (a b x y : ℕ) → x ≡ a + 1 → y ≡ b + 1 → a ≡ b → x ≡ y
many_more a b x y e f g = omega arith

pub many_over : (a l x m n : ℕ) → a ≡ x + 1 → m ≡ l + 1 → a + l ≡ n → x + m ≡ n
many_over a l x m n e f g = omega arith

pub many_fit : (a l x n c v : ℕ) → a ≡ x + 1 → a + l ≡ n → n ≤ c → v ≡ l → v < c
many_fit a l x n c v e f g h = omega arith

pub many_still : (n c d : ℕ) → d ≡ c → n ≤ c → n ≤ d
many_still n c d e f = omega arith

pub nothing_left : {A : Type 0} (v : Vec A) → vec_len v ≡ 0 → v.items ≡ []
nothing_left v e = none_long v.items (sym v.ok.0 ∙ e)

pub no_items : {A : Type 0} (v : Vec A) → v.items ≡ [] → vec_len v ≡ 0
no_items v e = let many : length v.items ≡ 0 = ap (λ (xs : List _). length xs) e in let ok = v.ok.0 in omega (arith, many, ok)

pub next_row : (c m n : ℕ) → m ≡ c + 1 → m * n ≡ c * n + n
next_row c m n e = ap (λ k. k * n) e ∙ more c n
  where
    more : (c n : ℕ) → (c + 1) * n ≡ c * n + n
    more c n = grind (arith, common_steps)

pub zero_row : (n : ℕ) → 0 * n ≡ 0
zero_row n = omega arith

-- an item at a place
pub get_within : {A : Type 0} (xs : List A) (i : ℕ) (x : A) → slice_get xs i ≡ Some x → i < length xs
get_within [] i x e = absurd (let z : None ≡ Some x = e in cc)
get_within (y ∷ xs) zero x e = omega arith
get_within (y ∷ xs) (suc i) x e = let lt = get_within xs i x e in omega (arith, lt)

pub get_there : {A : Type 0} (xs : List A) (i : ℕ) → i < length xs → (x : A) × (slice_get xs i ≡ Some x)
get_there [] i lt = absurd (let z : i < 0 = lt in omega (arith, z))
get_there (y ∷ xs) zero lt = (y, refl)
get_there (y ∷ xs) (suc i) lt = get_there xs i (omega (arith, lt))

pub get_all : {A : Type 0} (P : A → Type 0) (xs : List A) (n : ℕ) (x : A) → All P xs → slice_get xs n ≡ Some x → P x
get_all P [] n x a e = absurd (let z : None ≡ Some x = e in cc)
get_all P (y ∷ xs) zero x a e = let same : y ≡ x = let z : Some y ≡ Some x = e in cc in subst P same (All-head P y xs a)
get_all P (y ∷ xs) (suc n) x a e = get_all P xs n x (All-tail P y xs a) e

-- from the first on
pub all_here : {A : Type 0} (P : ℕ → A → Type 0) (xs : List A) (n : ℕ) (x : A) → AllFrom P 0 xs → slice_get xs n ≡ Some x → P n x
all_here P xs n x a e = let none : 0 + n ≡ n = omega arith in subst (λ m. P m x) none (all_at P 0 xs n x a e)

-- all items of a list written anew
pub all_anew : {A : Type 0} (n : ℕ) (xs ys : List A) → length xs ≡ length ys → n ≡ length ys → take n (xs ++ drop (length xs) ys) ≡ xs
all_anew n xs ys e k = take_at xs (drop (length xs) ys) n (e ∙ sym k)

-- pair by pair
pub each_pair : {A B : Type 0} (P : ℕ → A → B → Type 0) (xs : List A) (ys : List B) → BothFrom P 0 xs ys → (n : ℕ) (x : A) (y : B)
    → slice_get xs n ≡ Some x → slice_get ys n ≡ Some y → P n x y
each_pair P xs ys b n x y e f = let none : 0 + n ≡ n = omega arith in subst (λ m. P m x y) none (both_at P 0 xs ys n x y b e f)
