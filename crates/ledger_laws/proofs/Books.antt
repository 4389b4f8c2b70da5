-- The book as a map: how look-ups and totals change when a coin goes or comes.
use Rattle.std.proofs.Common.{◌≡◌, ℕ, ◌+◌, true, false, cond, List, [], ◌∷◌, map, Some, None, refl, sym, ap, ◌∙◌, arith, sum_by, Ordering, Less}
use Rattle.std.proofs.Common.{Equal, Greater, nat_cmp}
use Rattle.std.proofs.lemmas.List.Sums.{sum_by-cons}
use Rattle.std.specs.FinMap as book
use Rattle.std.specs.Ordering.{eq_by_cmp, is_eq}
use Rattle.std.specs.Cmp.{tied_itself}
use Rattle.std.specs.Cmp.Lexicographic.{slice_cmp, nat_list_cmp_total}
use Rattle.std.specs.FinMap.Entries.{put, find, by_order}
use Rattle.cbdc_model.specs.Book.{Book, value, total}
use Rattle.cbdc_model.specs.Coins.{Output}

abbrev pub key_cmp : List ℕ → List ℕ → Ordering
key_cmp = slice_cmp nat_cmp

pub data SameKey (p q : List ℕ) : Type 0 where
  same_key : eq_by_cmp key_cmp p q ≡ true → p ≡ q → SameKey p q
  other_key : eq_by_cmp key_cmp p q ≡ false → (p ≡ q → ⊥) → SameKey p q

pub keys : (p q : List ℕ) → SameKey p q
keys p q = elim (key_cmp p q) as (λ r. key_cmp p q ≡ r → SameKey p q) [
  | Equal ↦ λ e. same_key (ap is_eq e) (book.slice_cmp-IsAntisymmetric book.nat_cmp-IsAntisymmetric p q e)
  | Less ↦ λ e. other_key (ap is_eq e) (λ s. let k : Equal ≡ Less = sym (tied_itself nat_list_cmp_total p) ∙ ap (key_cmp p) s ∙ e in cc)
  | Greater ↦ λ e. other_key (ap is_eq e) (λ s. let k : Equal ≡ Greater = sym (tied_itself nat_list_cmp_total p) ∙ ap (key_cmp p) s ∙ e in cc)
] refl

pub get-insert_same : (b : Book) (k : List ℕ) (o : Output) (q : List ℕ) → q ≡ k → book.get (book.insert b k o) q ≡ Some o
get-insert_same b k o q e = elim (keys q k) [
  | same_key t s ↦ book.get-insert nat_list_cmp_total b k o q ∙ ap (λ c. cond c (Some o) (book.get b q)) t
  | other_key t s ↦ absurd (s e)
]

pub get-insert_other : (b : Book) (k : List ℕ) (o : Output) (q : List ℕ) → (q ≡ k → ⊥) → book.get (book.insert b k o) q ≡ book.get b q
get-insert_other b k o q n = elim (keys q k) [
  | same_key t s ↦ absurd (n s)
  | other_key t s ↦ book.get-insert nat_list_cmp_total b k o q ∙ ap (λ c. cond c (Some o) (book.get b q)) t
]

pub get-remove_same : (b : Book) (k q : List ℕ) → q ≡ k → book.get (book.remove b k) q ≡ None
get-remove_same b k q e = elim (keys q k) [
  | same_key t s ↦ book.get-remove nat_list_cmp_total b k q ∙ ap (λ c. cond c None (book.get b q)) t
  | other_key t s ↦ absurd (s e)
]

pub get-remove_other : (b : Book) (k q : List ℕ) → (q ≡ k → ⊥) → book.get (book.remove b k) q ≡ book.get b q
get-remove_other b k q n = elim (keys q k) [
  | same_key t s ↦ absurd (n s)
  | other_key t s ↦ book.get-remove nat_list_cmp_total b k q ∙ ap (λ c. cond c None (book.get b q)) t
]

-- what the outputs come to by a measure
abbrev pub entries_total : (Output → ℕ) → List (List ℕ × Output) → ℕ
entries_total f es = sum_by f (map (λ e. e.1) es)

entries_total-cons : (f : Output → ℕ) (e : List ℕ × Output) (es : List (List ℕ × Output)) → entries_total f (e ∷ es) ≡ f e.1 + entries_total f es
entries_total-cons f e es = sum_by-cons f e.1 (map (λ e. e.1) es)

entries_total-put : (f : Output → ℕ) (k : List ℕ) (o : Output) (es : List (List ℕ × Output)) → find key_cmp k es ≡ None
    → entries_total f (put key_cmp k o es) ≡ f o + entries_total f es
entries_total-put f k o [] h = entries_total-cons f (k, o) []
entries_total-put f k o (e ∷ es) h = elim (key_cmp k e.0) as (λ r. key_cmp k e.0 ≡ r → cond (is_eq r) (Some e.1) (find key_cmp k es) ≡ None
    → entries_total f (by_order r ((k, o) ∷ e ∷ es) ((e.0, o) ∷ es) (e ∷ put key_cmp k o es)) ≡ f o + entries_total f (e ∷ es)) [
      | Less ↦ λ _ _. entries_total-cons f (k, o) (e ∷ es)
      | Equal ↦ λ _ n. absurd (let m : Some e.1 ≡ None = n in cc)
      | Greater ↦ λ _ n. let ih : entries_total f (put key_cmp k o es) ≡ f o + entries_total f es = entries_total-put f k o es n in
          omega (arith, entries_total-cons f e (put key_cmp k o es), entries_total-cons f e es, ih)
    ] refl h

pub total-insert : (f : Output → ℕ) (b : Book) (k : List ℕ) (o : Output) → book.get b k ≡ None → total f (book.insert b k o) ≡ f o + total f b
total-insert f b k o none =
    ap (entries_total f) (book.entries-insert nat_list_cmp_total b k o)
    ∙ entries_total-put f k o (book.entries b) (sym (book.get-entries b k) ∙ none)

-- a map is what is left of it without a key, with that key
remove-insert : (b : Book) (k : List ℕ) (o : Output) → book.get b k ≡ Some o → book.insert (book.remove b k) k o ≡ b
remove-insert b k o is = book.same_map nat_list_cmp_total (book.slice_cmp-IsAntisymmetric book.nat_cmp-IsAntisymmetric) _ _ (λ q. at q)
  where
    at : (q : List ℕ) → book.get (book.insert (book.remove b k) k o) q ≡ book.get b q
    at q = elim (keys q k) [
      | same_key t s ↦ get-insert_same (book.remove b k) k o q s ∙ sym is ∙ ap (book.get b) (sym s)
      | other_key t s ↦ get-insert_other (book.remove b k) k o q s ∙ get-remove_other b k q s
    ]

pub total-remove : (f : Output → ℕ) (b : Book) (k : List ℕ) (o : Output) → book.get b k ≡ Some o → total f b ≡ f o + total f (book.remove b k)
total-remove f b k o is = ap (total f) (sym (remove-insert b k o is)) ∙ total-insert f (book.remove b k) k o (get-remove_same b k k refl)

-- the value
pub value-insert : (b : Book) (k : List ℕ) (o : Output) → book.get b k ≡ None → value (book.insert b k o) ≡ o.value + value b
value-insert b k o none = total-insert (λ p. p.value) b k o none
