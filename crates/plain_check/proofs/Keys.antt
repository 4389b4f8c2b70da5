-- Books as lists of coins.
use Rattle.std.proofs.Common.{◌≡◌, ℕ, ◌+◌, Bool, true, false, cond, not, List, [], ◌∷◌, map, filter, None, refl, sym, ap, ◌∙◌, arith, length, is_some}
use Rattle.std.proofs.lemmas.Cmp.{eq_by_cmp_equiv}
use Rattle.std.specs.FinMap as book
use Rattle.std.specs.Ordering.{eq_by_cmp}
use Rattle.std.specs.Cmp.Lexicographic.{nat_list_cmp_total}
use Rattle.std.specs.FinMap.Entries.{find, where_key, find-where_key}
use Rattle.cbdc_model.specs.Book.{Book, key, value}
use Rattle.cbdc_model.specs.Coins.{Coin, Output}
use Rattle.plain_check.specs.Coins.{coin_entry, book_of}
use Rattle.ledger_laws.proofs.Books.{key_cmp, same_key, other_key, keys, get-insert_same, get-insert_other, get-remove_same, get-remove_other}
use Rattle.ledger_laws.proofs.Books.{entries_total, value-insert}

pub get_is : (coins : List Coin) (k : List ℕ) → book.get (book_of coins) k ≡ find key_cmp k (map coin_entry coins)
get_is coins k = book.get-from_entries nat_list_cmp_total (map coin_entry coins) k

entries_without : (k : List ℕ) (coins : List Coin) → map coin_entry (filter (λ c. not (eq_by_cmp key_cmp k (key c.point))) coins)
    ≡ where_key key_cmp (λ x. not (eq_by_cmp key_cmp k x)) (map coin_entry coins)
entries_without k [] = refl
entries_without k (c ∷ coins) = elim (eq_by_cmp key_cmp k (key c.point)) as
    (λ b. map coin_entry (cond (not b) (c ∷ filter (λ d. not (eq_by_cmp key_cmp k (key d.point))) coins)
    (filter (λ d. not (eq_by_cmp key_cmp k (key d.point))) coins))
    ≡ cond (not b) (coin_entry c ∷ where_key key_cmp (λ x. not (eq_by_cmp key_cmp k x)) (map coin_entry coins))
    (where_key key_cmp (λ x. not (eq_by_cmp key_cmp k x)) (map coin_entry coins))) [
      | true ↦ entries_without k coins
      | false ↦ ap (λ es. coin_entry c ∷ es) (entries_without k coins)
    ]

turned : {A : Type 0} (b : Bool) (x y : A) → cond (not b) x y ≡ cond b y x
turned true x y = refl
turned false x y = refl

-- what is left of the coins is what is left of their book
pub book_without : (k : List ℕ) (coins : List Coin)
    → book_of (filter (λ c. not (eq_by_cmp key_cmp k (key c.point))) coins) ≡ book.remove (book_of coins) k
book_without k coins = book.same_map nat_list_cmp_total (book.slice_cmp-IsAntisymmetric book.nat_cmp-IsAntisymmetric) _ _ at
  where
    at : (q : List ℕ) → book.get (book_of (filter (λ c. not (eq_by_cmp key_cmp k (key c.point))) coins)) q
        ≡ book.get (book.remove (book_of coins) k) q
    at q =
        get_is _ q ∙ ap (find key_cmp q) (entries_without k coins)
        ∙ find-where_key key_cmp (λ x. not (eq_by_cmp key_cmp k x)) q
        (λ x t. ap (λ y. not (eq_by_cmp key_cmp k y)) (sym (book.slice_cmp-IsAntisymmetric book.nat_cmp-IsAntisymmetric q x t)))
        (map coin_entry coins)
        ∙ turned (eq_by_cmp key_cmp k q) _ _
        ∙ ap (λ b. cond b None (find key_cmp q (map coin_entry coins))) ((eq_by_cmp_equiv nat_list_cmp_total).symm k q)
        ∙ ap (cond (eq_by_cmp key_cmp q k) None) (sym (get_is coins q))
        ∙ sym (book.get-remove nat_list_cmp_total (book_of coins) k q)

-- the first coin is put into the book of the others at other outpoints
first_put : (c : Coin) (rest : List Coin) → book_of (c ∷ rest) ≡ book.insert (book.remove (book_of rest) (key c.point)) (key c.point) c.output
first_put c rest = book.same_map nat_list_cmp_total (book.slice_cmp-IsAntisymmetric book.nat_cmp-IsAntisymmetric) _ _ at
  where
    at : (q : List ℕ) → book.get (book.insert (book_of rest) (key c.point) c.output) q
        ≡ book.get (book.insert (book.remove (book_of rest) (key c.point)) (key c.point) c.output) q
    at q = elim (keys q (key c.point)) [
      | same_key t s ↦ get-insert_same (book_of rest) (key c.point) c.output q s
          ∙ sym (get-insert_same (book.remove (book_of rest) (key c.point)) (key c.point) c.output q s)
      | other_key t s ↦ get-insert_other (book_of rest) (key c.point) c.output q s ∙ sym (get-remove_other (book_of rest) (key c.point) q s)
          ∙ sym (get-insert_other (book.remove (book_of rest) (key c.point)) (key c.point) c.output q s)
    ]

-- the value by the first coin and the others
pub value_first : (c : Coin) (rest : List Coin) → value (book_of (c ∷ rest)) ≡ c.output.value + value (book.remove (book_of rest) (key c.point))
value_first c rest =
    ap value (first_put c rest)
    ∙ value-insert (book.remove (book_of rest) (key c.point)) (key c.point) c.output (get-remove_same (book_of rest) (key c.point) (key c.point) refl)

-- the count of outputs by the first coin and the others
count-insert : (b : Book) (k : List ℕ) (o : Output) → book.get b k ≡ None → book.len (book.insert b k o) ≡ book.len b + 1
count-insert b k o none = book.len-insert nat_list_cmp_total b k o ∙ ap (λ g. cond (is_some g) (book.len b) (book.len b + 1)) none

pub count_first : (c : Coin) (rest : List Coin) → book.len (book_of (c ∷ rest)) ≡ book.len (book.remove (book_of rest) (key c.point)) + 1
count_first c rest =
    ap book.len (first_put c rest)
    ∙ count-insert (book.remove (book_of rest) (key c.point)) (key c.point) c.output (get-remove_same (book_of rest) (key c.point) (key c.point) refl)

none_worth : (es : List (List ℕ × Output)) → length es ≡ 0 → entries_total (λ o. o.value) es ≡ 0
none_worth [] h = refl
none_worth (e ∷ es) h = absurd (omega arith)

pub value_none : (coins : List Coin) → length coins ≡ 0 → 0 ≡ value (book_of coins)
value_none [] h = sym (none_worth (book.entries (book.empty {X = Output} {R = key_cmp}))
    (sym (book.len-entries (book.empty {X = Output} {R = key_cmp})) ∙ book.len-empty key_cmp Output))
value_none (c ∷ coins) h = absurd (omega arith)

pub count_none : (coins : List Coin) → length coins ≡ 0 → 0 ≡ book.len (book_of coins)
count_none [] h = sym (book.len-empty key_cmp Output)
count_none (c ∷ coins) h = absurd (omega arith)
