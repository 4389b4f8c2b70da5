-- What a book has behind a fold: where its coins come from, how many they are, and what a mint's are worth.
use Rattle.std.proofs.Common.{◌≡◌, inl, inr, ℕ, zero, suc, ◌+◌, ◌-◌, ◌<◌, ◌≤◌, Bool, true, false, cond, List, [], ◌∷◌, length, map, Option, Some}
use Rattle.std.proofs.Common.{None, is_some, refl, sym, ap, ◌∙◌, subst, arith, sum_by, if◌then◌else◌}
use Rattle.std.proofs.lemmas.List.Sums.{sum_by-cons}
use Rattle.std.specs.FinMap as book
use Rattle.std.specs.FinMap.Entries.{find as find_entry}
use Rattle.std.specs.Ordering.{nat_cmp, is_eq}
use Rattle.std.specs.Cmp.{tied_itself}
use Rattle.std.specs.Cmp.Lexicographic.{slice_cmp, nat_list_cmp_total}
use Rattle.cbdc_model.specs.Records.{Compact}
use Rattle.cbdc_model.specs.Book.{Book, key, same_output, taken, take_out, take_all, put_all, spend_from, spend, fold_txs, genesis_book, total, value}
use Rattle.cbdc_model.specs.Clean.{value_out}
use Rattle.cbdc_model.specs.Money.{sum_out}
use Rattle.cbdc_model.specs.Coins.{Output, Coin, FullTx, made_coins, tx_coins, compact, genesis_tx, genesis_id}
use Rattle.cbdc_model.specs.History.{same_compact, first_with, AreHandedIn}
use Rattle.ledger_laws.proofs.Books.{same_key, other_key, keys, get-insert_same, get-insert_other, get-remove_same, get-remove_other, total-insert}
use Rattle.ledger_laws.proofs.Members.{In}
use Rattle.submission_laws.proofs.Sets.{Once}

-- ---- where its coins come from

-- each entry is a coin of this kind
abbrev pub AllFrom : (Coin → Type 0) → Book → Type 0
AllFrom Named b = (q : List ℕ) (o : Output) → book.get b q ≡ Some o → (c : Coin) × Named c × (q ≡ key c.point) × (o ≡ c.output)

none_some : (o : Output) → None ≡ Some o → ⊥
none_some o e = cc

some_output : (o p : Output) → Some o ≡ Some p → o ≡ p
some_output o p e = cc

module _ (Named : Coin → Type 0) where
  removed : (b : Book) (k : List ℕ) → AllFrom Named b → AllFrom Named (book.remove b k)
  removed b k from q o e = elim (keys q k) [
    | same_key t s ↦ absurd (none_some o (sym (get-remove_same b k q s) ∙ e))
    | other_key t s ↦ from q o (sym (get-remove_other b k q s) ∙ e)
  ]

  inserted : (b : Book) (c : Coin) → Named c → AllFrom Named b → AllFrom Named (book.insert b (key c.point) c.output)
  inserted b c named from q o e = elim (keys q (key c.point)) [
    | same_key t s ↦ (c, named, s, sym (some_output c.output o (sym (get-insert_same b (key c.point) c.output q s) ∙ e)))
    | other_key t s ↦ from q o (sym (get-insert_other b (key c.point) c.output q s) ∙ e)
  ]

  put_from : (cs : List Coin) (b : Book) → ((c : Coin) → In c cs → Named c) → AllFrom Named b → AllFrom Named (put_all b cs)
  put_from [] b named from = from
  put_from (c ∷ cs) b named from = put_from cs (book.insert b (key c.point) c.output) (λ d h. named d (inr h))
      (inserted b c (named c (inl refl)) from)

  -- where coins are taken out
  taken_from : (b : Book) (c : Coin) (r : Option Output) (rest : Book) → AllFrom Named b → taken b c r ≡ Some rest → AllFrom Named rest
  taken_from b c None rest from e = absurd (no_book rest e)
    where
      no_book : (rest : Book) → None ≡ Some rest → ⊥
      no_book rest e = cc
  taken_from b c (Some o) rest from e =
      elim (same_output o c.output) as (λ t. (if t then Some (book.remove b (key c.point)) else None) ≡ Some rest → AllFrom Named rest) [
        | true ↦ λ f. subst (AllFrom Named) (same_book (book.remove b (key c.point)) rest f) (removed b (key c.point) from)
        | false ↦ λ f. absurd (no_book rest f)
      ] e
    where
      same_book : (a d : Book) → Some a ≡ Some d → a ≡ d
      same_book a d e = cc

      no_book : (rest : Book) → None ≡ Some rest → ⊥
      no_book rest e = cc

  no_more : (rest : Book) (cs : List Coin) → take_all None cs ≡ Some rest → ⊥
  no_more rest [] e = let z : None ≡ Some rest = e in cc
  no_more rest (c ∷ cs) e = let z : None ≡ Some rest = e in cc

  same_book : (a d : Book) → Some a ≡ Some d → a ≡ d
  same_book a d e = cc

  took : (cs : List Coin) (rest : Book) (r : Option Book) → ((d : Book) → r ≡ Some d → take_all (Some d) cs ≡ Some rest → AllFrom Named rest)
      → take_all r cs ≡ Some rest → AllFrom Named rest
  took cs rest None go e = absurd (no_more rest cs e)
  took cs rest (Some d) go e = go d refl e

  take_from : (cs : List Coin) (b rest : Book) → AllFrom Named b → take_all (Some b) cs ≡ Some rest → AllFrom Named rest
  take_from [] b rest from e = subst (AllFrom Named) (same_book b rest e) from
  take_from (c ∷ cs) b rest from e = took cs rest (take_out b c)
      (λ d f g. take_from cs d rest (taken_from b c (book.get b (key c.point)) d from f) g) e

  spent_from : (b rest : Book) (t : FullTx) → ((c : Coin) → In c (tx_coins t) → Named c) → AllFrom Named b → spend b t ≡ Some rest
      → AllFrom Named rest
  spent_from b rest t named from e = by_taken (take_all (Some b) t.inputs) refl e
    where
      by_taken : (r : Option Book) → take_all (Some b) t.inputs ≡ r → spend_from r t ≡ Some rest → AllFrom Named rest
      by_taken None f g = absurd (let z : None ≡ Some rest = g in cc)
      by_taken (Some d) f g = subst (AllFrom Named) (same_book (put_all d (tx_coins t)) rest g)
          (put_from (tx_coins t) d named (take_from t.inputs b d from f))

  folded : (ts : List FullTx) (rest : Book) (r : Option Book) → ((d : Book) → r ≡ Some d → fold_txs (Some d) ts ≡ Some rest → AllFrom Named rest)
      → fold_txs r ts ≡ Some rest → AllFrom Named rest
  folded ts rest None go e = absurd (let z : None ≡ Some rest = e in cc)
  folded ts rest (Some d) go e = go d refl e

  fold_from : (ts : List FullTx) (b rest : Book) → ((t : FullTx) → In t ts → (c : Coin) → In c (tx_coins t) → Named c) → AllFrom Named b
      → fold_txs (Some b) ts ≡ Some rest → AllFrom Named rest
  fold_from [] b rest named from e = subst (AllFrom Named) (same_book b rest e) from
  fold_from (t ∷ ts) b rest named from e = folded ts rest (spend b t)
      (λ d f g. fold_from ts d rest (λ u h. named u (inr h)) (spent_from b d t (named t (inl refl)) from f) g) e

  pub book_from : (mint : List Output) (ts : List FullTx) (rest : Book) → ((c : Coin) → In c (tx_coins (genesis_tx mint)) → Named c)
      → ((t : FullTx) → In t ts → (c : Coin) → In c (tx_coins t) → Named c)
      → fold_txs (Some (genesis_book mint)) ts ≡ Some rest → AllFrom Named rest
  book_from mint ts rest first named e =
      fold_from ts (genesis_book mint) rest named
      (put_from (tx_coins (genesis_tx mint)) book.empty first
      (λ q o none. absurd (none_some o (sym (book.get-empty (slice_cmp nat_cmp) q) ∙ none)))) e

-- those that were handed in are among all
found_in : (k : Compact) (ts : List FullTx) (t : FullTx) → first_with ts k ≡ Some t → In t ts
found_in k [] t e = absurd (let z : None ≡ Some t = e in cc)
found_in k (u ∷ ts) t e = elim (same_compact (compact u) k) as (λ c. (if c then Some u else first_with ts k) ≡ Some t → In t (u ∷ ts)) [
  | true ↦ λ f. inl (same_tx t u (sym f))
  | false ↦ λ f. inr (found_in k ts t f)
] e
  where
    same_tx : (t u : FullTx) → Some t ≡ Some u → t ≡ u
    same_tx t u e = cc

pub handed_in : (all : List FullTx) (ks : List Compact) (ts : List FullTx) → AreHandedIn all ks ts → (t : FullTx) → In t ts → In t all
handed_in all [] [] are t h = absurd h
handed_in all [] (u ∷ ts) are t h = absurd are
handed_in all (k ∷ ks) [] are t h = absurd are
handed_in all (k ∷ ks) (u ∷ ts) are t (inl e) = subst (λ v. In v all) (sym e) (found_in k all u are.0)
handed_in all (k ∷ ks) (u ∷ ts) are t (inr h) = handed_in all ks ts are.1 t h

-- ---- how many they are

no_entries : (es : List (List ℕ × Output)) → ((q : List ℕ) → find_entry (slice_cmp nat_cmp) q es ≡ None) → length es ≡ 0
no_entries [] none = refl
no_entries (e ∷ es) none =
    absurd (none_some e.1 (sym (none e.0) ∙ ap (λ r. cond (is_eq r) (Some e.1) (find_entry (slice_cmp nat_cmp) e.0 es))
    (tied_itself nat_list_cmp_total e.0)))

no_keys : (b : Book) → ((q : List ℕ) (o : Output) → book.get b q ≡ Some o → ⊥) → book.len b ≡ 0
no_keys b none = book.len-entries b ∙ no_entries (book.entries b) (λ q. sym (book.get-entries b q) ∙ nothing (book.get b q) (none q))
  where
    nothing : (r : Option Output) → ((o : Output) → r ≡ Some o → ⊥) → r ≡ None
    nothing None f = refl
    nothing (Some o) f = absurd (f o refl)

-- one key less
less_one : (b : Book) (k : List ℕ) → book.len b ≤ suc (book.len (book.remove b k))
less_one b k = by_there (book.contains_key b k) (book.len-remove nat_list_cmp_total b k)
  where
    by_there : (t : Bool) → book.len (book.remove b k) ≡ cond t (book.len b - 1) (book.len b) → book.len b ≤ suc (book.len (book.remove b k))
    by_there true e = omega (arith, e)
    by_there false e = omega (arith, e)

one_less : (b : Book) (k : List ℕ) (o : Output) → book.get b k ≡ Some o → book.len b ≡ suc (book.len (book.remove b k))
one_less b k o there =
    let some = some_there (book.len b) refl in
    let e : book.len (book.remove b k) ≡ book.len b - 1 =
    book.len-remove nat_list_cmp_total b k ∙ ap (λ r. cond (is_some r) (book.len b - 1) (book.len b)) there in
    omega (arith, e, some)
  where
    some_there : (m : ℕ) → book.len b ≡ m → 0 < m
    some_there zero e = absurd (none_some o (sym (ap (λ d. book.get d k) (book.empty_of_len b e) ∙ book.get-empty (slice_cmp nat_cmp) k) ∙ there))
    some_there (suc m) e = omega arith

-- a book whose keys are all among these has no more entries
pub no_more_entries : (qs : List (List ℕ)) (b : Book) → ((q : List ℕ) (o : Output) → book.get b q ≡ Some o → In q qs) → book.len b ≤ length qs
no_more_entries [] b all = let z = no_keys b (λ q o e. all q o e) in omega (arith, z)
no_more_entries (k ∷ qs) b all =
    let rest = no_more_entries qs (book.remove b k) (λ q o e. elim (keys q k) [
      | same_key t s ↦ absurd (none_some o (sym (get-remove_same b k q s) ∙ e))
      | other_key t s ↦ among q o s (all q o (sym (get-remove_other b k q s) ∙ e))
    ]) in
    let one = less_one b k in
    omega (arith, rest, one)
  where
    among : (q : List ℕ) (o : Output) → (q ≡ k → ⊥) → In q (k ∷ qs) → In q qs
    among q o other (inl e) = absurd (other e)
    among q o other (inr h) = h

-- a book that has all of these keys has no fewer
pub no_fewer_entries : (qs : List (List ℕ)) (b : Book) → Once qs → ((q : List ℕ) → In q qs → (o : Output) × (book.get b q ≡ Some o))
    → length qs ≤ book.len b
no_fewer_entries [] b once all = omega arith
no_fewer_entries (k ∷ qs) b once all =
    let there = all k (inl refl) in
    let one = one_less b k there.0 there.1 in
    let rest = no_fewer_entries qs (book.remove b k) once.1 (λ q h.
    let r = all q (inr h) in
    (r.0, get-remove_other b k q (λ e. once.0 (subst (λ z. In z qs) e h)) ∙ r.1)) in
    omega (arith, one, rest)

-- ---- what a mint's coins come to

module _ (f : Output → ℕ) (id : List ℕ) where
  put_total : (os : List Output) (k : ℕ) (b : Book) → ((i : ℕ) → k ≤ i → book.get b (i ∷ id) ≡ None)
      → total f (put_all b (made_coins id k os)) ≡ sum_out f os + total f b
  put_total [] k b none = none_put b
    where
      none_put : (b : Book) → total f b ≡ sum_out f [] + total f b
      none_put b = omega arith
  put_total (o ∷ os) k b none =
      let rest = put_total os (suc k) (book.insert b (k ∷ id) o)
      (λ i low. get-insert_other b (k ∷ id) o (i ∷ id) (λ e. apart i k low e) ∙ none i (omega (arith, low))) in
      let one = total-insert f b (k ∷ id) o (none k (omega arith)) in
      let sum = sum_by-cons f o os in
      omega (arith, rest, one, sum)
    where
      apart : (i k : ℕ) → suc k ≤ i → i ∷ id ≡ k ∷ id → ⊥
      apart i k low e = let f : i ≡ k = cc in omega (arith, low, f)

total_empty : (f : Output → ℕ) → total f book.empty ≡ 0
total_empty f = ap (λ es. sum_by f (map (λ e. e.1) es))
    (nothing (book.entries (book.empty {X = Output} {R = slice_cmp nat_cmp}))
    (sym (book.len-entries (book.empty {X = Output} {R = slice_cmp nat_cmp})) ∙ book.len-empty (slice_cmp nat_cmp) Output))
  where
    nothing : (es : List (List ℕ × Output)) → length es ≡ 0 → es ≡ []
    nothing [] e = refl
    nothing (e ∷ es) h = absurd (omega (arith, h))

pub genesis_total : (f : Output → ℕ) (mint : List Output) → total f (genesis_book mint) ≡ sum_out f mint
genesis_total f mint =
    let put = put_total f (genesis_id mint) mint 0 book.empty (λ i low. book.get-empty (slice_cmp nat_cmp) (i ∷ genesis_id mint)) in
    let none = total_empty f in
    omega (arith, put, none)

pub genesis_worth : (mint : List Output) → value (genesis_book mint) ≡ value_out mint
genesis_worth mint = genesis_total (λ o. o.value) mint
