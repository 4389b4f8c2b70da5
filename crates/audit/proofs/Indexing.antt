-- The first transaction with an id or a compact form, and the index of ids.
use Rattle.std.proofs.Common.{◌≡◌, ◌<◌, ◌+◌, ℕ, zero, suc, Bool, true, false, cond, ◌&&◌, List, [], ◌∷◌, ◌++◌, length, take, drop, get_or, find}
use Rattle.std.proofs.Common.{Option, Some, None, is_some, option_map, refl, sym, ap, ◌∙◌, subst, arith}
use Rattle.std.proofs.lemmas.List.{take_more, take-append-drop, drop_more}
use Rattle.std.specs.Map.{lookup}
use Rattle.base_types.specs.contracts.hash.HashPartialEq.TheImpl.{eq-value}
use Rattle.cbdc_model.specs.Records.{Digest, same_digest, Compact}
use Rattle.cbdc_model.specs.Coins.{FullTx, tx_id, compact}
use Rattle.cbdc_model.specs.Next.{same_digests}
use Rattle.cbdc_model.specs.History.{same_compact, first_with}
use Rattle.same_records.proofs.Digests.{digest_is}
use Rattle.ledger_laws.proofs.Counts.{same_digest_is}
use Rattle.audit.specs.declared.handed.ById.{ById}
use Rattle.audit.specs.Keeping.{no_tx, first_with_id, IsIndex}

find_skip : {X : Type 0} (p : X → Bool) (xs ys : List X) → find p xs ≡ None → find p (xs ++ ys) ≡ find p ys
find_skip p [] ys h = refl
find_skip p (x ∷ xs) ys h =
    elim (p x) as (λ c. cond c (Some x) (find p xs) ≡ None → cond c (Some x) (find p (xs ++ ys)) ≡ find p ys) [
      | true ↦ λ n. absurd (let z : Some x ≡ None = n in cc)
      | false ↦ λ n. find_skip p xs ys n
    ] h

find_keep : {X : Type 0} (p : X → Bool) (xs ys : List X) (y : X) → find p xs ≡ Some y → find p (xs ++ ys) ≡ Some y
find_keep p [] ys y h = absurd (let z : None ≡ Some y = h in cc)
find_keep p (x ∷ xs) ys y h =
    elim (p x) as (λ c. cond c (Some x) (find p xs) ≡ Some y → cond c (Some x) (find p (xs ++ ys)) ≡ Some y) [
      | true ↦ λ n. n
      | false ↦ λ n. find_keep p xs ys y n
    ] h

find_here : {X : Type 0} (p : X → Bool) (x : X) (ys : List X) → p x ≡ true → find p (x ∷ ys) ≡ Some x
find_here p x ys h = ap (λ c. cond c (Some x) (find p ys)) h

find_past : {X : Type 0} (p : X → Bool) (x : X) (ys : List X) → p x ≡ false → find p (x ∷ ys) ≡ find p ys
find_past p x ys h = ap (λ c. cond c (Some x) (find p ys)) h

-- a search goes on, or ends at a place
pub none_so_far : (txs : List FullTx) (form : Compact) (k : ℕ) (t : FullTx) → k < length txs → t ≡ get_or txs k t
    → first_with (take k txs) form ≡ None
    → same_compact (compact t) form ≡ false → first_with (take (k + 1) txs) form ≡ None
none_so_far txs form k t lt is h other =
    ap (λ l. first_with l form) (take_more txs k t lt ∙ ap (λ u. take k txs ++ u ∷ []) (sym is))
    ∙ find_skip (λ u. same_compact (compact u) form) (take k txs) (t ∷ []) h ∙ find_past (λ u. same_compact (compact u) form) t [] other

pub found_at : (txs : List FullTx) (form : Compact) (k : ℕ) (t : FullTx) → k < length txs → t ≡ get_or txs k t → first_with (take k txs) form ≡ None
    → same_compact (compact t) form ≡ true → first_with txs form ≡ Some t
found_at txs form k t lt is h fits =
    ap (λ l. first_with l form) (sym (take-append-drop k txs)
    ∙ ap (λ l. take k txs ++ l) (drop_more txs k t lt ∙ ap (λ u. u ∷ drop (k + 1) txs) (sym is)))
    ∙ find_skip (λ u. same_compact (compact u) form) (take k txs) (t ∷ drop (k + 1) txs) h
    ∙ find_here (λ u. same_compact (compact u) form) t (drop (k + 1) txs) fits

-- what has the form has its id
other_form : (a b : Compact) → same_digest a.id b.id ≡ false → same_compact a b ≡ false
other_form a b h = ap (λ c. c && (same_digests a.inputs b.inputs && same_digests a.outputs b.outputs)) h

form_id : (a b : Compact) → same_compact a b ≡ true → same_digest a.id b.id ≡ true
form_id a b h = grind arith

pub no_such_id : (txs : List FullTx) (form : Compact) → find (λ t. same_digest (tx_id t) form.id) txs ≡ None → first_with txs form ≡ None
no_such_id [] form h = refl
no_such_id (t ∷ txs) form h =
    elim (same_digest (tx_id t) form.id) as (λ c. same_digest (tx_id t) form.id ≡ c
    → cond c (Some t) (find (λ u. same_digest (tx_id u) form.id) txs) ≡ None → first_with (t ∷ txs) form ≡ None) [
      | true ↦ λ e n. absurd (let z : Some t ≡ None = n in cc)
      | false ↦ λ e n. find_past (λ u. same_compact (compact u) form) t txs (other_form (compact t) form e) ∙ no_such_id txs form n
    ] refl h

pub first_id : (txs : List FullTx) (form : Compact) (t : FullTx) → find (λ t. same_digest (tx_id t) form.id) txs ≡ Some t
    → same_compact (compact t) form ≡ true
    → first_with txs form ≡ Some t
first_id [] form t h fits = absurd (let z : None ≡ Some t = h in cc)
first_id (u ∷ txs) form t h fits =
    elim (same_digest (tx_id u) form.id) as (λ c. same_digest (tx_id u) form.id ≡ c
    → cond c (Some u) (find (λ v. same_digest (tx_id v) form.id) txs) ≡ Some t → first_with (u ∷ txs) form ≡ Some t) [
      | true ↦ λ e n.
          let same : u ≡ t = (let z : Some u ≡ Some t = n in cc) in
          find_here (λ v. same_compact (compact v) form) u txs (subst (λ v. same_compact (compact v) form ≡ true) (sym same) fits) ∙ n
      | false ↦ λ e n. find_past (λ v. same_compact (compact v) form) u txs (other_form (compact u) form e) ∙ first_id txs form t n fits
    ] refl h

-- one more transaction in the index
abbrev next_index : Option ℕ → Bool → ℕ → Option ℕ
next_index (Some i) hit n = Some i
next_index None hit n = cond hit (Some n) None

at_end : (xs : List FullTx) (t : FullTx) → get_or (xs ++ t ∷ []) (length xs) no_tx ≡ t
at_end [] t = refl
at_end (x ∷ xs) t = at_end xs t

before_end : (xs : List FullTx) (t : FullTx) (i : ℕ) → i < length xs → get_or (xs ++ t ∷ []) i no_tx ≡ get_or xs i no_tx
before_end [] t i lt = absurd (omega arith)
before_end (x ∷ xs) t zero lt = refl
before_end (x ∷ xs) t (suc i) lt = before_end xs t i (omega arith)

length_more : (xs : List FullTx) (t : FullTx) → length (xs ++ t ∷ []) ≡ suc (length xs)
length_more [] t = refl
length_more (x ∷ xs) t = ap suc (length_more xs t)

some_same : (i j : ℕ) → Some i ≡ Some j → i ≡ j
some_same i j e = cc

index_next : (xs : List FullTx) (t : FullTx) (m n : ById) → IsIndex xs m
    → ((x : Digest) → first_with_id n x ≡ next_index (first_with_id m x) (same_digest (tx_id t) x) (length xs)) → IsIndex (xs ++ t ∷ []) n
index_next xs t m n h step = record {
  inside = λ x i e. inside_at x i (first_with_id m x) refl (sym (step x) ∙ e);
  first = λ x. ap (option_map (λ i. get_or (xs ++ t ∷ []) i no_tx)) (step x) ∙ first_at x (first_with_id m x) refl;
}
  where
    inside_at : (x : Digest) (i : ℕ) (o : Option ℕ) → first_with_id m x ≡ o → next_index o (same_digest (tx_id t) x) (length xs) ≡ Some i
        → i < length (xs ++ t ∷ [])
    inside_at x i (Some j) is e = let k : j ≡ i = some_same j i e in omega (arith, h.inside x j is, length_more xs t)
    inside_at x i None is e =
        elim (same_digest (tx_id t) x) as (λ c. cond c (Some (length xs)) None ≡ Some i → i < length (xs ++ t ∷ [])) [
          | true ↦ λ g. let k : length xs ≡ i = some_same (length xs) i g in omega (arith, length_more xs t)
          | false ↦ λ g. absurd (let z : None ≡ Some i = g in cc)
        ] e

    first_at : (x : Digest) (o : Option ℕ) → first_with_id m x ≡ o
        → option_map (λ i. get_or (xs ++ t ∷ []) i no_tx) (next_index o (same_digest (tx_id t) x) (length xs))
        ≡ find (λ u. same_digest (tx_id u) x) (xs ++ t ∷ [])
    first_at x (Some i) is =
        ap (λ u. Some u) (before_end xs t i (h.inside x i is))
        ∙ sym (find_keep (λ u. same_digest (tx_id u) x) xs (t ∷ []) (get_or xs i no_tx)
        (sym (h.first x) ∙ ap (option_map (λ j. get_or xs j no_tx)) is))
    first_at x None is =
        let none : find (λ u. same_digest (tx_id u) x) xs ≡ None = sym (h.first x) ∙ ap (option_map (λ j. get_or xs j no_tx)) is in
        elim (same_digest (tx_id t) x) as (λ c. same_digest (tx_id t) x ≡ c
        → option_map (λ i. get_or (xs ++ t ∷ []) i no_tx) (cond c (Some (length xs)) None) ≡ find (λ u. same_digest (tx_id u) x) (xs ++ t ∷ [])) [
          | true ↦ λ e. ap (λ u. Some u) (at_end xs t)
              ∙ sym (find_skip (λ u. same_digest (tx_id u) x) xs (t ∷ []) none ∙ find_here (λ u. same_digest (tx_id u) x) t [] e)
          | false ↦ λ e. sym (find_skip (λ u. same_digest (tx_id u) x) xs (t ∷ []) none ∙ find_past (λ u. same_digest (tx_id u) x) t [] e)
        ] refl

known_id : (o : Option ℕ) (hit : Bool) (n : ℕ) → (hit ≡ true → is_some o ≡ true) → o ≡ next_index o hit n
known_id (Some i) hit n h = refl
known_id None true n h = absurd (let z : false ≡ true = h refl in cc)
known_id None false n h = refl

new_id : (o : Option ℕ) (hit : Bool) (n : ℕ) → (hit ≡ true → is_some o ≡ false) → cond hit (Some n) o ≡ next_index o hit n
new_id (Some i) true n h = absurd (let z : true ≡ false = h refl in cc)
new_id (Some i) false n h = refl
new_id None true n h = refl
new_id None false n h = refl

pub index_known : (xs : List FullTx) (t : FullTx) (m : ById) → IsIndex xs m → is_some (first_with_id m (tx_id t)) ≡ true → IsIndex (xs ++ t ∷ []) m
index_known xs t m h is = index_next xs t m m h (λ x. known_id (first_with_id m x) (same_digest (tx_id t) x) (length xs)
    (λ hit. subst (λ y. is_some (first_with_id m y) ≡ true) (same_digest_is (tx_id t) x hit) is))

pub index_new : (xs : List FullTx) (t : FullTx) (m n : ById) → IsIndex xs m → is_some (first_with_id m (tx_id t)) ≡ false
    → ((x : Digest) → first_with_id n x ≡ cond (eq-value.it (tx_id t) x) (Some (length xs)) (first_with_id m x)) → IsIndex (xs ++ t ∷ []) n
index_new xs t m n h is step = index_next xs t m n h (λ x.
    step x ∙ ap (λ c. cond c (Some (length xs)) (first_with_id m x)) (digest_is (tx_id t) x)
    ∙ new_id (first_with_id m x) (same_digest (tx_id t) x) (length xs)
    (λ hit. subst (λ y. is_some (first_with_id m y) ≡ false) (same_digest_is (tx_id t) x hit) is))

-- one place is read twice
pub default_same : (txs : List FullTx) (k : ℕ) (t u : FullTx) → k < length txs → t ≡ get_or txs k t → u ≡ get_or txs k u → t ≡ u
default_same [] k t u lt e f = absurd (omega arith)
default_same (x ∷ txs) zero t u lt e f = e ∙ sym f
default_same (x ∷ txs) (suc k) t u lt e f = default_same txs k t u (omega arith) e f

-- the index of no transactions
pub empty_index : (m : ById) → m.firsts.entries ≡ [] → IsIndex [] m
empty_index m e = record {
  inside = λ x i h. absurd (let z : None ≡ Some i = sym (none x) ∙ h in cc);
  first = λ x. ap (option_map (λ i. get_or [] i no_tx)) (none x);
}
  where
    none : (x : Digest) → first_with_id m x ≡ None
    none x = ap (λ es. lookup (eq-value.it x) es) e

same_there : (xs : List FullTx) (k : ℕ) (t : FullTx) → k < length xs → t ≡ get_or xs k t → get_or xs k no_tx ≡ t
same_there [] k t lt e = absurd (omega arith)
same_there (x ∷ xs) zero t lt e = sym e
same_there (x ∷ xs) (suc k) t lt e = same_there xs k t (omega arith) e

-- what a look-up by the id gives
pub found_none : (txs : List FullTx) (m : ById) (form : Compact) → IsIndex txs m → first_with_id m form.id ≡ None → first_with txs form ≡ None
found_none txs m form h e = no_such_id txs form (sym (h.first form.id) ∙ ap (option_map (λ i. get_or txs i no_tx)) e)

pub found_first : (txs : List FullTx) (m : ById) (form : Compact) (i : ℕ) (t : FullTx) → IsIndex txs m → first_with_id m form.id ≡ Some i
    → t ≡ get_or txs i t
    → same_compact (compact t) form ≡ true → first_with txs form ≡ Some t
found_first txs m form i t h e is fits =
    first_id txs form t (sym (h.first form.id) ∙ ap (option_map (λ j. get_or txs j no_tx)) e
    ∙ ap (λ u. Some u) (same_there txs i t (h.inside form.id i e) is)) fits

-- what is found has the id that was looked for
find_true : {X : Type 0} (p : X → Bool) (xs : List X) (y : X) → find p xs ≡ Some y → p y ≡ true
find_true p [] y h = absurd (let z : None ≡ Some y = h in cc)
find_true p (x ∷ xs) y h =
    elim (p x) as (λ c. p x ≡ c → cond c (Some x) (find p xs) ≡ Some y → p y ≡ true) [
      | true ↦ λ e n. let same : x ≡ y = (let z : Some x ≡ Some y = n in cc) in subst (λ u. p u ≡ true) same e
      | false ↦ λ e n. find_true p xs y n
    ] refl h

pub first_has_id : (txs : List FullTx) (form : Compact) (t : FullTx) → first_with txs form ≡ Some t → form.id ≡ tx_id t
first_has_id txs form t h = sym (same_digest_is (tx_id t) form.id (form_id (compact t) form (find_true (λ u. same_compact (compact u) form) txs t h)))
