-- The map of outputs keeps a book: an output goes or comes in both.
use Rattle.std.proofs.Common.{◌≡◌, ℕ, suc, ◌+◌, ◌-◌, ◌<◌, Bool, true, false, cond, ◌&&◌, nat_eq, List, [], ◌∷◌, ◌++◌, length, take, drop, get_or}
use Rattle.std.proofs.Common.{Option, Some, None, is_some, option_map, unwrap_or, refl, sym, ap, ◌∙◌, subst, arith, sum_by}
use Rattle.std.specs.HashMap.{get, values, hash_map_len, UpdatesBy, PutsEntry}
use Rattle.std.specs.List.Sorted.{IsPermutation}
use Rattle.std.specs.Map.{lookup, remove_entry, values_of}
use Rattle.std.proofs.lemmas.Map.Entries.{sum_by_puts_entry, sum_by_values_permutation, sum_by-remove_entry}
use Rattle.std.proofs.lemmas.List.{take_more, take-append-drop, drop_more}
use Rattle.std.proofs.lemmas.Cmp.{eq_by_cmp_equiv}
use Rattle.std.specs.FinMap as book
use Rattle.std.specs.Ordering.{eq_by_cmp}
use Rattle.std.specs.Cmp.Lexicographic.{nat_list_cmp_total}
use Rattle.base_types.specs.contracts.hash.HashPartialEq.TheImpl.{eq-value}
use Rattle.cbdc_model.specs.Records.{Digest}
use Rattle.cbdc_model.specs.Coins.{OutPoint, Output, Coin, made_coins}
use Rattle.cbdc_model.specs.Book.{Book, key, total, same_output, taken, take_out, take_all as model_take, put_all}
use Rattle.same_records.proofs.Digests.{digest_is}
use Rattle.same_records.proofs.Keys.{same_point_is}
use Rattle.ledger_laws.proofs.Books.{key_cmp, total-insert, total-remove, get-remove_same, get-insert_same, get-insert_other, get-remove_other}
use Rattle.ledger_laws.proofs.Books.{same_key, other_key, keys}
use Rattle.audit.specs.declared.book.Book.{Book as Kept}
use Rattle.audit.specs.Keeping.{same_kept_point, HasBook, HasRest}

abbrev pub outpoint : Digest → ℕ → OutPoint
outpoint id index = record { tx = id; index = index }

swapped : (a b : Bool) → (a && b) ≡ (b && a)
swapped true true = refl
swapped true false = refl
swapped false true = refl
swapped false false = refl

point_test : (k p : OutPoint) → same_kept_point (k.tx, k.index) (p.tx, p.index) ≡ eq_by_cmp key_cmp (key p) (key k)
point_test k p =
    swapped (eq-value.it k.tx p.tx) (nat_eq k.index p.index) ∙ ap (λ t. nat_eq k.index p.index && t) (digest_is k.tx p.tx)
    ∙ same_point_is k p ∙ (eq_by_cmp_equiv nat_list_cmp_total).symm (key k) (key p)

-- a map with a key is what is left without it, with the key
insert_again : (b : Book) (k : List ℕ) (o : Output) → book.insert b k o ≡ book.insert (book.remove b k) k o
insert_again b k o = book.same_map nat_list_cmp_total (book.slice_cmp-IsAntisymmetric book.nat_cmp-IsAntisymmetric) _ _ (λ q. at q)
  where
    at : (q : List ℕ) → book.get (book.insert b k o) q ≡ book.get (book.insert (book.remove b k) k o) q
    at q = elim (keys q k) [
      | same_key t s ↦ get-insert_same b k o q s ∙ sym (get-insert_same (book.remove b k) k o q s)
      | other_key t s ↦ get-insert_other b k o q s ∙ sym (get-remove_other b k q s) ∙ sym (get-insert_other (book.remove b k) k o q s)
    ]

abbrev total_at : (Output → ℕ) → Option Output → ℕ
total_at f r = unwrap_or (option_map f r) 0

put_total : (f : Output → ℕ) (b : Book) (k : List ℕ) (o : Output) (r : Option Output) → book.get b k ≡ r
    → total f (book.insert b k o) + total_at f r ≡ total f b + f o
put_total f b k o None e = omega (arith, total-insert f b k o e)
put_total f b k o (Some p) e =
    let again : total f (book.insert b k o) ≡ f o + total f (book.remove b k) =
    ap (total f) (insert_again b k o) ∙ total-insert f (book.remove b k) k o (get-remove_same b k k refl) in
    omega (arith, again, total-remove f b k p e)

put_size : (n m : ℕ) (l : ℕ) (r : Option Output) → n ≡ m + (cond (is_some r) 0 1) → m ≡ l → n ≡ cond (is_some r) l (l + 1)
put_size n m l None e f = omega arith
put_size n m l (Some p) e f = omega arith

pub put_kept : (m n : Kept) (b : Book) (k : OutPoint) (o : Output) (old : Option Output) → HasBook m b
    → old ≡ get same_kept_point m.outputs (k.tx, k.index)
    → UpdatesBy same_kept_point (same_kept_point (k.tx, k.index)) m.outputs n.outputs (Some o)
    → PutsEntry same_kept_point m.outputs n.outputs (k.tx, k.index) o old
    → hash_map_len n.outputs ≡ hash_map_len m.outputs + (cond (is_some old) 0 1) → HasBook n (book.insert b (key k) o)
put_kept m n b k o old h is updates puts len =
    let was : old ≡ book.get b (key k) = is ∙ h.outputs k in
    record {
      outputs = λ p. updates.0 (p.tx, p.index) ∙ ap (λ t. cond t (Some o) (get same_kept_point m.outputs (p.tx, p.index))) (point_test k p)
          ∙ ap (λ r. cond (eq_by_cmp key_cmp (key p) (key k)) (Some o) r) (h.outputs p)
          ∙ sym (book.get-insert nat_list_cmp_total b (key k) o (key p));
      size = put_size (hash_map_len n.outputs) (hash_map_len m.outputs) (book.len b) old len h.size
          ∙ ap (λ r. cond (is_some r) (book.len b) (book.len b + 1)) was
          ∙ sym (book.len-insert nat_list_cmp_total b (key k) o);
      totals = λ f.
          let a : sum_by f (values n.outputs) + total_at f old ≡ sum_by f (values m.outputs) + f o =
          sum_by_puts_entry f same_kept_point m.outputs n.outputs (k.tx, k.index) o old is puts in
          let c : total f (book.insert b (key k) o) + total_at f old ≡ total f b + f o = put_total f b (key k) o old (sym was) in
          let w : sum_by f (values m.outputs) ≡ total f b = h.totals f in
          omega arith;
    }

remove_size : (n m l : ℕ) (o : Output) → n + (cond (is_some (Some o)) 1 0) ≡ m → m ≡ l → n ≡ l - 1
remove_size n m l o e f = omega arith

-- an output is taken out, and whether it was the claimed one is told
pub take_kept : (m n : Kept) (b : Book) (c : Coin) (o : Output) → HasBook m b → Some o ≡ get same_kept_point m.outputs (c.point.tx, c.point.index)
    → UpdatesBy same_kept_point (same_kept_point (c.point.tx, c.point.index)) m.outputs n.outputs None
    → IsPermutation (remove_entry (same_kept_point (c.point.tx, c.point.index)) m.outputs.entries) n.outputs.entries
    → hash_map_len n.outputs + (cond (is_some (Some o)) 1 0) ≡ hash_map_len m.outputs → HasRest (same_output o c.output) n (take_out b c)
take_kept m n b c o h is updates left len =
    let was : book.get b (key c.point) ≡ Some o = sym (h.outputs c.point) ∙ sym is in
    subst (λ r. HasRest (same_output o c.output) n (taken b c r)) (sym was)
    (elim (same_output o c.output) as (λ t. HasRest t n (cond t (Some (book.remove b (key c.point))) None)) [ true ↦ rest was | false ↦ tt ])
  where
    rest : book.get b (key c.point) ≡ Some o → HasBook n (book.remove b (key c.point))
    rest was = record {
      outputs = λ p. updates.0 (p.tx, p.index) ∙ ap (λ t. cond t None (get same_kept_point m.outputs (p.tx, p.index))) (point_test c.point p)
          ∙ ap (λ r. cond (eq_by_cmp key_cmp (key p) (key c.point)) None r) (h.outputs p)
          ∙ sym (book.get-remove nat_list_cmp_total b (key c.point) (key p));
      size = remove_size (hash_map_len n.outputs) (hash_map_len m.outputs) (book.len b) o len h.size
          ∙ sym (book.len-remove nat_list_cmp_total b (key c.point) ∙ ap (λ r. cond (is_some r) (book.len b - 1) (book.len b)) was);
      totals = λ f.
          let a : sum_by f (values n.outputs) ≡ sum_by f (values_of (remove_entry (same_kept_point (c.point.tx, c.point.index)) m.outputs.entries))
          = sum_by_values_permutation f (remove_entry (same_kept_point (c.point.tx, c.point.index)) m.outputs.entries) n.outputs.entries left in
          let d : sum_by f (values_of (remove_entry (same_kept_point (c.point.tx, c.point.index)) m.outputs.entries))
          + total_at f (lookup (same_kept_point (c.point.tx, c.point.index)) m.outputs.entries)
          ≡ sum_by f (values m.outputs) = sum_by-remove_entry f (same_kept_point (c.point.tx, c.point.index)) m.outputs.entries in
          let e : total_at f (lookup (same_kept_point (c.point.tx, c.point.index)) m.outputs.entries) ≡ f o = ap (total_at f) (sym is) in
          let v : total f b ≡ f o + total f (book.remove b (key c.point)) = total-remove f b (key c.point) o was in
          let w : sum_by f (values m.outputs) ≡ total f b = h.totals f in
          omega arith;
    }

pub take_none : (m n : Kept) (b : Book) (c : Coin) → HasBook m b → None ≡ get same_kept_point m.outputs (c.point.tx, c.point.index)
    → HasRest false n (take_out b c)
take_none m n b c h is = subst (λ r. HasRest false n (taken b c r)) (is ∙ h.outputs c.point) tt

-- one more output under an id
pub put_more : (b : Book) (id : Digest) (k : ℕ) (os : List Output) (o : Output)
    → put_all b (made_coins id k (os ++ o ∷ [])) ≡ book.insert (put_all b (made_coins id k os)) (key (outpoint id (k + length os))) o
put_more b id k [] o = ap (λ i. book.insert b (key (outpoint id i)) o) (let e : k ≡ k + 0 = omega arith in e)
put_more b id k (p ∷ os) o =
    put_more (book.insert b (key (outpoint id k)) p) id (suc k) os o
    ∙ ap (λ i. book.insert (put_all (book.insert b (key (outpoint id k)) p) (made_coins id (suc k) os)) (key (outpoint id i)) o)
    (let e : suc k + length os ≡ k + suc (length os) = omega arith in e)

-- one more coin is taken out of what is left
pub take_append : (r : Option Book) (cs ds : List Coin) → model_take r (cs ++ ds) ≡ model_take (model_take r cs) ds
take_append None cs ds = refl
take_append (Some b) [] ds = refl
take_append (Some b) (c ∷ cs) ds = take_append (take_out b c) cs ds

no_entries : (f : Output → ℕ) (es : List (List ℕ × Output)) → length es ≡ 0 → sum_by f (values_of es) ≡ 0
no_entries f [] h = refl
no_entries f (x ∷ es) h = absurd (omega arith)

-- the empty book comes to nothing
pub none_total : (f : Output → ℕ) → total f (book.empty {X = Output} {R = key_cmp}) ≡ 0
none_total f = no_entries f (book.entries (book.empty {X = Output} {R = key_cmp}))
    (sym (book.len-entries (book.empty {X = Output} {R = key_cmp})) ∙ book.len-empty key_cmp Output)

-- an empty map keeps it
pub empty_kept : (m : Kept) → m.outputs.entries ≡ [] → HasBook m book.empty
empty_kept m e = record {
  outputs = λ p. ap (λ es. lookup (same_kept_point (p.tx, p.index)) es) e ∙ sym (book.get-empty key_cmp (key p));
  size = ap length e ∙ sym (book.len-empty key_cmp Output);
  totals = λ f. ap (λ es. sum_by f (values_of es)) e ∙ sym (none_total f);
}

left_none : (m : Kept) (r : Option Book) → HasRest true m r → HasRest true m (model_take r [])
left_none m None h = h
left_none m (Some b) h = h

-- one more coin is taken out of what is left, or can't be
pub left_more : (cs : List Coin) (k : ℕ) (c : Coin) (m n : Kept) (b : Book) → k < length cs → c ≡ get_or cs k c
    → HasRest true m (model_take (Some b) (take k cs))
    → ((d : Book) → HasBook m d → HasRest true n (take_out d c)) → HasRest true n (model_take (Some b) (take (k + 1) cs))
left_more cs k c m n b lt is left step =
    subst (λ r. HasRest true n r)
    (sym (ap (model_take (Some b)) (take_more cs k c lt ∙ ap (λ d. take k cs ++ d ∷ []) (sym is)) ∙ take_append (Some b) (take k cs) (c ∷ [])))
    (by (model_take (Some b) (take k cs)) left)
  where
    by : (r : Option Book) → HasRest true m r → HasRest true n (model_take r (c ∷ []))
    by None l = absurd l
    by (Some d) l = left_none n (take_out d c) (step d l)

pub left_not : (cs : List Coin) (k : ℕ) (c : Coin) (m n : Kept) (b : Book) → k < length cs → c ≡ get_or cs k c
    → HasRest true m (model_take (Some b) (take k cs))
    → ((d : Book) → HasBook m d → HasRest false n (take_out d c)) → HasRest false n (model_take (Some b) cs)
left_not cs k c m n b lt is left step =
    subst (λ r. HasRest false n r)
    (sym (ap (model_take (Some b)) (sym (take-append-drop k cs)
    ∙ ap (λ l. take k cs ++ l) (drop_more cs k c lt ∙ ap (λ d. d ∷ drop (k + 1) cs) (sym is)))
    ∙ take_append (Some b) (take k cs) (c ∷ drop (k + 1) cs)))
    (by (model_take (Some b) (take k cs)) left)
  where
    lost : (r : Option Book) → HasRest false n r → HasRest false n (model_take r (drop (k + 1) cs))
    lost None l = tt
    lost (Some d) l = absurd l

    by : (r : Option Book) → HasRest true m r → HasRest false n (model_take r (c ∷ drop (k + 1) cs))
    by None l = absurd l
    by (Some d) l = lost (take_out d c) (step d l)
