-- What is found in what is known.
use Rattle.std.proofs.Common.{◌≡◌, ◌<◌, ℕ, Bool, true, false, ◌&&◌, ◌==◌, nat_eq, List, ◌∷◌, length, Option, Some, None, if◌then◌else◌, refl, sym, ap}
use Rattle.std.proofs.Common.{◌∙◌, subst, arith, option_map, unwrap_or}
use Rattle.std.specs.Borrow.{Bor}
use Rattle.std.specs.Prelude.{MatchOption, IsSomeAnd}
use Rattle.std.specs.HashMap.{get}
use Rattle.cbdc_model.specs.Records.{Batch, Record, Row, journal, record_of, kind_of, is_of, stamp_of, last_stamp, same_batch}
use Rattle.audit.specs.Rows.{journal_in, record_at}
use Rattle.audit.proofs.Rows.{at, away, at_node, head_at, head_away}
use Rattle.audit.specs.declared.known.Known.{Known}
use Rattle.audit.specs.Knowing.{Knows, index_of, same_record_key}

pub found_some : (all : List (List Record)) (k : Known) (J : ℕ → List Record) (n kind : ℕ) (b : Batch) (i : ℕ) (r : Option (Bor Record))
    → Knows all k J
    → index_of k n kind b ≡ Some i → (i < length (journal_in all n) → IsSomeAnd r (λ x. x.now ≡ record_at all (record { node = n; index = i })))
    → MatchOption r (record_of kind (J n) b ≡ None) (λ x. record_of kind (J n) b ≡ Some x.now)
found_some all k J n kind b i None h e f = absurd (f (h.inside n kind b i e))
found_some all k J n kind b i (Some x) h e f =
    sym (h.newest n kind b) ∙ ap (option_map (λ i. record_at all (record { node = n; index = i }))) e
    ∙ ap (λ y. Some y) (sym (f (h.inside n kind b i e)))

pub found_none : (all : List (List Record)) (k : Known) (J : ℕ → List Record) (n kind : ℕ) (b : Batch) → Knows all k J
    → index_of k n kind b ≡ None → record_of kind (J n) b ≡ None
found_none all k J n kind b h e = sym (h.newest n kind b) ∙ ap (option_map (λ i. record_at all (record { node = n; index = i }))) e

-- one more record is known
pub noted : (all : List (List Record)) (k m : Known) (node index : ℕ) (r : Record) (past : List Row) → index < length (journal_in all node)
    → record_at all (record { node = node; index = index }) ≡ r
    → ((n kind : ℕ) (b : Batch) → index_of m n kind b
    ≡ (if (node == n) && ((kind_of r == kind) && is_of b r) then Some index else index_of k n kind b))
    → ((q : ℕ) → get nat_eq m.stamps q ≡ (if node == q then Some (stamp_of r) else get nat_eq k.stamps q))
    → Knows all k (λ n. journal n past) → Knows all m (λ n. journal n (record { node = node; what = r } ∷ past))
noted all k m node index r past lt is kept stamps h = record {
  inside = λ n kind b i e. elim (at_node node n) [
    | at same ↦ here n kind b i same (sym (kept n kind b) ∙ e)
    | away apart ↦ h.inside n kind b i (sym (other n kind b apart) ∙ e)
  ];
  newest = λ n kind b. elim (at_node node n) [
    | at same ↦ ap (option_map (read_at n)) (kept n kind b) ∙ newest_here n kind b same
        ∙ ap (λ J. record_of kind J b) (sym (head_at (record { node = node; what = r }) past n same))
    | away apart ↦ ap (option_map (read_at n)) (other n kind b apart) ∙ h.newest n kind b
        ∙ ap (λ J. record_of kind J b) (sym (head_away (record { node = node; what = r }) past n apart))
  ];
  stamps = λ n. elim (at_node node n) [
    | at same ↦ ap (λ o. unwrap_or o 0) (stamps n) ∙ stamp_here n (get nat_eq k.stamps n) same
        ∙ ap last_stamp (sym (head_at (record { node = node; what = r }) past n same))
    | away apart ↦ ap (λ o. unwrap_or o 0) (stamps n) ∙ stamp_other n (get nat_eq k.stamps n) apart ∙ h.stamps n
        ∙ ap last_stamp (sym (head_away (record { node = node; what = r }) past n apart))
  ];
}
  where
    read_at : ℕ → ℕ → Record
    read_at n i = record_at all (record { node = n; index = i })

    other : (n kind : ℕ) (b : Batch) → (node == n) ≡ false → index_of m n kind b ≡ index_of k n kind b
    other n kind b apart = kept n kind b ∙ ap (λ c. if c && ((kind_of r == kind) && is_of b r) then Some index else index_of k n kind b) apart

    tested : (n : ℕ) → node ≡ n → (node == n) ≡ true
    tested n same = grind arith

    here : (n kind : ℕ) (b : Batch) (i : ℕ) → node ≡ n
        → (if (node == n) && ((kind_of r == kind) && is_of b r) then Some index else index_of k n kind b) ≡ Some i → i < length (journal_in all n)
    here n kind b i same e =
        elim ((node == n) && ((kind_of r == kind) && is_of b r)) as
        (λ c. (if c then Some index else index_of k n kind b) ≡ Some i → i < length (journal_in all n)) [
          | true ↦ λ f. let g : index ≡ i = cc in
              subst (λ j. j < length (journal_in all n)) g (subst (λ q. index < length (journal_in all q)) same lt)
          | false ↦ λ f. h.inside n kind b i f
        ] e

    newest_here : (n kind : ℕ) (b : Batch) → node ≡ n
        → option_map (read_at n) (if (node == n) && ((kind_of r == kind) && is_of b r) then Some index else index_of k n kind b)
        ≡ record_of kind (r ∷ journal n past) b
    newest_here n kind b same =
        ap (λ c. option_map (read_at n) (if c && ((kind_of r == kind) && is_of b r) then Some index else index_of k n kind b)) (tested n same)
        ∙ elim ((kind_of r == kind) && is_of b r) as
        (λ c. option_map (read_at n) (if c then Some index else index_of k n kind b) ≡ (if c then Some r else record_of kind (journal n past) b)) [
          | true ↦ ap (λ x. Some x) (subst (λ q. record_at all (record { node = q; index = index }) ≡ r) same is)
          | false ↦ h.newest n kind b
        ]

    stamp_here : (n : ℕ) (o : Option ℕ) → node ≡ n → unwrap_or (if node == n then Some (stamp_of r) else o) 0 ≡ stamp_of r
    stamp_here n o same = ap (λ c. unwrap_or (if c then Some (stamp_of r) else o) 0) (tested n same)

    stamp_other : (n : ℕ) (o : Option ℕ) → (node == n) ≡ false → unwrap_or (if node == n then Some (stamp_of r) else o) 0 ≡ unwrap_or o 0
    stamp_other n o apart = ap (λ c. unwrap_or (if c then Some (stamp_of r) else o) 0) apart

pub key_test : (node n k kind : ℕ) (r : Record) (p b : Batch) → kind_of r ≡ k → is_of b r ≡ same_batch p b
    → same_record_key (node, k, p.lane, p.number) (n, kind, b.lane, b.number) ≡ ((node == n) && ((kind_of r == kind) && is_of b r))
key_test node n k kind r p b e f = rw (e, f) (apart (node == n) (k == kind) (p.lane == b.lane) (p.number == b.number))
  where
    apart : (s t u v : Bool) → ((s && t) && u) && v ≡ s && (t && (u && v))
    apart true true u v = refl
    apart true false u v = refl
    apart false t u v = refl
