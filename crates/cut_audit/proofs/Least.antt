-- The least of the last stamps, list by list, and the places of the rows up to a stamp, place by place.
use Rattle.std.proofs.Common.{◌≡◌, ℕ, ◌+◌, ◌<◌, ◌≤◌, Bool, true, false, nat_lt, if◌then◌else◌, List, [], ◌∷◌, ◌++◌, length, take, reverse, get_or}
use Rattle.std.proofs.Common.{append-nil, sym, ap, ◌∙◌, subst, arith}
use Rattle.std.proofs.lemmas.Bool.{cases_lt}
use Rattle.std.proofs.Common.{inl, inr}
use Rattle.std.proofs.lemmas.List.{map_more, map-append}
use Rattle.cbdc_model.specs.Records.{Record, stamp_of}
use Rattle.audit.specs.declared.place.Place.{Place}
use Rattle.audit.specs.Rows.{row_at, rows_at, record_at, newest_first}
use Rattle.cut_audit.specs.Cuts.{rows_up_to, last_in, IsLeastLast}
use Rattle.cut_audit.proofs.UpTo.{rows_up_to-append, rows_up_to-reverse}

-- ---- the least

-- of the first so many lists
pub record IsLeastOf (all : List (List Record)) (k s : ℕ) : Type 0 where
  pub below : (n : ℕ) → n < k → s ≤ last_in all n
  pub one : (n : ℕ) × (n < k) × (s ≡ last_in all n)

pub least_first : (all : List (List Record)) (s : ℕ) → s ≡ last_in all 0 → IsLeastOf all 1 s
least_first all s e = record {
  below = λ n lt. let none : 0 ≡ n = omega (arith, lt) in subst (λ m. s ≤ last_in all m) none (omega (arith, e));
  one = (0, omega arith, e);
}

pub least_next : (all : List (List Record)) (k s t m : ℕ) → IsLeastOf all k s → t ≡ last_in all k → m ≤ s → m ≤ t → (s ≤ t → m ≡ s) → (t < s → m ≡ t)
    → IsLeastOf all (k + 1) m
least_next all k s t m l e low_s low_t is_s is_t = record {
  below = λ n lt. elim (cases_lt n k) [
    | inl old ↦ let b = l.below n old in omega (arith, b, low_s)
    | inr le ↦ let here : k ≡ n = omega (arith, lt, le) in subst (λ j. m ≤ last_in all j) here (omega (arith, e, low_t))
  ];
  one = elim (cases_lt t s) [
    | inl less ↦ (k, omega arith, is_t less ∙ e)
    | inr le ↦ let o = l.one in let lt = o.1 in (o.0, omega (arith, lt), is_s le ∙ o.2)
  ];
}

pub least_last : (all : List (List Record)) (k s : ℕ) → k ≡ length all → IsLeastOf all k s → IsLeastLast all s
least_last all k s e l = record {
  below = λ n lt. l.below n (subst (λ j. n < j) (sym e) lt);
  one = (l.one.0, subst (λ j. l.one.0 < j) e l.one.1, l.one.2);
}

-- ---- places

module _ (all : List (List Record)) (h : List Place) (s k : ℕ) (p d : Place) (r : Record) (v : List Place) (lt : k < length h)
    (ep : p ≡ get_or h k d) (er : r ≡ record_at all p)
    (so_far : rows_at all v ≡ rows_up_to s (rows_at all (take k h))) where
  one_more : rows_up_to s (rows_at all (take (k + 1) h)) ≡ rows_up_to s (rows_at all (take k h)) ++ rows_up_to s (row_at all p ∷ [])
  one_more =
      ap (rows_up_to s) (map_more (row_at all) h k d lt) ∙ rows_up_to-append s (rows_at all (take k h)) (row_at all (get_or h k d) ∷ [])
      ∙ ap (λ q. rows_up_to s (rows_at all (take k h)) ++ rows_up_to s (row_at all q ∷ [])) (sym ep)

  this : (c : Bool) → nat_lt s (stamp_of r) ≡ c → rows_up_to s (row_at all p ∷ []) ≡ (if c then [] else row_at all p ∷ [])
  this c e = ap (λ (b : Bool). if b then [] else row_at all p ∷ []) (ap (λ q. nat_lt s (stamp_of q)) (sym er) ∙ e)

  pub taken_more : nat_lt s (stamp_of r) ≡ false → (w : List Place) → w ≡ v ++ p ∷ [] → rows_at all w ≡ rows_up_to s (rows_at all (take (k + 1) h))
  taken_more e w is =
      ap (rows_at all) is ∙ map-append (row_at all) v (p ∷ []) ∙ ap (λ l. l ++ row_at all p ∷ []) so_far
      ∙ ap (λ l. rows_up_to s (rows_at all (take k h)) ++ l) (sym (this false e)) ∙ sym one_more

  pub left_out : nat_lt s (stamp_of r) ≡ true → rows_at all v ≡ rows_up_to s (rows_at all (take (k + 1) h))
  left_out e = so_far ∙ sym (append-nil (rows_up_to s (rows_at all (take k h))))
      ∙ ap (λ l. rows_up_to s (rows_at all (take k h)) ++ l) (sym (this true e)) ∙ sym one_more

pub within : (s t : ℕ) → t ≤ s → nat_lt s t ≡ false
within s t le = grind (arith, le)

pub beyond : (s t : ℕ) → s < t → nat_lt s t ≡ true
beyond s t lt = grind (arith, lt)

-- the rows of a cut are those of the whole history up to the stamp
pub cut_rows : (all : List (List Record)) (s : ℕ) (whole places : List Place) → rows_at all places ≡ rows_up_to s (rows_at all whole)
    → newest_first all places ≡ rows_up_to s (newest_first all whole)
cut_rows all s whole places e = ap reverse e ∙ sym (rows_up_to-reverse s (rows_at all whole))
