-- Places, and the rows that stand there.
use Rattle.std.proofs.Common.{◌≡◌, ◌⊎◌, ◌+◌, ◌-◌, ◌<◌, ◌≤◌, inl, inr, ℕ, suc, zero, true, false, List, [], ◌∷◌, ◌++◌, length, take, drop, get_or, sym}
use Rattle.std.proofs.Common.{ap, ◌∙◌, subst, arith}
use Rattle.std.specs.Borrow.{Bor}
use Rattle.std.specs.Prelude.{All}
use Rattle.std.proofs.lemmas.List.{get_or-map, map_push, take_more, get_or_default, length-map, map-append, drop-map, take_all, length-drop}
use Rattle.std.proofs.lemmas.List.Elements.{All-same, All-append, All-drop}
use Rattle.cbdc_model.specs.Records.{Record, journal}
use Rattle.cbdc_model.specs.History.{goes_above}
use Rattle.audit.specs.declared.place.Place.{Place}
use Rattle.audit.specs.Rows.{read, journal_in, absent_record, IsRecordPlace, row_at, rows_at}
use Rattle.audit.specs.Merges.{rows_of_node, MergedUpTo, AreApart, RiseAll}
use Rattle.audit.proofs.MergeSteps.{take_left, take_right, finish}

pub journal_read : (js : List (Bor (List Record))) (n : ℕ) (j : Bor (List Record)) → n < length js → j ≡ get_or js n j
    → journal_in (read js) n ≡ j.now
journal_read js n j lt e = get_or-map (λ b. b.now) js n j [] lt ∙ ap (λ b. b.now) (sym e)

-- a node with a place in its journal is there
pub node_there : (js : List (Bor (List Record))) (n i : ℕ) → i < length (journal_in (read js) n) → n < length js
node_there [] zero i h = absurd (omega arith)
node_there [] (suc n) i h = absurd (omega arith)
node_there (j ∷ js) zero i h = omega arith
node_there (j ∷ js) (suc n) i h = let k : n < length js = node_there js n i h in omega arith

-- the next place of a node's own
pub own_next : (all : List (List Record)) (node index : ℕ) (places : List Place) → index < length (journal_in all node)
    → rows_at all places ≡ rows_of_node node (take index (journal_in all node))
    → rows_at all (places ++ record { node = node; index = index } ∷ []) ≡ rows_of_node node (take (index + 1) (journal_in all node))
own_next all node index places lt e =
    map_push (row_at all) places (record { node = node; index = index })
    ∙ ap (λ rows. rows ++ row_at all (record { node = node; index = index }) ∷ []) e
    ∙ sym (map_push (λ r. record { node = node; what = r }) (take index (journal_in all node)) (get_or (journal_in all node) index absent_record))
    ∙ ap (rows_of_node node) (sym (take_more (journal_in all node) index absent_record lt))

-- a place that was read from a list
pub row_read : (all : List (List Record)) (a : List Place) (i : ℕ) (p : Place) → i < length a → p ≡ get_or a i p
    → row_at all p ≡ get_or (rows_at all a) i (row_at all p)
row_read all a i p lt e = ap (row_at all) e ∙ sym (get_or-map (row_at all) a i p (row_at all p) lt)

pub length_rows : (all : List (List Record)) (a : List Place) → length (rows_at all a) ≡ length a
length_rows all a = length-map a (row_at all)

-- the next place is taken from the first list, and from the second
pub left_step : (all : List (List Record)) (a b places : List Place) (i j : ℕ) (p q d : Place)
    → MergedUpTo (rows_at all a) (rows_at all b) (rows_at all places) i j
    → i < length a → j < length b → p ≡ get_or a i d → q ≡ get_or b j d → goes_above (row_at all q) (row_at all p) ≡ true
    → MergedUpTo (rows_at all a) (rows_at all b) (rows_at all (places ++ p ∷ [])) (i + 1) j
left_step all a b places i j p q d m la lb ep eq g =
    subst (λ rows. MergedUpTo (rows_at all a) (rows_at all b) rows (i + 1) j) (sym (map_push (row_at all) places p))
    (take_left (rows_at all a) (rows_at all b) (rows_at all places) i j (row_at all p) (row_at all q) m (rw length_rows la) (rw length_rows lb)
    (row_read all a i p la (ep ∙ get_or_default a i d p la)) (row_read all b j q lb (eq ∙ get_or_default b j d q lb)) g)

pub right_step : (all : List (List Record)) (a b places : List Place) (i j : ℕ) (p q d : Place)
    → MergedUpTo (rows_at all a) (rows_at all b) (rows_at all places) i j
    → i < length a → j < length b → p ≡ get_or a i d → q ≡ get_or b j d → goes_above (row_at all q) (row_at all p) ≡ false
    → MergedUpTo (rows_at all a) (rows_at all b) (rows_at all (places ++ q ∷ [])) i (j + 1)
right_step all a b places i j p q d m la lb ep eq g =
    subst (λ rows. MergedUpTo (rows_at all a) (rows_at all b) rows i (j + 1)) (sym (map_push (row_at all) places q))
    (take_right (rows_at all a) (rows_at all b) (rows_at all places) i j (row_at all p) (row_at all q) m (rw length_rows la) (rw length_rows lb)
    (row_read all a i p la (ep ∙ get_or_default a i d p la)) (row_read all b j q lb (eq ∙ get_or_default b j d q lb)) g)

-- what is left of a list, as its whole rest
rest_all : (a : List Place) (i : ℕ) → take (length a - i) (drop i a) ≡ drop i a
rest_all a i = take_all (length a - i) (drop i a) (omega (arith, length-drop i a))

whole_rest : (places a b : List Place) (i j : ℕ) → (places ++ take (length a - i) (drop i a)) ++ take (length b - j) (drop j b)
    ≡ (places ++ drop i a) ++ drop j b
whole_rest places a b i j = let e = rest_all a i in let f = rest_all b j in rw (e, f)

rows_joined : (all : List (List Record)) (places a b : List Place) (i j : ℕ)
    → rows_at all ((places ++ drop i a) ++ drop j b) ≡ (rows_at all places ++ drop i (rows_at all a)) ++ drop j (rows_at all b)
rows_joined all places a b i j =
    map-append (row_at all) (places ++ drop i a) (drop j b)
    ∙ ap (λ rows. rows ++ rows_at all (drop j b))
    (map-append (row_at all) places (drop i a) ∙ ap (λ rows. rows_at all places ++ rows) (sym (drop-map (row_at all) i a)))
    ∙ ap (λ rows. (rows_at all places ++ drop i (rows_at all a)) ++ rows) (sym (drop-map (row_at all) j b))

pub joined : (all : List (List Record)) (a b places : List Place) (i j : ℕ) (whole : List Place)
    → MergedUpTo (rows_at all a) (rows_at all b) (rows_at all places) i j
    → (length a ≤ i) ⊎ (length b ≤ j) → whole ≡ (places ++ take (length a - i) (drop i a)) ++ take (length b - j) (drop j b)
    → AreApart (rows_at all a) (rows_at all b)
    → ((n : ℕ) → journal n (rows_at all whole) ≡ journal n (rows_at all a) ++ journal n (rows_at all b))
    × (RiseAll (rows_at all a) → RiseAll (rows_at all b) → RiseAll (rows_at all whole))
joined all a b places i j whole m ends e0 apart =
    let e : whole ≡ (places ++ drop i a) ++ drop j b = e0 ∙ whole_rest places a b i j in
    let f = finish (rows_at all a) (rows_at all b) (rows_at all places) i j m (at_end ends) apart in
    let same : rows_at all whole ≡ (rows_at all places ++ drop i (rows_at all a)) ++ drop j (rows_at all b) =
    ap (rows_at all) e ∙ rows_joined all places a b i j in (
      λ n. ap (journal n) same ∙ f.0 n,
      λ ra rb. subst RiseAll (sym same) (f.1 ra rb),
    )
  where
    at_end : (length a ≤ i) ⊎ (length b ≤ j) → (length (rows_at all a) ≤ i) ⊎ (length (rows_at all b) ≤ j)
    at_end (inl le) = inl (rw length_rows le)
    at_end (inr le) = inr (rw length_rows le)

pub all_joined : (all : List (List Record)) (a b places : List Place) (i j : ℕ) (whole : List Place)
    → whole ≡ (places ++ take (length a - i) (drop i a)) ++ take (length b - j) (drop j b)
    → All (IsRecordPlace all) a → All (IsRecordPlace all) b → All (IsRecordPlace all) places → All (IsRecordPlace all) whole
all_joined all a b places i j whole e ha hb h =
    All-same (IsRecordPlace all) whole ((places ++ drop i a) ++ drop j b) (e ∙ whole_rest places a b i j)
    (All-append (IsRecordPlace all) (places ++ drop i a) (drop j b)
    (All-append (IsRecordPlace all) places (drop i a) h (All-drop (IsRecordPlace all) i a ha)) (All-drop (IsRecordPlace all) j b hb))
