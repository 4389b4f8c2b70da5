-- The steps of a merge.
use Rattle.std.proofs.Common.{◌≡◌, ◌⊎◌, ◌+◌, ◌<◌, ◌≤◌, inl, inr, ℕ, suc, zero, true, false, not, ◌&&◌, ◌||◌, ◌==◌, nat_lt, List, [], ◌∷◌, ◌++◌}
use Rattle.std.proofs.Common.{length, take, drop, get_or, if◌then◌else◌, refl, sym, ap, ◌∙◌, subst, arith, append_assoc}
use Rattle.std.proofs.lemmas.List.{take-append-drop, append-nil, drop_more, drop_all}
use Rattle.cbdc_model.specs.Records.{Record, Row, journal, stamp_of}
use Rattle.cbdc_model.specs.History.{goes_above}
use Rattle.ledger_laws.proofs.Lookups.{other_way}
use Rattle.audit.specs.Rows.{journal_in}
use Rattle.audit.specs.Merges.{RiseAll, journals_below, AreApart, MergedUpTo}
use Rattle.audit.proofs.Rows.{at, away, at_node, head_at, journal-append}

-- two rows that may come next, in their order
put_between : (rows : List Row) (a b : Row) (more_a more_b : List Row) → RiseAll (rows ++ a ∷ more_a) → RiseAll (rows ++ b ∷ more_b)
    → goes_above b a ≡ true → RiseAll (rows ++ a ∷ (b ∷ more_b))
put_between [] a b more_a more_b h k e = (e, k)
put_between (r ∷ []) a b more_a more_b h k e = (h.0, put_between [] a b more_a more_b h.1 k.1 e)
put_between (r ∷ (q ∷ rows)) a b more_a more_b h k e = (h.0, put_between (q ∷ rows) a b more_a more_b h.1 k.1 e)

front_only : (rows : List Row) (a : Row) (more_a : List Row) → RiseAll (rows ++ a ∷ more_a) → RiseAll (rows ++ a ∷ [])
front_only [] a more_a h = (tt, tt)
front_only (r ∷ []) a more_a h = (h.0, front_only [] a more_a h.1)
front_only (r ∷ (q ∷ rows)) a more_a h = (h.0, front_only (q ∷ rows) a more_a h.1)

goes_other : (p q u v : ℕ) → (nat_lt q p || ((q == p) && nat_lt v u)) ≡ false → (u == v) ≡ false → (nat_lt p q || ((p == q) && nat_lt u v)) ≡ true
goes_other p q u v h apart = grind arith

no_cons : (r : Record) (J : List Record) → r ∷ J ≡ [] → ⊥
no_cons r J e = cc

nil_parts : (xs ys : List Record) → xs ++ ys ≡ [] → (xs ≡ []) × (ys ≡ [])
nil_parts [] ys e = (refl, e)
nil_parts (x ∷ xs) ys e = absurd (no_cons x (xs ++ ys) e)

-- a node with no rows has none behind a place
none_behind : (n i : ℕ) (a : List Row) → journal n a ≡ [] → journal n (drop i a) ≡ []
none_behind n i a e =
    (nil_parts (journal n (take i a)) (journal n (drop i a))
    (sym (journal-append n (take i a) (drop i a)) ∙ ap (journal n) (take-append-drop i a) ∙ e)).1

-- rows that may come next from two lists without a common node
nodes_apart : (a b : List Row) (i j : ℕ) (x y : Row) (more_a more_b : List Row) → AreApart a b → drop i a ≡ x ∷ more_a → drop j b ≡ y ∷ more_b
    → (x.node == y.node) ≡ false
nodes_apart a b i j x y more_a more_b apart ea eb = elim (at_node x.node y.node) [
  | away e ↦ e
  | at e ↦ absurd (clash (apart y.node) e)
]
  where
    clash : (journal y.node a ≡ []) ⊎ (journal y.node b ≡ []) → x.node ≡ y.node → ⊥
    clash (inl none) e = no_cons x.what (journal y.node more_a)
        (sym (head_at x more_a y.node e) ∙ sym (ap (journal y.node) ea) ∙ none_behind y.node i a none)
    clash (inr none) e = no_cons y.what (journal y.node more_b)
        (sym (head_at y more_b y.node refl) ∙ sym (ap (journal y.node) eb) ∙ none_behind y.node j b none)

-- the next row is taken from the first list
pub take_left : (a b rows : List Row) (i j : ℕ) (x y : Row) → MergedUpTo a b rows i j → i < length a → j < length b
    → x ≡ get_or a i x → y ≡ get_or b j y → goes_above y x ≡ true → MergedUpTo a b (rows ++ x ∷ []) (i + 1) j
take_left a b rows i j x y m la lb ex ey g =
    let ea : drop i a ≡ x ∷ drop (i + 1) a = drop_more a i x la ∙ ap (λ r. r ∷ drop (i + 1) a) (sym ex) in
    let eb : drop j b ≡ y ∷ drop (j + 1) b = drop_more b j y lb ∙ ap (λ r. r ∷ drop (j + 1) b) (sym ey) in
    record {
      left = omega arith;
      right = m.right;
      journals = λ apart n.
          let jx : journal n (x ∷ []) ++ journal n (drop (i + 1) a) ≡ journal n (drop i a) =
          sym (journal-append n (x ∷ []) (drop (i + 1) a)) ∙ ap (journal n) (sym ea) in
          ap (λ J. J ++ (journal n (drop (i + 1) a) ++ journal n (drop j b))) (journal-append n rows (x ∷ []))
          ∙ move (journal n rows) (journal n (x ∷ [])) (journal n (drop (i + 1) a)) (journal n (drop j b))
          ∙ ap (λ J. journal n rows ++ (J ++ journal n (drop j b))) jx ∙ m.journals apart n;
      rises = λ apart ra rb.
          let h : RiseAll (rows ++ x ∷ drop (i + 1) a) = subst (λ l. RiseAll (rows ++ l)) ea (m.rises apart ra rb).0 in
          let k : RiseAll (rows ++ y ∷ drop (j + 1) b) = subst (λ l. RiseAll (rows ++ l)) eb (m.rises apart ra rb).1 in (
            subst RiseAll (sym (append_assoc rows (x ∷ []) (drop (i + 1) a))) h,
            subst RiseAll (sym (append_assoc rows (x ∷ []) (drop j b)))
                (subst (λ l. RiseAll (rows ++ x ∷ l)) (sym eb) (put_between rows x y (drop (i + 1) a) (drop (j + 1) b) h k g)),
          );
    }
  where
    move : (p q r s : List Record) → (p ++ q) ++ (r ++ s) ≡ p ++ ((q ++ r) ++ s)
    move p q r s = simp append_assoc

-- the next row is taken from the second list
pub take_right : (a b rows : List Row) (i j : ℕ) (x y : Row) → MergedUpTo a b rows i j → i < length a → j < length b
    → x ≡ get_or a i x → y ≡ get_or b j y → goes_above y x ≡ false → MergedUpTo a b (rows ++ y ∷ []) i (j + 1)
take_right a b rows i j x y m la lb ex ey g =
    let ea : drop i a ≡ x ∷ drop (i + 1) a = drop_more a i x la ∙ ap (λ r. r ∷ drop (i + 1) a) (sym ex) in
    let eb : drop j b ≡ y ∷ drop (j + 1) b = drop_more b j y lb ∙ ap (λ r. r ∷ drop (j + 1) b) (sym ey) in
    record {
      left = m.left;
      right = omega arith;
      journals = λ apart n.
          let jy : journal n (y ∷ []) ++ journal n (drop (j + 1) b) ≡ journal n (drop j b) =
          sym (journal-append n (y ∷ []) (drop (j + 1) b)) ∙ ap (journal n) (sym eb) in
          ap (λ J. J ++ (journal n (drop i a) ++ journal n (drop (j + 1) b))) (journal-append n rows (y ∷ []))
          ∙ past (journal n rows) (journal n (y ∷ [])) (journal n (drop i a)) (journal n (drop (j + 1) b)) (one_none n (apart n) jy)
          ∙ ap (λ J. journal n rows ++ (journal n (drop i a) ++ J)) jy ∙ m.journals apart n;
      rises = λ apart ra rb.
          let h : RiseAll (rows ++ x ∷ drop (i + 1) a) = subst (λ l. RiseAll (rows ++ l)) ea (m.rises apart ra rb).0 in
          let k : RiseAll (rows ++ y ∷ drop (j + 1) b) = subst (λ l. RiseAll (rows ++ l)) eb (m.rises apart ra rb).1 in
          let away : (y.node == x.node) ≡ false = other_way x.node y.node (nodes_apart a b i j x y (drop (i + 1) a) (drop (j + 1) b) apart ea eb) in
          let above : goes_above x y ≡ true = goes_other (stamp_of y.what) (stamp_of x.what) y.node x.node g away in (
            subst RiseAll (sym (append_assoc rows (y ∷ []) (drop i a)))
                (subst (λ l. RiseAll (rows ++ y ∷ l)) (sym ea) (put_between rows y x (drop (j + 1) b) (drop (i + 1) a) k h above)),
            subst RiseAll (sym (append_assoc rows (y ∷ []) (drop (j + 1) b))) k,
          );
    }
  where
    past : (p q r s : List Record) → (r ≡ []) ⊎ (q ≡ []) → (p ++ q) ++ (r ++ s) ≡ p ++ (r ++ (q ++ s))
    past p q r s (inl e) = rw e (append_assoc p q s)
    past p q r s (inr e) = rw e (ap (λ l. l ++ (r ++ s)) (append-nil p))

    one_none : (n : ℕ) → (journal n a ≡ []) ⊎ (journal n b ≡ []) → journal n (y ∷ []) ++ journal n (drop (j + 1) b) ≡ journal n (drop j b)
        → (journal n (drop i a) ≡ []) ⊎ (journal n (y ∷ []) ≡ [])
    one_none n (inl e) jy = inl (none_behind n i a e)
    one_none n (inr e) jy = inr (nil_parts (journal n (y ∷ [])) (journal n (drop (j + 1) b)) (jy ∙ none_behind n j b e)).0

-- what is left of the one list, when the other is at its end
pub finish : (a b rows : List Row) (i j : ℕ) → MergedUpTo a b rows i j → (length a ≤ i) ⊎ (length b ≤ j) → AreApart a b
    → ((n : ℕ) → journal n ((rows ++ drop i a) ++ drop j b) ≡ journal n a ++ journal n b)
    × (RiseAll a → RiseAll b → RiseAll ((rows ++ drop i a) ++ drop j b))
finish a b rows i j m ends apart = (
  λ n. journal-append n (rows ++ drop i a) (drop j b) ∙ ap (λ J. J ++ journal n (drop j b)) (journal-append n rows (drop i a))
      ∙ append_assoc (journal n rows) (journal n (drop i a)) (journal n (drop j b)) ∙ m.journals apart n,
  λ ra rb. at_end ends (m.rises apart ra rb),
)
  where
    at_end : (length a ≤ i) ⊎ (length b ≤ j) → RiseAll (rows ++ drop i a) × RiseAll (rows ++ drop j b) → RiseAll ((rows ++ drop i a) ++ drop j b)
    at_end (inl le) h = rw (drop_all i a le, append-nil rows) h.1
    at_end (inr le) h = rw (drop_all j b le, append-nil (rows ++ drop i a)) h.0

pub begin : (a b : List Row) → MergedUpTo a b [] 0 0
begin a b = record { left = omega arith; right = omega arith; journals = λ apart n. refl; rises = λ apart ra rb. (ra, rb) }

-- lists with the journals of two ranges of nodes
pub ranges_apart : (all : List (List Record)) (low middle high : ℕ) (a b : List Row) → ((n : ℕ) → journal n a ≡ journals_below all low middle n)
    → ((n : ℕ) → journal n b ≡ journals_below all middle high n) → AreApart a b
ranges_apart all low middle high a b ha hb n = elim (nat_lt n middle) as (λ c. nat_lt n middle ≡ c → (journal n a ≡ []) ⊎ (journal n b ≡ [])) [
  | true ↦ λ e. inr (hb n ∙ left_of (journal_in all n) n middle high e)
  | false ↦ λ e. inl (ha n ∙ right_of (journal_in all n) n low middle e)
] refl
  where
    left_of : (J : List Record) (n middle high : ℕ) → nat_lt n middle ≡ true → (if not (nat_lt n middle) && nat_lt n high then J else []) ≡ []
    left_of J n middle high e = grind arith

    right_of : (J : List Record) (n low middle : ℕ) → nat_lt n middle ≡ false → (if not (nat_lt n low) && nat_lt n middle then J else []) ≡ []
    right_of J n low middle e = grind arith

pub ranges_joined : (all : List (List Record)) (low middle high n : ℕ) → low ≤ middle → middle ≤ high
    → journals_below all low middle n ++ journals_below all middle high n ≡ journals_below all low high n
ranges_joined all low middle high n lm mh = elim (nat_lt n middle) as
    (λ c. nat_lt n middle ≡ c → journals_below all low middle n ++ journals_below all middle high n ≡ journals_below all low high n) [
      | true ↦ λ e. left_side (journal_in all n) e
      | false ↦ λ e. right_side (journal_in all n) e
    ] refl
  where
    left_side : (J : List Record) → nat_lt n middle ≡ true
        → (if not (nat_lt n low) && nat_lt n middle then J else []) ++ (if not (nat_lt n middle) && nat_lt n high then J else [])
        ≡ (if not (nat_lt n low) && nat_lt n high then J else [])
    left_side J e =
        let f : (if not (nat_lt n middle) && nat_lt n high then J else []) ≡ [] = grind arith in
        let g : (if not (nat_lt n low) && nat_lt n middle then J else []) ≡ (if not (nat_lt n low) && nat_lt n high then J else []) = grind arith in
        rw f (append-nil _ ∙ g)

    right_side : (J : List Record) → nat_lt n middle ≡ false
        → (if not (nat_lt n low) && nat_lt n middle then J else []) ++ (if not (nat_lt n middle) && nat_lt n high then J else [])
        ≡ (if not (nat_lt n low) && nat_lt n high then J else [])
    right_side J e =
        let f : (if not (nat_lt n low) && nat_lt n middle then J else []) ≡ [] = grind arith in
        let g : (if not (nat_lt n middle) && nat_lt n high then J else []) ≡ (if not (nat_lt n low) && nat_lt n high then J else []) = grind arith in
        rw f g

-- the journals of all nodes
pub all_nodes : (all : List (List Record)) (n : ℕ) → journals_below all 0 (length all) n ≡ journal_in all n
all_nodes all n = elim (nat_lt n (length all)) as
    (λ c. nat_lt n (length all) ≡ c → (if not (nat_lt n 0) && c then journal_in all n else []) ≡ journal_in all n) [
      | true ↦ λ e. grind arith
      | false ↦ λ e. beyond all n (outside n (length all) e)
    ] refl
  where
    outside : (n m : ℕ) → nat_lt n m ≡ false → m ≤ n
    outside n m e = grind arith

    beyond : (all : List (List Record)) (n : ℕ) → length all ≤ n → (if not (nat_lt n 0) && false then journal_in all n else []) ≡ journal_in all n
    beyond all n le = let e : journal_in all n ≡ [] = past all n le in grind (arith, e)
      where
        past : (all : List (List Record)) (n : ℕ) → length all ≤ n → get_or all n [] ≡ []
        past [] n le = refl
        past (J ∷ all) zero le = absurd (omega arith)
        past (J ∷ all) (suc n) le = past all n (omega arith)
