-- Journals whose stamps rise have a history in order of stamp and node.
use Rattle.std.proofs.Common.{◌≡◌, ℕ, zero, suc, ◌<◌, ◌≤◌, true, false, ◌&&◌, ◌||◌, ◌==◌, nat_lt, if◌then◌else◌, List, [], ◌∷◌, refl, sym, ap, ◌∙◌}
use Rattle.std.proofs.Common.{subst, arith}
use Rattle.cbdc_model.specs.History.{goes_above, IsOrdered}
use Rattle.cbdc_model.specs.Records.{Record, Row, journal, stamp_of}
use Rattle.ledger_laws.proofs.Worlds.{insert_row, above_inserted}
use Rattle.ledger_laws.proofs.Rows.{at, away, at_node, head_at, head_away}

-- stamps below a number, and rising stamps
abbrev pub AllBelow : List Record → ℕ → Type 0
AllBelow [] s = Unit {0}
AllBelow (q ∷ J) s = (stamp_of q < s) × AllBelow J s

abbrev pub Rising : List Record → Type 0
Rising [] = Unit {0}
Rising (r ∷ J) = AllBelow J (stamp_of r) × Rising J

pub below_more : (J : List Record) (s t : ℕ) → s ≤ t → AllBelow J s → AllBelow J t
below_more [] s t le h = tt
below_more (q ∷ J) s t le h = (let l : stamp_of q < s = h.0 in omega arith, below_more J s t le h.1)

pub insert_away : (row : Row) (later : List Row) (m : ℕ) → (row.node == m) ≡ false → journal m (insert_row row later) ≡ journal m later
insert_away row [] m e = head_away row [] m e
insert_away row (head ∷ later) m e =
    elim (goes_above row head) as (λ c. journal m (if c then row ∷ head ∷ later else head ∷ insert_row row later) ≡ journal m (head ∷ later)) [
      | true ↦ head_away row (head ∷ later) m e
      | false ↦ elim (at_node head.node m) [
        | at a ↦ head_at head (insert_row row later) m a ∙ ap (λ J. head.what ∷ J) (insert_away row later m e) ∙ sym (head_at head later m a)
        | away a ↦ head_away head (insert_row row later) m a ∙ insert_away row later m e ∙ sym (head_away head later m a)
      ]
    ]

-- a row of a node whose rows are all older
goes : (row head : Row) → stamp_of head.what < stamp_of row.what → goes_above row head ≡ true
goes row head lt = numbers (stamp_of row.what) (stamp_of head.what) row.node head.node lt
  where
    numbers : (p q u v : ℕ) → q < p → (nat_lt q p || ((q == p) && nat_lt v u)) ≡ true
    numbers p q u v lt = grind arith

goes_below : (row head : Row) → goes_above row head ≡ false → (head.node == row.node) ≡ false → goes_above head row ≡ true
goes_below row head h apart = numbers (stamp_of row.what) (stamp_of head.what) row.node head.node h apart
  where
    numbers : (p q u v : ℕ) → (nat_lt q p || ((q == p) && nat_lt v u)) ≡ false → (v == u) ≡ false → (nat_lt p q || ((p == q) && nat_lt u v)) ≡ true
    numbers p q u v h apart = grind arith

below_head : (row head : Row) (later : List Row) → AllBelow (journal row.node (head ∷ later)) (stamp_of row.what) → goes_above row head ≡ false
    → (head.node == row.node) ≡ false
below_head row head later h g = elim (at_node head.node row.node) [
  | away a ↦ a
  | at a ↦ absurd (
      let lt : stamp_of head.what < stamp_of row.what = (subst (λ J. AllBelow J (stamp_of row.what)) (head_at head later row.node a) h).0 in
      let z : true ≡ false = sym (goes row head lt) ∙ g in cc)
]

below_tail : (row head : Row) (later : List Row) → AllBelow (journal row.node (head ∷ later)) (stamp_of row.what)
    → AllBelow (journal row.node later) (stamp_of row.what)
below_tail row head later h = elim (at_node head.node row.node) [
  | away a ↦ subst (λ J. AllBelow J (stamp_of row.what)) (head_away head later row.node a) h
  | at a ↦ (subst (λ J. AllBelow J (stamp_of row.what)) (head_at head later row.node a) h).1
]

pub insert_at : (row : Row) (later : List Row) → AllBelow (journal row.node later) (stamp_of row.what)
    → journal row.node (insert_row row later) ≡ row.what ∷ journal row.node later
insert_at row [] h = head_at row [] row.node refl
insert_at row (head ∷ later) h =
    elim (goes_above row head) as (λ c. goes_above row head ≡ c
    → journal row.node (if c then row ∷ head ∷ later else head ∷ insert_row row later) ≡ row.what ∷ journal row.node (head ∷ later)) [
      | true ↦ λ g. head_at row (head ∷ later) row.node refl
      | false ↦ λ g.
          let apart : (head.node == row.node) ≡ false = below_head row head later h g in
          head_away head (insert_row row later) row.node apart ∙ insert_at row later (below_tail row head later h)
          ∙ ap (λ J. row.what ∷ J) (sym (head_away head later row.node apart))
    ] refl

pub insert_ordered : (row : Row) (later : List Row) → AllBelow (journal row.node later) (stamp_of row.what) → IsOrdered later
    → IsOrdered (insert_row row later)
insert_ordered row [] h o = (tt, tt)
insert_ordered row (head ∷ later) h o =
    elim (goes_above row head) as (λ c. goes_above row head ≡ c → IsOrdered (if c then row ∷ head ∷ later else head ∷ insert_row row later)) [
      | true ↦ λ g. (g, o)
      | false ↦ λ g. (
        above_inserted head row later (goes_below row head g (below_head row head later h g)) o.0,
        insert_ordered row later (below_tail row head later h) o.1,
      )
    ] refl

-- a journal's rows put into a list
abbrev put : ℕ → List Record → List Row → List Row
put n [] later = later
put n (r ∷ J) later = insert_row (record { node = n; what = r }) (put n J later)

put_away : (n : ℕ) (J : List Record) (later : List Row) (m : ℕ) → (n == m) ≡ false → journal m (put n J later) ≡ journal m later
put_away n [] later m e = refl
put_away n (r ∷ J) later m e = insert_away (record { node = n; what = r }) (put n J later) m e ∙ put_away n J later m e

put_at : (n : ℕ) (J : List Record) (later : List Row) → journal n later ≡ [] → Rising J
    → (journal n (put n J later) ≡ J) × (IsOrdered later → IsOrdered (put n J later))
put_at n [] later e h = (e, λ o. o)
put_at n (r ∷ J) later e h =
    let f = put_at n J later e h.1 in
    let b : AllBelow (journal n (put n J later)) (stamp_of r) = subst (λ L. AllBelow L (stamp_of r)) (sym f.0) h.0 in (
      insert_at (record { node = n; what = r }) (put n J later) b ∙ ap (λ L. r ∷ L) f.0,
      λ o. insert_ordered (record { node = n; what = r }) (put n J later) b (f.1 o),
    )

abbrev pub merged : ℕ → (ℕ → List Record) → List Row
merged zero X = []
merged (suc n) X = put n (X n) (merged n X)

pub record Merged (N : ℕ) (X : ℕ → List Record) : Type 0 where
  pub ordered : IsOrdered (merged N X)
  pub inside : (m : ℕ) → m < N → journal m (merged N X) ≡ X m
  pub beyond : (m : ℕ) → N ≤ m → journal m (merged N X) ≡ []

pub merge : (N : ℕ) (X : ℕ → List Record) → ((n : ℕ) → Rising (X n)) → Merged N X
merge zero X rising = record { ordered = tt; inside = λ m lt. absurd (omega arith); beyond = λ m le. refl }
merge (suc n) X rising =
    let below : Merged n X = merge n X rising in
    let here = put_at n (X n) (merged n X) (below.beyond n (omega arith)) (rising n) in
    record {
      ordered = here.1 below.ordered;
      inside = λ m lt. elim (at_node n m) [
        | at a ↦ subst (λ k. journal k (merged (suc n) X) ≡ X k) a here.0
        | away a ↦ put_away n (X n) (merged n X) m a ∙ below.inside m (smaller n m a lt)
      ];
      beyond = λ m le. put_away n (X n) (merged n X) m (larger n m le) ∙ below.beyond m (omega arith);
    }
  where
    smaller : (n m : ℕ) → (n == m) ≡ false → m < suc n → m < n
    smaller n m e lt = grind arith

    larger : (n m : ℕ) → suc n ≤ m → (n == m) ≡ false
    larger n m le = grind arith
