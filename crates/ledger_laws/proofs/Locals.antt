-- Records that are each next and caused, put in order of stamp and node, are a kept history.
use Rattle.std.proofs.Common.{◌≡◌, inl, inr, ℕ, ◌<◌, ◌≤◌, ◌/◌, true, false, ◌&&◌, ◌||◌, ◌==◌, nat_lt, List, [], ◌∷◌, ◌++◌, Option, Some, refl, sym}
use Rattle.std.proofs.Common.{ap, ◌∙◌, subst, arith}
use Rattle.cbdc_model.specs.Causes.{greatest, at_shards, IsCaused}
use Rattle.cbdc_model.specs.History.{first_rows, goes_above, IsOrdered, Minted}
use Rattle.cbdc_model.specs.Ranges.{shard_node}
use Rattle.cbdc_model.specs.Records.{Shape, Batch, Compact, Record, Row, journal, record_of, kind_of, is_of, stamp_of, stamp_in, Lock, Finish, Forget}
use Rattle.cbdc_model.specs.Records.{Commit, Discard, Done}
use Rattle.cbdc_model.specs.World.{replaced}
use Rattle.ledger_laws.proofs.Cuts.{cons_same, replaced_at, replaced_away}
use Rattle.ledger_laws.proofs.Ledger.{EachSteady}
use Rattle.ledger_laws.proofs.Next.{Next, Steady}
use Rattle.ledger_laws.proofs.Rows.{at, away, at_node, head_at, head_away, journal-append}
use Rattle.ledger_laws.proofs.Members.{In}
use Rattle.ledger_laws.proofs.ByKind.{test_step, found_new}
use Rattle.ledger_laws.proofs.Moves.{SameCauses, caused_same, greatest_bound, in_range}
use Rattle.ledger_laws.proofs.OneHistory.{above_all, row_same}

-- journals I are journals J with a record r more at node n
module _ (K : Shape) (n : ℕ) (r : Record) (I J : ℕ → List Record) (next : Next K n (J n) r)
    (more : I n ≡ r ∷ J n) (others : (k : ℕ) → (n == k) ≡ false → I k ≡ J k) where
  older : (kind k : ℕ) (c : Batch) → stamp_in (record_of kind (I k) c) < stamp_of r → record_of kind (I k) c ≡ record_of kind (J k) c
  older kind k c lt = elim (at_node n k) [
    | away e ↦ ap (λ L. record_of kind L c) (others k e)
    | at e ↦ here kind k c e lt
  ]
    where
      too_new : {p q : Option Record} → p ≡ q → q ≡ Some r → stamp_in p < stamp_of r → ⊥
      too_new {p = p} e f lt = let s : stamp_in p ≡ stamp_of r = ap stamp_in (e ∙ f) in omega arith

      here : (kind k : ℕ) (c : Batch) → n ≡ k → stamp_in (record_of kind (I k) c) < stamp_of r → record_of kind (I k) c ≡ record_of kind (J k) c
      here kind k c e lt =
          let head : record_of kind (I k) c ≡ record_of kind (r ∷ J k) c = ap (λ L. record_of kind L c) (subst (λ m. I m ≡ r ∷ J m) e more) in
          elim ((kind_of r == kind) && is_of c r) as (λ t. ((kind_of r == kind) && is_of c r) ≡ t → record_of kind (I k) c ≡ record_of kind (J k) c) [
            | true ↦ λ t. absurd (too_new head (found_new kind r (J k) c t) lt)
            | false ↦ λ t. head ∙ test_step kind r (J k) c t
          ] refl

  older_shards : (kind : ℕ) (c : Batch) (stamp : ℕ) → stamp ≤ stamp_of r → greatest (λ s. stamp_in (at_shards K I kind c s)) K.shards < stamp
      → (s : ℕ) → at_shards K I kind c s ≡ at_shards K J kind c s
  older_shards kind c stamp le lt s = elim (at_node n (shard_node K s)) [
    | away e ↦ ap (λ L. record_of kind L c) (others (shard_node K s) e)
    | at e ↦ older kind (shard_node K s) c (omega
        (arith, greatest_bound (λ s. stamp_in (at_shards K I kind c s)) K.shards s (in_range K n (J n) r next s e)))
  ]

  module _ (m : ℕ) (apart : (n == m) ≡ false) where
    causes_before : (q : Record) → stamp_of q ≤ stamp_of r → Next K m (I m) q → IsCaused K I m q → SameCauses K I J q
    causes_before (Lock stamp b es) le at_q c = older 6 (b.lane / K.lanes) b (omega (arith, c.2))
    causes_before (Finish stamp b ds) le at_q c = older 7 (b.lane / K.lanes) b (omega (arith, c.2))
    causes_before (Forget stamp b) le at_q c = older 8 (b.lane / K.lanes) b (omega (arith, c.1))
    causes_before (Commit stamp b os) le at_q c = (subst (λ k. I k ≡ J k) at_q.2 (others m apart), older_shards 2 b stamp le (omega (arith, c.2)))
    causes_before (Discard stamp b) le at_q c = (subst (λ k. I k ≡ J k) at_q.2 (others m apart), older_shards 3 b stamp le (omega (arith, c.1)))
    causes_before (Done stamp b) le at_q c = (subst (λ k. I k ≡ J k) at_q.2 (others m apart), older_shards 4 b stamp le (omega (arith, c.1)))
    causes_before other le at_q c = tt

    was_caused_there : (q : Record) → stamp_of q ≤ stamp_of r → Next K m (I m) q → IsCaused K I m q → IsCaused K J m q
    was_caused_there q le at_q c = caused_same K I J m q (others m apart) (causes_before q le at_q c) c

above_stamp : (a b : Row) → goes_above a b ≡ true → stamp_of b.what ≤ stamp_of a.what
above_stamp a b h = above_numbers (stamp_of a.what) (stamp_of b.what) a.node b.node h
  where
    above_numbers : (p q u v : ℕ) → (nat_lt q p || ((q == p) && nat_lt v u)) ≡ true → q ≤ p
    above_numbers p q u v h = grind arith

-- a record of a journal stands in the list
in_list : (rows : List Row) (n : ℕ) (newer rest : List Record) (r : Record) → journal n rows ≡ newer ++ r ∷ rest
    → In (record { node = n; what = r }) rows
in_list [] n [] rest r e = absurd (let z : [] ≡ r ∷ rest = e in cc)
in_list [] n (q ∷ newer) rest r e = absurd (let z : [] ≡ q ∷ (newer ++ r ∷ rest) = e in cc)
in_list (row ∷ rows) n [] rest r e = elim (at_node row.node n) [
  | away a ↦ inr (in_list rows n [] rest r (sym (head_away row rows n a) ∙ e))
  | at a ↦ inl (row_same (record { node = n; what = r }) row (sym a)
      (sym (cons_same row.what r (journal n rows) rest (sym (head_at row rows n a) ∙ e)).0))
]
in_list (row ∷ rows) n (q ∷ newer) rest r e = elim (at_node row.node n) [
  | away a ↦ inr (in_list rows n (q ∷ newer) rest r (sym (head_away row rows n a) ∙ e))
  | at a ↦ inr (in_list rows n newer rest r (cons_same row.what q (journal n rows) (newer ++ r ∷ rest) (sym (head_at row rows n a) ∙ e)).1)
]

module _ (K : Shape) (minting : Minted) (P : Compact → Type 0) where
  abbrev whole : List Row → List Row
  whole later = later ++ first_rows K minting

  pub local_kept : (later : List Row) → IsOrdered later → EachSteady K minting P later → Steady K minting P later
  local_kept [] ordered each = tt
  local_kept (row ∷ later) ordered each = (
    head_next row later each,
    head_caused row later each,
    (each row.node [] (journal row.node later) row.what (head_at row later row.node refl)).2,
    local_kept later ordered.1 (λ n newer rest r e. rest_each row later ordered each n newer rest r e),
    (each row.node [] (journal row.node later) row.what (head_at row later row.node refl)).3,
  )
    where
      own_is : (row : Row) (later : List Row) → journal row.node later ++ journal row.node (first_rows K minting) ≡ journal row.node (whole later)
      own_is row later = sym (journal-append row.node later (first_rows K minting))

      head_next : (row : Row) (later : List Row) → EachSteady K minting P (row ∷ later) → Next K row.node (journal row.node (whole later)) row.what
      head_next row later each = subst (λ J. Next K row.node J row.what) (own_is row later)
          (each row.node [] (journal row.node later) row.what (head_at row later row.node refl)).0

      without : (row : Row) (later : List Row) (m : ℕ)
          → replaced (λ m. journal m (whole (row ∷ later))) row.node (journal row.node later ++ journal row.node (first_rows K minting)) m
          ≡ journal m (whole later)
      without row later m = elim (at_node row.node m) [
        | at e ↦ replaced_at (λ m. journal m (whole (row ∷ later))) row.node _ m e ∙ own_is row later ∙ ap (λ k. journal k (whole later)) e
        | away e ↦ replaced_away (λ m. journal m (whole (row ∷ later))) row.node _ m e ∙ head_away row (whole later) m e
      ]

      head_caused : (row : Row) (later : List Row) → EachSteady K minting P (row ∷ later)
          → IsCaused K (λ n. journal n (whole later)) row.node row.what
      head_caused row later each = subst (λ J. IsCaused K J row.node row.what) (λ i m. without row later m i)
          (each row.node [] (journal row.node later) row.what (head_at row later row.node refl)).1

      rest_each : (row : Row) (later : List Row) → IsOrdered (row ∷ later) → EachSteady K minting P (row ∷ later) → EachSteady K minting P later
      rest_each row later ordered each n newer rest r e = elim (at_node row.node n) [
        | at a ↦
            let f = each n (row.what ∷ newer) rest r (head_at row later n a ∙ ap (λ J. row.what ∷ J) e) in
            (f.0, subst (λ J. IsCaused K J n r) (λ i m. same_node a m i) f.1, f.2, f.3)
        | away a ↦
            let f = each n newer rest r (head_away row later n a ∙ e) in (
              f.0,
              was_caused_there K row.node row.what
                  (replaced (λ m. journal m (whole (row ∷ later))) n (rest ++ journal n (first_rows K minting)))
                  (replaced (λ m. journal m (whole later)) n (rest ++ journal n (first_rows K minting)))
                  (subst (λ J. Next K row.node J row.what) (sym (replaced_away (λ m. journal m (whole later)) n _ row.node (turned a)))
                  (head_next row later each))
                  (replaced_away (λ m. journal m (whole (row ∷ later))) n _ row.node (turned a) ∙ head_at row (whole later) row.node refl
                  ∙ ap (λ J. row.what ∷ J) (sym (replaced_away (λ m. journal m (whole later)) n _ row.node (turned a))))
                  (λ k b. other_node k b)
                  n a r (above_stamp row (record { node = n; what = r })
                  (above_all row later ordered.0 ordered.1 (record { node = n; what = r }) (in_list later n newer rest r e)))
                  (subst (λ J. Next K n J r) (sym (replaced_at (λ m. journal m (whole (row ∷ later))) n _ n refl)) f.0) f.1,
              f.2,
              f.3,
            )
      ]
        where
          turned : (row.node == n) ≡ false → (n == row.node) ≡ false
          turned h = grind arith

          same_node : row.node ≡ n → (m : ℕ)
              → replaced (λ m. journal m (whole (row ∷ later))) n (rest ++ journal n (first_rows K minting)) m
              ≡ replaced (λ m. journal m (whole later)) n (rest ++ journal n (first_rows K minting)) m
          same_node a m = elim (at_node n m) [
            | at b ↦ replaced_at (λ m. journal m (whole (row ∷ later))) n _ m b ∙ sym (replaced_at (λ m. journal m (whole later)) n _ m b)
            | away b ↦ replaced_away (λ m. journal m (whole (row ∷ later))) n _ m b
                ∙ head_away row (whole later) m (subst (λ k. (k == m) ≡ false) (sym a) b) ∙ sym (replaced_away (λ m. journal m (whole later)) n _ m b)
          ]

          other_node : (k : ℕ) → (row.node == k) ≡ false
              → replaced (λ m. journal m (whole (row ∷ later))) n (rest ++ journal n (first_rows K minting)) k
              ≡ replaced (λ m. journal m (whole later)) n (rest ++ journal n (first_rows K minting)) k
          other_node k b = elim (at_node n k) [
            | at c ↦ replaced_at (λ m. journal m (whole (row ∷ later))) n _ k c ∙ sym (replaced_at (λ m. journal m (whole later)) n _ k c)
            | away c ↦ replaced_away (λ m. journal m (whole (row ∷ later))) n _ k c ∙ head_away row (whole later) k b
                ∙ sym (replaced_away (λ m. journal m (whole later)) n _ k c)
          ]
