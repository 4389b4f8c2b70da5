-- No stamp is above the greatest one before by more than the number of records that have come.
use Rattle.std.proofs.Common.{◌≡◌, ◌⊎◌, inl, inr, ℕ, suc, ◌+◌, ◌-◌, ◌<◌, ◌≤◌, List, [], ◌∷◌, ◌++◌, length, refl, sym, ap, ◌∙◌, subst, arith}
use Rattle.std.proofs.Common.{append_assoc}
use Rattle.std.proofs.lemmas.List.{length-append}
use Rattle.cbdc_model.specs.Records.{Shape, Batch, Compact, Record, Row, journal, record_of, stamp_of, stamp_in, last_stamp}
use Rattle.cbdc_model.specs.Causes.{IsCaused}
use Rattle.cbdc_model.specs.History.{Minted, first_rows}
use Rattle.cbdc_model.specs.Lanes.{IsEnd, first_of}
use Rattle.ledger_laws.proofs.Next.{Steady}
use Rattle.ledger_laws.proofs.ByKind.{after_stamp, at_a_node, next_not_first}
use Rattle.ledger_laws.proofs.Rows.{at, away, at_node, head_at, head_away}
use Rattle.ledger_laws.proofs.Repeats.{all_order}
use Rattle.ledger_laws.proofs.HistoryLaws.{journal-append}
use Rattle.ledger_laws.proofs.Cuts.{end_trans}
use Rattle.run_laws.proofs.Sums.{sum_below, sum_le, sum_more}
use Rattle.run_laws.proofs.Numbers.{lists, further}
use Rattle.run_laws.proofs.WorldStamps.{caused_le, first_stamp}
use Rattle.cbdc_model.specs.After.{IsFirst}

-- a record's stamp is at most one more than the greatest before it
caused_most : (K : Shape) (J : ℕ → List Record) (n bound : ℕ) (r : Record) → (IsFirst r → ⊥) → ((k : ℕ) → last_stamp (J k) ≤ bound)
    → ((k kind : ℕ) (b : Batch) → stamp_in (record_of kind (J k) b) ≤ bound) → IsCaused K J n r → stamp_of r ≤ suc bound
caused_most K J n bound r later lasts finds c = caused_le K J n bound r later lasts (λ kind m b. finds m kind b) c

-- of two beginnings of a list the shorter is one of the longer
shorter : {A : Type 0} (a b : List A) (U V : List A) → a ++ U ≡ b ++ V → length U ≤ length V → (more : List A) × (V ≡ more ++ U)
shorter a [] U V e le = (a, sym e)
shorter [] (y ∷ b) U V e le = let l : length U ≡ suc (length (b ++ V)) = ap length e in absurd (omega (arith, l, length-append b V))
shorter (x ∷ a) (y ∷ b) U V e le = shorter a b U V (tails x y (a ++ U) (b ++ V) e) le
  where
    tails : {A : Type 0} (x y : A) (us vs : List A) → x ∷ us ≡ y ∷ vs → us ≡ vs
    tails x y us vs e = cc

module _ (K : Shape) (m : Minted) (P : Compact → Type 0) (some : 0 < K.shards) (before after : List Row) (old : Steady K m P before)
    (new : Steady K m P after)
    (grows : (n : ℕ) → IsEnd (journal n (before ++ first_rows K m)) (journal n (after ++ first_rows K m))) where
  abbrev E : ℕ → List Record
  E n = journal n (before ++ first_rows K m)

  abbrev X : ℕ → List Record
  X n = journal n (after ++ first_rows K m)

  abbrev N : ℕ
  N = K.coordinators + K.shards

  abbrev whole : List Row → ℕ → List Record
  whole later n = journal n (later ++ first_rows K m)

  -- how many records have come to the nodes
  abbrev pub come : (ℕ → List Record) → ℕ
  come J = sum_below (λ n. length (J n) - length (E n)) N

  module _ (top : ℕ) (tops : (n : ℕ) → n < N → last_stamp (E n) ≤ top) where
    -- a record that was there has a stamp of its journal
    was_there : (n : ℕ) (V : List Record) (r : Record) → n < N → IsEnd (first_of K m n) (r ∷ V) → IsEnd (r ∷ V) (E n) → stamp_of r ≤ top
    was_there n V r inside begins ends =
        let le : stamp_of r ≤ last_stamp (E n) = subst (λ L. stamp_of r ≤ last_stamp L) (sym ends.1)
        (further K m P some before old n (r ∷ V) begins (λ L. stamp_of r ≤ last_stamp L) (omega arith)
        (λ newer rest q e h next le. (let up : last_stamp rest < stamp_of q = after_stamp K n rest q next in omega (arith, le, up))) [] ends.0
        ends.1) in
        omega (arith, le, tops n inside)

    abbrev Bounded : List Row → Type 0
    Bounded later = (n : ℕ) → last_stamp (whole later n) ≤ top + come (whole later)

    length_on : (row : Row) (rows : List Row) (n : ℕ) → length (journal n rows) ≤ length (journal n (row ∷ rows))
    length_on row rows n = elim (at_node row.node n) [
      | at e ↦ omega (arith, ap length (head_at row rows n e))
      | away e ↦ omega (arith, ap length (head_away row rows n e))
    ]

    bounded_step : (newer later : List Row) (row : Row) → after ≡ newer ++ row ∷ later → Steady K m P (row ∷ later) → Bounded later
        → Bounded (row ∷ later)
    bounded_step newer later row e kept h = λ n. elim (at_node row.node n) [
      | away apart ↦ omega (arith, ap last_stamp (head_away row (later ++ first_rows K m) n apart), h n, come_on)
      | at same ↦ omega (arith, ap last_stamp (head_at row (later ++ first_rows K m) n same), own)
    ]
      where
        k : ℕ
        k = row.node

        come_on : come (whole later) ≤ come (whole (row ∷ later))
        come_on = sum_le (λ n. length (whole later n) - length (E n)) (λ n. length (whole (row ∷ later) n) - length (E n)) N
            (λ n lt. (let le : length (whole later n) ≤ length (whole (row ∷ later) n) = length_on row (later ++ first_rows K m) n in omega arith))

        inside : row.node < N
        inside = at_a_node K row.node (whole later row.node) row.what kept.0

        here : whole (row ∷ later) row.node ≡ row.what ∷ whole later row.node
        here = head_at row (later ++ first_rows K m) row.node refl

        low : stamp_of row.what ≤ suc (top + come (whole later))
        low = caused_most K (whole later) row.node (top + come (whole later)) row.what
            (next_not_first K row.node (whole later row.node) row.what kept.0) h
            (λ n kind b. (let le : stamp_in (record_of kind (whole later n) b) ≤ last_stamp (whole later n) =
            (all_order K m P some later kept.3 n).stamps_le kind b in omega (arith, le, h n))) kept.1

        -- it was there, or one more has come
        which : (length (whole later row.node) < length (E row.node)) ⊎ (length (E row.node) ≤ length (whole later row.node))
        which = split (length (whole later row.node)) (length (E row.node))
          where
            split : (a b : ℕ) → (a < b) ⊎ (b ≤ a)
            split a b = grind arith

        begins : IsEnd (first_of K m row.node) (row.what ∷ whole later row.node)
        begins = (row.what ∷ journal row.node later, ap (λ L. row.what ∷ L) (journal-append row.node later (first_rows K m)))

        in_whole : X row.node ≡ journal row.node newer ++ (row.what ∷ whole later row.node)
        in_whole = ap (λ rows. journal row.node (rows ++ first_rows K m)) e
            ∙ ap (λ rows. journal row.node rows) (append_assoc newer (row ∷ later) (first_rows K m))
            ∙ journal-append row.node newer (row ∷ (later ++ first_rows K m)) ∙ ap (λ L. journal row.node newer ++ L) here

        own : stamp_of row.what ≤ top + come (whole (row ∷ later))
        own = elim which [
          | inl lt ↦ (
              let ends : IsEnd (row.what ∷ whole later row.node) (E row.node)
              = shorter (journal row.node newer) (grows row.node).0 (row.what ∷ whole later row.node) (E row.node)
              (sym in_whole ∙ (grows row.node).1) (omega (arith, lt)) in
              omega (arith, was_there row.node (whole later row.node) row.what inside begins ends))
          | inr le ↦ (
              let more : come (whole later) + 1 ≤ come (whole (row ∷ later))
              = sum_more (λ n. length (whole later n) - length (E n)) (λ n. length (whole (row ∷ later) n) - length (E n)) row.node 1 N
              (λ n lt. (let up : length (whole later n) ≤ length (whole (row ∷ later) n) = length_on row (later ++ first_rows K m) n in omega arith))
              inside
              (let one : length (whole (row ∷ later) row.node) ≡ suc (length (whole later row.node)) = ap length here in omega (arith, one, le)) in
              omega (arith, low, more))
        ]

    bounded : (newer later : List Row) → after ≡ newer ++ later → Steady K m P later → Bounded later
    bounded newer [] e kept = λ n. (let z : last_stamp (journal n (first_rows K m)) ≡ 0 = first_stamp K m n in omega (arith, z))
    bounded newer (row ∷ later) e kept =
        bounded_step newer later row e kept (bounded (newer ++ row ∷ []) later (e ∙ sym (append_assoc newer (row ∷ []) later)) kept.3)

    pub last_most : (n : ℕ) → last_stamp (X n) ≤ top + come X
    last_most n = bounded [] after refl new n

    pub found_most : (n kind : ℕ) (b : Batch) → stamp_in (record_of kind (X n) b) ≤ top + come X
    found_most n kind b = (let le : stamp_in (record_of kind (X n) b) ≤ last_stamp (X n) = (all_order K m P some after new n).stamps_le kind b in
        omega (arith, le, last_most n))

    -- a beginning that has the old journal is no later
    pub front_most : (n : ℕ) (V : List Record) → IsEnd (E n) V → IsEnd V (X n) → last_stamp V ≤ top + come X
    front_most n V h v =
        let le : last_stamp V ≤ last_stamp (X n) = subst (λ L. last_stamp V ≤ last_stamp L) (sym v.1)
        (further K m P some after new n V (end_trans (first_of K m n) (E n) V ((lists K m P some before old).begins n) h)
        (λ L. last_stamp V ≤ last_stamp L) (omega arith)
        (λ newer rest q e back next le. (let up : last_stamp rest < stamp_of q = after_stamp K n rest q next in omega (arith, le, up))) [] v.0 v.1) in
        omega (arith, le, last_most n)
