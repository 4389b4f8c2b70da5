-- The first record of a node, where it is the last that says something of a lane.
use Rattle.std.proofs.Common.{◌≡◌, ◌⊎◌, inl, inr, ℕ, ◌+◌, ◌-◌, ◌<◌, ◌≤◌, true, false, cond, if◌then◌else◌, nat_lt, List, [], ◌∷◌, ◌++◌, Some, None}
use Rattle.std.proofs.Common.{sym, ap, ◌∙◌, subst, arith}
use Rattle.cbdc_model.specs.After.{IsFirst}
use Rattle.cbdc_model.specs.History.{header_of, first_rows, Minted}
use Rattle.cbdc_model.specs.Ranges.{on_shard}
use Rattle.cbdc_model.specs.Records.{Shape, Compact, Record, Row, journal, tells_lane, Genesis, Start}
use Rattle.cbdc_model.specs.World.{first_record}
use Rattle.ledger_laws.proofs.Next.{Steady}
use Rattle.ledger_laws.proofs.ByKind.{some_is, next_not_first}
use Rattle.ledger_laws.proofs.Last.{last_of, last_in_lane}
use Rattle.ledger_laws.proofs.Rows.{at, away, at_node, head_at, head_away}
use Rattle.ledger_laws.proofs.FirstJournals.{first_is, first_beyond}

module _ (K : Shape) (minting : Minted) (P : Compact → Type 0) where
  one_first : (q r : Record) (lane : ℕ) → last_of (q ∷ []) lane ≡ Some r → q ≡ r
  one_first q r lane e = elim (tells_lane lane q) as (λ c. cond c (Some q) None ≡ Some r → q ≡ r) [
    | true ↦ λ g. some_is q r g
    | false ↦ λ g. absurd (let z : None ≡ Some r = g in cc)
  ] e

  in_or_beyond : (n m : ℕ) → (n < m) ⊎ (m ≤ n)
  in_or_beyond n m = grind arith

  of_first : (n lane : ℕ) (r : Record) → last_of (journal n (first_rows K minting)) lane ≡ Some r → first_record K minting n ≡ r
  of_first n lane r e = elim (in_or_beyond n (K.coordinators + K.shards)) [
    | inl lt ↦ one_first (first_record K minting n) r lane (ap (λ J. last_of J lane) (sym (first_is K minting n lt)) ∙ e)
    | inr le ↦ absurd (let z : None ≡ Some r = ap (λ J. last_of J lane) (sym (first_beyond K minting n le)) ∙ e in cc)
  ]

  -- a first record that is the last of a lane is the node's own
  pub begun_is : (later : List Row) → Steady K minting P later → (n lane : ℕ) (r : Record)
      → last_of (journal n (later ++ first_rows K minting)) lane ≡ Some r → IsFirst r
      → first_record K minting n ≡ r
  begun_is [] kept n lane r e first = of_first n lane r e
  begun_is (row ∷ later) kept n lane r e first = elim (at_node row.node n) [
    | away a ↦ begun_is later kept.3 n lane r (ap (λ J. last_of J lane) (sym (head_away row (later ++ first_rows K minting) n a)) ∙ e) first
    | at a ↦ here row later n lane r (ap (λ J. last_of J lane) (sym (head_at row (later ++ first_rows K minting) n a)) ∙ e)
        (λ same. absurd (next_not_first K row.node (journal row.node (later ++ first_rows K minting)) row.what kept.0
        (subst IsFirst (sym same) first)))
        (λ g. begun_is later kept.3 n lane r g first)
  ]
    where
      here : (row : Row) (later : List Row) (n lane : ℕ) (r : Record) → last_of (row.what ∷ journal n (later ++ first_rows K minting)) lane ≡ Some r
          → (row.what ≡ r → first_record K minting n ≡ r)
          → (last_of (journal n (later ++ first_rows K minting)) lane ≡ Some r → first_record K minting n ≡ r) → first_record K minting n ≡ r
      here row later n lane r e new old = elim (tells_lane lane row.what) as
          (λ c. cond c (Some row.what) (last_of (journal n (later ++ first_rows K minting)) lane) ≡ Some r → first_record K minting n ≡ r) [
            | true ↦ λ g. new (some_is row.what r g)
            | false ↦ λ g. old g
          ] e

  -- a mint's first records say nothing of a lane
  mint_says : (n lane : ℕ) → tells_lane lane (first_record K minting n) ≡ true → ⊥
  mint_says n lane h = elim (nat_lt n K.coordinators) as (λ c. tells_lane lane (if c then Start (header_of K minting.id n)
      else Genesis (header_of K minting.id n) (on_shard K (n - K.coordinators) minting.hashes)) ≡ true → ⊥) [
        | true ↦ λ h. cc
        | false ↦ λ h. cc
      ] h

  pub not_begun : (later : List Row) → Steady K minting P later → (n lane : ℕ) (r : Record)
      → last_of (journal n (later ++ first_rows K minting)) lane ≡ Some r → IsFirst r → ⊥
  not_begun later kept n lane r e first =
      mint_says n lane (subst (λ q. tells_lane lane q ≡ true) (sym (begun_is later kept n lane r e first))
      (last_in_lane (journal n (later ++ first_rows K minting)) lane r e))
