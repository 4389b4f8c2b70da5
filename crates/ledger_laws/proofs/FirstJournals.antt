-- The journals of the first rows, node by node.
use Rattle.std.proofs.Common.{◌≡◌, ◌⊎◌, inl, inr, ℕ, zero, suc, ◌+◌, ◌-◌, ◌<◌, ◌≤◌, true, false, ◌==◌, nat_lt, if◌then◌else◌, List, [], ◌∷◌, ◌++◌}
use Rattle.std.proofs.Common.{refl, sym, ◌∙◌, subst, arith}
use Rattle.cbdc_model.specs.Records.{Shape, Record, Row, journal, Genesis, Start}
use Rattle.cbdc_model.specs.Ranges.{on_shard}
use Rattle.cbdc_model.specs.History.{Minted, header_of, starts, geneses, first_rows}
use Rattle.cbdc_model.specs.World.{first_record}
use Rattle.ledger_laws.proofs.First.{journal_starts, journal_past, journal_genesis}

start_in : (K : Shape) (minting : Minted) (n m : ℕ) → n < m → journal n (starts K minting m) ≡ Start (header_of K minting.id n) ∷ []
start_in K minting n zero h = absurd (omega arith)
start_in K minting n (suc m) h =
    let cases : (n ≡ m) ⊎ (n < m) = grind arith in
    elim cases [
      | inl e ↦ subst (λ k. journal n (starts K minting (suc k)) ≡ Start (header_of K minting.id n) ∷ []) e
          (first K minting n (journal_starts K minting n n (omega arith)))
      | inr lt ↦ later K minting n m lt (start_in K minting n m lt)
    ]
  where
    first : (K : Shape) (minting : Minted) (n : ℕ) → journal n (starts K minting n) ≡ []
        → journal n (starts K minting (suc n)) ≡ Start (header_of K minting.id n) ∷ []
    first K minting n h = grind arith

    later : (K : Shape) (minting : Minted) (n m : ℕ) → n < m → journal n (starts K minting m) ≡ Start (header_of K minting.id n) ∷ []
        → journal n (starts K minting (suc m)) ≡ Start (header_of K minting.id n) ∷ []
    later K minting n m lt h = grind arith

skip_geneses : (K : Shape) (minting : Minted) (n m : ℕ) → n < K.coordinators
    → journal n (geneses K minting m ++ starts K minting K.coordinators) ≡ journal n (starts K minting K.coordinators)
skip_geneses K minting n zero h = refl
skip_geneses K minting n (suc m) h = skipped K minting n m h (skip_geneses K minting n m h)
  where
    skipped : (K : Shape) (minting : Minted) (n m : ℕ) → n < K.coordinators
        → journal n (geneses K minting m ++ starts K minting K.coordinators) ≡ journal n (starts K minting K.coordinators)
        → journal n (geneses K minting (suc m) ++ starts K minting K.coordinators) ≡ journal n (starts K minting K.coordinators)
    skipped K minting n m h e = grind arith

pub first_is : (K : Shape) (minting : Minted) (n : ℕ) → n < K.coordinators + K.shards
    → journal n (first_rows K minting) ≡ first_record K minting n ∷ []
first_is K minting n lt = elim (nat_lt n K.coordinators) as (λ c. nat_lt n K.coordinators ≡ c → journal n (first_rows K minting)
    ≡ (if c then Start (header_of K minting.id n) else Genesis (header_of K minting.id n) (on_shard K (n - K.coordinators) minting.hashes)) ∷ []) [
      | true ↦ λ e. let l : n < K.coordinators = grind (arith, e) in skip_geneses K minting n K.shards l ∙ start_in K minting n K.coordinators l
      | false ↦ λ e. let l : K.coordinators ≤ n = grind (arith, e) in
          subst (λ m. journal m (first_rows K minting) ≡ Genesis (header_of K minting.id m) (on_shard K (n - K.coordinators) minting.hashes) ∷ [])
          (omega arith)
          (journal_genesis K minting (n - K.coordinators) K.shards (omega arith))
    ] refl

pub first_beyond : (K : Shape) (minting : Minted) (n : ℕ) → K.coordinators + K.shards ≤ n → journal n (first_rows K minting) ≡ []
first_beyond K minting n le = subst (λ m. journal m (first_rows K minting) ≡ []) (omega arith)
    (journal_past K minting (n - K.coordinators) K.shards (omega arith))

-- a node of the ledger has a journal that isn't empty
no_cons : (r : Record) (J : List Record) → r ∷ J ≡ [] → ⊥
no_cons r J e = cc

pub never_empty : (K : Shape) (minting : Minted) (later : List Row) (n : ℕ) → n < K.coordinators + K.shards
    → journal n (later ++ first_rows K minting) ≡ [] → ⊥
never_empty K minting [] n lt e = no_cons (first_record K minting n) [] (sym (first_is K minting n lt) ∙ e)
never_empty K minting (row ∷ later) n lt e = grows row later n (never_empty K minting later n lt) e
  where
    grows : (row : Row) (later : List Row) (n : ℕ) → (journal n (later ++ first_rows K minting) ≡ [] → ⊥)
        → journal n (row ∷ (later ++ first_rows K minting)) ≡ [] → ⊥
    grows row later n f e = elim (row.node == n) as
        (λ c. (if c then row.what ∷ journal n (later ++ first_rows K minting) else journal n (later ++ first_rows K minting)) ≡ [] → ⊥) [
          | true ↦ λ e. no_cons row.what (journal n (later ++ first_rows K minting)) e
          | false ↦ λ e. f e
        ] e
