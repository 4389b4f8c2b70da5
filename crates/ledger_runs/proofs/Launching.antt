-- Prepares in flight are those of next pieces.
use Rattle.std.proofs.Common.{◌≡◌, ◌⊎◌, inl, inr, ℕ, List, [], Option, Some, refl, ◌∙◌, subst}
use Rattle.cbdc_model.specs.Records.{Shape, Compact, Record, Prepare}
use Rattle.ledger_runs.specs.Turning.{IsLaneOf}
use Rattle.ledger_runs.specs.Pieces.{HasPreparedPieces}
use Rattle.ledger_runs.specs.Faults.{Nothing}
use Rattle.ledger_runs.specs.Flying.{Launches}

-- nothing was done
pub launches_begin : (K : Shape) (next : ℕ → List Compact → Type 0) (I : ℕ → List Record) (F : ℕ → Option Record) → Launches K next I I F F
launches_begin K next I F n t b txs is = inl (is, refl)

-- one part of a run behind another
pub launches_on : (K : Shape) (next due all : ℕ → List Compact → Type 0) (I J L : ℕ → List Record) (F G M : ℕ → Option Record)
    → ((lane : ℕ) (txs : List Compact) → IsLaneOf K lane → HasPreparedPieces K lane [] J L → next lane txs → all lane txs)
    → ((lane : ℕ) (txs : List Compact) → IsLaneOf K lane → due lane txs → all lane txs)
    → Launches K next I J F G → Launches K due J L G M → Launches K all I L F M
launches_on K next due all I J L F G M on now one two n t b txs is = go (two n t b txs is)
  where
    Told : Type 0
    Told = ((F n ≡ Some (Prepare t b txs)) × HasPreparedPieces K b.lane [] I L) ⊎ (IsLaneOf K b.lane × all b.lane txs)

    earlier : HasPreparedPieces K b.lane [] J L → ((F n ≡ Some (Prepare t b txs)) × HasPreparedPieces K b.lane [] I J)
        ⊎ (IsLaneOf K b.lane × next b.lane txs) → Told
    earlier none (inl (was, before)) = inl (was, none ∙ before)
    earlier none (inr (inside, is_next)) = inr (inside, on b.lane txs inside none is_next)

    go : ((G n ≡ Some (Prepare t b txs)) × HasPreparedPieces K b.lane [] J L) ⊎ (IsLaneOf K b.lane × due b.lane txs) → Told
    go (inl (was, none)) = earlier none (one n t b txs was)
    go (inr (inside, is_due)) = inr (inside, now b.lane txs inside is_due)

-- by what is next in other words
pub launches_by : (K : Shape) (next all : ℕ → List Compact → Type 0) (I J : ℕ → List Record) (F G : ℕ → Option Record)
    → ((lane : ℕ) (txs : List Compact) → IsLaneOf K lane → next lane txs → all lane txs)
    → Launches K next I J F G → Launches K all I J F G
launches_by K next all I J F G on one n t b txs is = go (one n t b txs is)
  where
    go : ((F n ≡ Some (Prepare t b txs)) × HasPreparedPieces K b.lane [] I J) ⊎ (IsLaneOf K b.lane × next b.lane txs)
        → ((F n ≡ Some (Prepare t b txs)) × HasPreparedPieces K b.lane [] I J) ⊎ (IsLaneOf K b.lane × all b.lane txs)
    go (inl was) = inl was
    go (inr (inside, is_next)) = inr (inside, on b.lane txs inside is_next)

-- over one more lane that was open
pub launches_next : (K H : Shape) (I J L : ℕ → List Record) (F G M : ℕ → Option Record) → H ≡ K → Launches K (λ _. Nothing) I J F G
    → Launches H (λ _. Nothing) J L G M → Launches K (λ _. Nothing) I L F M
launches_next K H I J L F G M same one two =
    launches_on K (λ _. Nothing) (λ _. Nothing) (λ _. Nothing) I J L F G M (λ lane txs inside none h. h) (λ lane txs inside h. h) one
    (subst (λ k. Launches k (λ _. Nothing) J L G M) same two)
