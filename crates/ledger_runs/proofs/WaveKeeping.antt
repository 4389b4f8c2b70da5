-- The lanes of a wave, by their places.
use Rattle.std.proofs.Common.{◌≡◌, ◌⊎◌, inl, inr, ℕ, ◌<◌, ◌≤◌, List, length, get_or, arith, Some, None}
use Rattle.std.specs.Prelude.{slice_get}
use Rattle.std.proofs.lemmas.Option.{slice_get_cases}
use Rattle.ledger_runs.specs.Lanes.{LaneOf}

pub at_place : (lanes : List LaneOf) (at : ℕ) → at < length lanes → (x : LaneOf) × (slice_get lanes at ≡ Some x)
at_place lanes at inside = go (slice_get_cases lanes at).1
  where
    go : ((x : LaneOf) × (at < length lanes) × (slice_get lanes at ≡ Some x) × (get_or lanes at x ≡ x))
        ⊎ ((length lanes ≤ at) × (slice_get lanes at ≡ None)) → (x : LaneOf) × (slice_get lanes at ≡ Some x)
    go (inl (x, low, is, e)) = (x, is)
    go (inr (past, e)) = absurd (omega (arith, past, inside))
