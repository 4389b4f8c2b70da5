-- Whether the transaction at a place is committed, by what stands there.
use Rattle.std.proofs.Common.{◌≡◌, ℕ, zero, suc, ◌<◌, ◌≤◌, false, List, [], ◌∷◌, length, get_or, refl, arith, ap, sym}
use Rattle.cbdc_model.specs.Records.{Outcome, is_won}
use Rattle.cbdc_model.specs.Outcomes.{won_at}

pub won-at_there : (os : List Outcome) (k : ℕ) (o : Outcome) → k < length os → o ≡ get_or os k o → won_at os k ≡ is_won o
won-at_there [] k o h e = absurd (omega arith)
won-at_there (x ∷ os) zero o h e = ap is_won (sym e)
won-at_there (x ∷ os) (suc k) o h e = won-at_there os k o (omega arith) e

pub won-at_past : (os : List Outcome) (k : ℕ) → length os ≤ k → won_at os k ≡ false
won-at_past [] k h = refl
won-at_past (x ∷ os) zero h = absurd (omega arith)
won-at_past (x ∷ os) (suc k) h = won-at_past os k (omega arith)

pub ruleset winners = (won-at_there, won-at_past)
