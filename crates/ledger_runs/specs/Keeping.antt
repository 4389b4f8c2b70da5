-- What a call at the nodes of a ledger keeps of them.
use Rattle.std.specs.Prelude.{◌≡◌, ℕ, ◌≤◌}
use Rattle.cbdc_model.specs.Records.{Shape}

-- they are the nodes of a ledger of the same shape; the disk of each had failed as often when it was opened, may hold as many bytes, and has failed
-- no less often; and what held of them holds
pub record KeepsLedger {L : Type 0} (shape : L → Shape) (opened faults capacity : L → ℕ → ℕ) (holds : L → Type 0) (old new : L) : Type 0 where
  pub shape_same : shape new ≡ shape old
  pub opened_same : (n : ℕ) → opened new n ≡ opened old n
  pub later : (n : ℕ) → faults old n ≤ faults new n
  pub capacity_same : (n : ℕ) → capacity new n ≡ capacity old n
  pub held : holds old → holds new
