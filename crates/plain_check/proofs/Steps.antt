-- What the lanes below one say, by the lane before it.
use Rattle.std.proofs.Common.{◌≡◌, ℕ, zero, suc, ◌<◌, ◌+◌, ◌-◌, List, ◌++◌, length, refl, arith}
use Rattle.cbdc_model.specs.Records.{Shape, Record}
use Rattle.cbdc_model.specs.Ranges.{home_of}
use Rattle.cbdc_model.specs.Waves.{prepared}
use Rattle.printed_lines.specs.Recoveries.{lane_line, resumed_below}
use Rattle.printed_lines.specs.Decided.{added, batches_below}

pub resumed_step : (K : Shape) (E X : ℕ → List Record) (n : ℕ) → 0 < n
    → resumed_below K E X n ≡ resumed_below K E X (n - 1) ++ lane_line (n - 1) (E (home_of K (n - 1))) (X (home_of K (n - 1)))
resumed_step K E X zero h = absurd (omega arith)
resumed_step K E X (suc n) h = let e : suc n - 1 ≡ n = omega arith in rw e refl

pub batches_step : (K : Shape) (E X : ℕ → List Record) (n : ℕ) → 0 < n
    → batches_below K E X n ≡ batches_below K E X (n - 1) + length (prepared (n - 1) (added (E (home_of K (n - 1))) (X (home_of K (n - 1)))))
batches_step K E X zero h = absurd (omega arith)
batches_step K E X (suc n) h = let e : suc n - 1 ≡ n = omega arith in rw e refl
