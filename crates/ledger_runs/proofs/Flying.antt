-- What is in flight may come next at its node, lane after lane.
use Rattle.std.proofs.Common.{◌≡◌, ℕ, List, Option, subst}
use Rattle.cbdc_model.specs.Records.{Shape, Record}
use Rattle.ledger_runs.specs.Turning.{OfKept, StaysKept}
use Rattle.ledger_runs.specs.Flying.{FliesOn}

-- over one more lane that was open
pub flies_next : (K H : Shape) (I J L : ℕ → List Record) (F G M : ℕ → Option Record) → H ≡ K → OfKept K I (StaysKept K I J)
    → OfKept K I (FliesOn K I J F G) → OfKept H J (FliesOn H J L G M)
    → OfKept K I (FliesOn K I L F M)
flies_next K H I J L F G M same keeps one two mint submissions kept may =
    subst (λ k. OfKept k J (FliesOn k J L G M)) same two mint submissions (keeps mint submissions kept).kept (one mint submissions kept may)
