use Rattle.std.proofs.Common.{◌≡◌, ℕ, ◌<◌, Bool, true, get_or}
use Rattle.cbdc_model.specs.Next.{same_decision}
use Rattle.shard_core.proofs.comparing.other_decisions.Given as goal

-- the decisions so far are the same
abbrev pub invariant-loop-at : goal.invariant-loop-at
invariant-loop-at l = (i : ℕ) (d e : Bool) → i < l.at → same_decision (get_or l.kept i d) (get_or l.given i e) ≡ true
