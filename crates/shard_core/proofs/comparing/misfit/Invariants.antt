use Rattle.std.proofs.Common.{◌≡◌, ℕ, ◌<◌, Bool, true, get_or}
use Rattle.cbdc_model.specs.Records.{Reply}
use Rattle.shard_core.specs.Places.{fits_reply}
use Rattle.shard_core.proofs.comparing.misfit.Given as goal

-- the decisions so far fit
abbrev pub invariant-loop-at : goal.invariant-loop-at
invariant-loop-at l = (i : ℕ) (r : Reply) (d : Bool) → i < l.at → fits_reply (get_or l.replies i r) (get_or l.decisions i d) ≡ true
