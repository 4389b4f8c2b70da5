use Rattle.std.proofs.Common.{◌≡◌, ℕ, ◌<◌, true, get_or}
use Rattle.cbdc_model.specs.Records.{Entry}
use Rattle.cbdc_model.specs.Next.{same_entry}
use Rattle.shard_core.proofs.comparing.other_part.Given as goal

-- the entries so far are the same
abbrev pub invariant-loop-at : goal.invariant-loop-at
invariant-loop-at l = (i : ℕ) (d e : Entry) → i < l.at → same_entry (get_or l.kept i d) (get_or l.given i e) ≡ true
