use Rattle.std.proofs.Common.{ℕ, ◌<◌, [], length, slice_index_or}
use Rattle.plain_check.specs.Journals.{journals_in}
use Rattle.plain_check.proofs.Staging.{Leads}
use Rattle.plain_check.proofs.stages.+are_stages.Given as goal

abbrev pub decreases-are_stages : goal.decreases-are_stages
decreases-are_stages l = length l.stages.now

abbrev pub invariant-loop-world : goal.invariant-loop-world
invariant-loop-world l = (k : ℕ) → k < l.world-index
    → Leads l.shape l.stage l.rest (journals_in l.old) (journals_in l.new) (slice_index_or l.worlds k []) → ⊥
