use Rattle.std.proofs.Common.{◌≡◌, ◌<◌, ℕ, take, length, get_or, None}
use Rattle.cbdc_model.specs.Outcomes.{reply_at}
use Rattle.audit.proofs.outcomes.replies_by_place.Given as goal

abbrev pub invariant-loop-answered : goal.invariant-loop-answered
invariant-loop-answered l =
    (length l.replies.items ≡ l.n) × ((k : ℕ) → k < l.n → get_or l.replies.items k None ≡ reply_at (take l.answered-index l.es) k)
