use Rattle.std.proofs.Common.{◌≡◌, ℕ, ◌<◌, get_or}
use Rattle.cbdc_model.specs.Records.{Answered, Reply}
use Rattle.shard_core.proofs.copying.same_replies.Given as goal

abbrev pub invariant-loop-at : goal.invariant-loop-at
invariant-loop-at l = (i : ℕ) (a : Answered) (r : Reply) → i < l.at → (get_or l.entries i a).reply ≡ get_or l.replies i r
