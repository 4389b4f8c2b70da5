-- What is decided by the shards' replies fits each of them.
use Rattle.std.proofs.Common.{◌≡◌, ℕ, ◌+◌, ◌<◌, List, Some, subst, arith}
use Rattle.cbdc_types.specs.declared.batch.ShardReplies.{ShardReplies}
use Rattle.cbdc_model.specs.After.{FitsReplies}
use Rattle.cbdc_model.specs.Outcomes.{decisions, won_at, reply_at}
use Rattle.cbdc_model.specs.Deciding.{decided, replies_at, replies_in, answered_with}
use Rattle.cbdc_model.specs.Ranges.{part}
use Rattle.cbdc_model.specs.Records.{Shape, Compact, Answered}
use Rattle.cbdc_model.specs.Replies.{entries}
use Rattle.ledger_laws.proofs.Parts.{outcome_held, won_at-outcomes}
use Rattle.ledger_laws.proofs.Repeats.{rising_part, agrees_rising, fits_decisions}

-- the decisions for the part of a shard, by the replies of all, fit the shard's own
module _ (K : Shape) (txs : List Compact) (rs : List ShardReplies) (s : ℕ) (below : s < K.shards) where
  abbrev at : ℕ → List Answered
  at k = answered_with (part K k 0 txs) (replies_in (replies_at rs k))

  pub decided_fits : (es : List Answered) → es ≡ at s → entries es ≡ part K s 0 txs → FitsReplies es (decisions (decided K txs rs) (part K s 0 txs))
  decided_fits es is parts = subst (λ p. FitsReplies es (decisions (decided K txs rs) p)) parts
      (fits_decisions (decided K txs rs) es
      (agrees_rising (won_at (decided K txs rs)) 0 es (rising_part K s 0 txs es parts)
      (λ j r le found won. outcome_held at (0 + j) 0 K.shards s r (won_at-outcomes at K.shards 0 txs j won) (omega arith) (omega (arith, below))
      (subst (λ i. reply_at (at s) i ≡ Some r) (omega arith) (subst (λ l. reply_at l j ≡ Some r) is found)))))
