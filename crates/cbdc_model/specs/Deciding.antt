-- What becomes of a batch by what its shards replied.
use Rattle.std.specs.Prelude.{ℕ, ◌==◌, List, [], ◌∷◌, if◌then◌else◌, Option, Some, None}
use Rattle.cbdc_types.specs.declared.batch.ShardReplies.{ShardReplies}
use Rattle.cbdc_model.specs.Records.{Shape, Compact, Entry, Reply, Outcome, Answered}
use Rattle.cbdc_model.specs.Ranges.{part}
use Rattle.cbdc_model.specs.Outcomes.{outcomes}
use Rattle.cbdc_model.specs.Causes.{greatest}

-- what a shard replied
abbrev pub replies_at : List ShardReplies → ℕ → Option ShardReplies
replies_at [] s = None
replies_at (r ∷ rs) s = if r.shard == s then Some r else replies_at rs s

-- the replies in what a shard replied, none where it did not
abbrev pub replies_in : Option ShardReplies → List Reply
replies_in None = []
replies_in (Some r) = r.replies

-- the stamp of the Lock that keeps them, 0 where the shard did not reply
abbrev pub reply_stamp : Option ShardReplies → ℕ
reply_stamp None = 0
reply_stamp (Some r) = r.stamp

-- a part with the replies to it, in order
abbrev pub answered_with : List Entry → List Reply → List Answered
answered_with [] rs = []
answered_with (e ∷ es) [] = []
answered_with (e ∷ es) (r ∷ rs) = record { entry = e; reply = r } ∷ answered_with es rs

-- the outcomes of a batch by these replies: of each transaction Held, or the least shard that refuses
abbrev pub decided : Shape → List Compact → List ShardReplies → List Outcome
decided K txs replies = outcomes (λ s. answered_with (part K s 0 txs) (replies_in (replies_at replies s))) K.shards 0 txs

-- the greatest stamp of the replies
abbrev pub reply_cause : Shape → List ShardReplies → ℕ
reply_cause K replies = greatest (λ s. reply_stamp (replies_at replies s)) K.shards
