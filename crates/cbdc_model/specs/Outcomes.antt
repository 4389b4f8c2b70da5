-- The outcome of a transaction over its shards: Held where all reply Held, else by the least shard that refuses.
use Rattle.std.specs.Prelude.{ℕ, zero, suc, Bool, false, ◌==◌, List, [], ◌∷◌, map, if◌then◌else◌, Option, Some, None}
use Rattle.cbdc_model.specs.Records.{Compact, Entry, Reply, Outcome, Answered, is_won, Held, Missing, Taken, Won, Lacks, Blocked}

-- the reply to the entry with place k, if there is one
abbrev pub reply_at : List Answered → ℕ → Option Reply
reply_at [] k = None
reply_at (a ∷ es) k = if a.entry.place == k then Some a.reply else reply_at es k

-- what shard s makes of the outcome of the greater shards
abbrev pub outcome_by : Option Reply → ℕ → Outcome → Outcome
outcome_by None s rest = rest
outcome_by (Some Held) s rest = rest
outcome_by (Some (Missing x)) s rest = Lacks s x
outcome_by (Some (Taken x by)) s rest = Blocked s x by

-- the outcome of place k over n shards, the least of which is s; `locks` gives each shard's answered part; a shard that has none, or no entry of
-- this place in it, counts as not concerned
abbrev pub outcome : (ℕ → List Answered) → ℕ → ℕ → ℕ → Outcome
outcome locks k s zero = Won
outcome locks k s (suc n) = outcome_by (reply_at (locks s) k) s (outcome locks k (suc s) n)

-- the outcomes of transactions, the first of which has place k
abbrev pub outcomes : (ℕ → List Answered) → ℕ → ℕ → List Compact → List Outcome
outcomes locks shards k [] = []
outcomes locks shards k (t ∷ ts) = outcome locks k 0 shards ∷ outcomes locks shards (suc k) ts

-- whether the outcome at that place is Won
abbrev pub won_at : List Outcome → ℕ → Bool
won_at [] k = false
won_at (o ∷ os) zero = is_won o
won_at (o ∷ os) (suc k) = won_at os k

-- for each entry of a part, whether its transaction is committed
abbrev pub decisions : List Outcome → List Entry → List Bool
decisions os es = map (λ e. won_at os e.place) es

-- the transactions that are committed
abbrev pub won_txs : List Compact → List Outcome → List Compact
won_txs [] os = []
won_txs (t ∷ ts) [] = []
won_txs (t ∷ ts) (o ∷ os) = if is_won o then t ∷ won_txs ts os else won_txs ts os
