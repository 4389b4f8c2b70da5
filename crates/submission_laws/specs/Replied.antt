-- What the shards replied to a prepared transaction, and what is decided of it.
use Rattle.std.specs.Prelude.{◌≡◌, ℕ, ◌<◌, false, ◌&&◌, List, [], ◌∷◌, ◌++◌, Option, Some}
use Rattle.cbdc_model.specs.Records.{Shape, Batch, Compact, Reply, Outcome, Record, txs_of, lock_of, Held, Missing, Taken, Won, Lacks, Blocked, Lock}
use Rattle.cbdc_model.specs.Ranges.{home_of, shard_node, on_shard, is_empty, part}
use Rattle.cbdc_model.specs.Replies.{answered}
use Rattle.cbdc_model.specs.Outcomes.{reply_at}
use Rattle.cbdc_model.specs.Places.{PlaceIn}

-- the shard has a hash that the transaction spends or makes
abbrev pub Concerns : Shape → Compact → ℕ → Type 0
Concerns K c s = (s < K.shards) × ((is_empty (on_shard K s c.inputs) && is_empty (on_shard K s c.outputs)) ≡ false)

-- a shard's reply to the transaction at a place, where its Lock of the batch has one
abbrev pub reply_of : Shape → (ℕ → List Record) → PlaceIn → ℕ → Option Reply
reply_of K X p s = reply_at (lock_of (X (shard_node K s)) p.batch) p.at

-- a shard's Lock of a batch stands, with the replies that its journal before it gives
pub record HasStandingLock (K : Shape) (X : ℕ → List Record) (b : Batch) (s : ℕ) : Type 0 where
  pub newer : List Record
  pub stamp : ℕ
  pub past : List Record
  pub stands : X (shard_node K s) ≡ newer ++ Lock stamp b (lock_of (X (shard_node K s)) b) ∷ past
  pub replies : lock_of (X (shard_node K s)) b ≡ answered past b [] (part K s 0 (txs_of (X (home_of K b.lane)) b))

-- each shard below n that the transaction concerns held it
abbrev pub HeldBelow : Shape → (ℕ → List Record) → PlaceIn → Compact → ℕ → Type 0
HeldBelow K X p c n = (s : ℕ) → s < n → Concerns K c s → reply_of K X p s ≡ Some Held

-- an outcome by the replies: committed where every shard held the transaction; else it names the least shard that refused it, with the hash and the
-- cause of its reply
abbrev pub IsOutcomeByReplies : Shape → (ℕ → List Record) → PlaceIn → Compact → Outcome → Type 0
IsOutcomeByReplies K X p c Won = HeldBelow K X p c K.shards
IsOutcomeByReplies K X p c (Lacks s x) = Concerns K c s × HeldBelow K X p c s × (reply_of K X p s ≡ Some (Missing x))
IsOutcomeByReplies K X p c (Blocked s x by) = Concerns K c s × HeldBelow K X p c s × (reply_of K X p s ≡ Some (Taken x by))

-- the outcome of the transaction at a place: by the replies of all shards that it concerns, each of which has its Lock; committed exactly where all
-- held it
pub record IsReplied (K : Shape) (X : ℕ → List Record) (p : PlaceIn) (c : Compact) (o : Outcome) : Type 0 where
  pub locks : (s : ℕ) → Concerns K c s → HasStandingLock K X p.batch s
  pub outcome : IsOutcomeByReplies K X p c o
  pub exactly : HeldBelow K X p c K.shards → o ≡ Won
