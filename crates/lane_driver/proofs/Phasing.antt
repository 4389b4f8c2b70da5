-- What the answers of a phase tell of shards and stamps.
use Rattle.std.proofs.Common.{◌≡◌, ℕ, ◌^◌, ◌<◌, List, [], ◌∷◌, map, Result, Ok, Err, IfOk, arith, subst, lit<}
use Rattle.std.specs.List.{All}
use Rattle.std.proofs.lemmas.List.Elements.{All-nil, All-cons, All-head, All-tail}
use Rattle.cbdc_types.specs.declared.calls.NodeFault.{NodeFault}
use Rattle.cbdc_types.specs.declared.calls.LockCall.{LockCall}
use Rattle.cbdc_types.specs.declared.calls.Replied.{Replied}
use Rattle.cbdc_types.specs.declared.batch.ShardReplies.{ShardReplies}
use Rattle.cbdc_model.specs.Records.{Shape}
use Rattle.cbdc_model.specs.Grammar.{IsReply}
use Rattle.cbdc_model.specs.Sights.{Sight}
use Rattle.lane_driver.specs.Calls.{shard, AllAbove, IsRising}
use Rattle.lane_driver.specs.Gathering.{FirstFault, Gathered, ok_stamp, latest_of, gathered_reply}
use Rattle.lane_driver.specs.Told.{AreShards, AreShardsOf, AreReplies, EachAnswer, LockTold, StampTold, IsStamp}

-- the shard of a fault is one of those called
pub fault_inside : {X A : Type 0} (cs : List (ℕ × X)) (answers : List (Result A NodeFault)) (s n : ℕ) (f : NodeFault)
    → FirstFault shard cs answers s f → AreShards shard n cs → s < n
fault_inside [] answers s n f found below = absurd (omega (arith, found.inside))
fault_inside (c ∷ cs) answers s n f found below =
    subst (λ k. k < n) (found.call c) (below.1 found.place c found.inside)

-- a stamp that was told is small
small_stamp : (a : Result ℕ NodeFault) → IfOk a IsStamp → ok_stamp a < 2 ^ 63
small_stamp (Ok t) h = h
small_stamp (Err f) h = lit< tt

pub latest_small : {X : Type 0} (cs : List (ℕ × X)) (answers : List (Result ℕ NodeFault)) → EachAnswer StampTold cs answers
    → latest_of answers < 2 ^ 63
latest_small [] [] h = lit< tt
latest_small [] (a ∷ answers) h = absurd h
latest_small (c ∷ cs) [] h = absurd h
latest_small (c ∷ cs) (a ∷ answers) h =
    let one = small_stamp a h.0 in
    let more = latest_small cs answers h.1 in
    omega (arith, one, more)

-- lists with the same shards rise alike
above_alike : (k : ℕ) {C R : Type 0} (f : C → ℕ) (g : R → ℕ) (cs : List C) (rs : List R) → map g rs ≡ map f cs → AllAbove f k cs → AllAbove g k rs
above_alike k f g cs [] e h = tt
above_alike k f g [] (r ∷ rs) e h = cc
above_alike k f g (c ∷ cs) (r ∷ rs) e h =
    let head : f c ≡ g r = cc in
    let tail : map g rs ≡ map f cs = cc in
    (subst (λ n. k < n) head h.0, above_alike k f g cs rs tail h.1)

pub rising_alike : {C R : Type 0} (f : C → ℕ) (g : R → ℕ) (cs : List C) (rs : List R) → map g rs ≡ map f cs → IsRising f cs → IsRising g rs
rising_alike f g cs [] e h = tt
rising_alike f g [] (r ∷ rs) e h = cc
rising_alike f g (c ∷ cs) (r ∷ rs) e h =
    let head : f c ≡ g r = cc in
    let tail : map g rs ≡ map f cs = cc in
    (above_alike (g r) f g cs rs tail (subst (λ n. AllAbove f n cs) head h.0), rising_alike f g cs rs tail h.1)

pub below_alike : (n : ℕ) {C R : Type 0} (f : C → ℕ) (g : R → ℕ) (cs : List C) (rs : List R) → map g rs ≡ map f cs → All (λ c. f c < n) cs
    → All (λ r. g r < n) rs
below_alike n f g cs [] e h = All-nil (λ r. g r < n)
below_alike n f g [] (r ∷ rs) e h = cc
below_alike n f g (c ∷ cs) (r ∷ rs) e h =
    let head : f c ≡ g r = cc in
    let tail : map g rs ≡ map f cs = cc in
    All-cons (λ r. g r < n) r rs (subst (λ k. k < n) head (All-head (λ c. f c < n) c cs h))
    (below_alike n f g cs rs tail (All-tail (λ c. f c < n) c cs h))

pub shards_alike : (n : ℕ) {C R : Type 0} (f : C → ℕ) (g : R → ℕ) (cs : List C) (rs : List R) → map g rs ≡ map f cs → AreShards f n cs
    → AreShards g n rs
shards_alike n f g cs rs e h = (rising_alike f g cs rs e h.0, below_alike n f g cs rs e h.1)

module _ (I : ℕ → Sight) where
  replied_stamps : (cs : List (ℕ × LockCall)) (answers : List (Result Replied NodeFault)) (rs : List ShardReplies)
      → map (λ r. Ok (gathered_reply r)) rs ≡ answers → EachAnswer (LockTold I) cs answers → All (λ r. IsStamp r.stamp) rs
  replied_stamps cs answers [] e h = All-nil (λ r. IsStamp r.stamp)
  replied_stamps cs [] (r ∷ rs) e h = cc
  replied_stamps [] (a ∷ answers) (r ∷ rs) e h = absurd h
  replied_stamps (c ∷ cs) (a ∷ answers) (r ∷ rs) e h =
      let head : a ≡ Ok (gathered_reply r) = cc in
      let tail : map (λ r. Ok (gathered_reply r)) rs ≡ answers = cc in
      let told = subst (λ (a : Result Replied NodeFault). LockTold I c a) head h.0 in
      All-cons (λ r. IsStamp r.stamp) r rs told.0 (replied_stamps cs answers rs tail h.1)

  replied_names : (K : Shape) → AreShardsOf K I → (cs : List (ℕ × LockCall)) (answers : List (Result Replied NodeFault)) (rs : List ShardReplies)
      → map (λ r. Ok (gathered_reply r)) rs ≡ answers → All (λ c. shard c < K.shards) cs → EachAnswer (LockTold I) cs answers
      → All (λ r. All (IsReply K) r.replies) rs
  replied_names K ledger cs answers [] e within h = All-nil (λ r. All (IsReply K) r.replies)
  replied_names K ledger cs [] (r ∷ rs) e within h = cc
  replied_names K ledger [] (a ∷ answers) (r ∷ rs) e within h = absurd h
  replied_names K ledger (c ∷ cs) (a ∷ answers) (r ∷ rs) e within h =
      let head : a ≡ Ok (gathered_reply r) = cc in
      let tail : map (λ r. Ok (gathered_reply r)) rs ≡ answers = cc in
      let told = subst (λ (a : Result Replied NodeFault). LockTold I c a) head h.0 in
      let at = ledger c.0 (All-head (λ c. shard c < K.shards) c cs within) in
      All-cons (λ r. All (IsReply K) r.replies) r rs (subst (λ K. All (IsReply K) r.replies) at.0 told.1)
      (replied_names K ledger cs answers rs tail (All-tail (λ c. shard c < K.shards) c cs within) h.1)

pub gathered_replies : (K : Shape) (I : ℕ → Sight) (cs : List (ℕ × LockCall)) (answers : List (Result Replied NodeFault)) (rs : List ShardReplies)
    → Gathered cs answers rs → EachAnswer (LockTold I) cs answers → AreShardsOf K I → AreShards shard K.shards cs → AreReplies K rs
gathered_replies K I cs answers rs g told ledger below = (
  shards_alike K.shards shard (λ r. r.shard) cs rs g.shards below,
  replied_stamps I cs answers rs g.replies told,
  replied_names I K ledger cs answers rs g.replies below.1 told,
)
