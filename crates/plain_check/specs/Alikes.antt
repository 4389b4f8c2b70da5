-- What a batch is at one shard, where it is finished alike on all.
use Rattle.std.specs.Prelude.{◌≡◌, ℕ, ◌<◌, true, List, is_some}
use Rattle.cbdc_model.specs.Records.{Shape, Batch, Record, record_of, txs_of, outcomes_of, decisions_in, lock_kind, finish_kind, forget_kind}
use Rattle.cbdc_model.specs.Records.{prepare_kind}
use Rattle.cbdc_model.specs.Ranges.{home_of, shard_node, part, is_no_part, Concerned}
use Rattle.cbdc_model.specs.Outcomes.{decisions}
use Rattle.cbdc_model.specs.World.{count_of, IsAlike}

-- a concerned shard has one Lock and one Finish of the batch, with the Commit's decisions
pub record IsFinishedAt (K : Shape) (J : ℕ → List Record) (b : Batch) (s : ℕ) : Type 0 where
  pub one_lock : count_of lock_kind (J (shard_node K s)) b ≡ 1
  pub one_finish : count_of finish_kind (J (shard_node K s)) b ≡ 1
  pub same_decisions : decisions_in (record_of finish_kind (J (shard_node K s)) b)
      ≡ decisions (outcomes_of (J (home_of K b.lane)) b) (part K s 0 (txs_of (J (home_of K b.lane)) b))

-- a journal has no record of the batch that a shard writes
pub record HasNone (past : List Record) (b : Batch) : Type 0 where
  pub lock : count_of lock_kind past b ≡ 0
  pub finish : count_of finish_kind past b ≡ 0
  pub forget : count_of forget_kind past b ≡ 0

-- the shard is finished where the batch concerns it, and has no record of it elsewhere
pub record IsAlikeAt (K : Shape) (J : ℕ → List Record) (b : Batch) (s : ℕ) : Type 0 where
  pub finished : Concerned K (txs_of (J (home_of K b.lane)) b) s → IsFinishedAt K J b s
  pub none : s < K.shards → is_no_part (part K s 0 (txs_of (J (home_of K b.lane)) b)) ≡ true → HasNone (J (shard_node K s)) b

-- the batches that these records prepare at their own coordinator are finished alike
abbrev pub PreparedAlike : Shape → (ℕ → List Record) → ℕ → List Record → Type 0
PreparedAlike K J n past = (b : Batch) → home_of K b.lane ≡ n → is_some (record_of prepare_kind past b) ≡ true → IsAlike K J b
