-- What a shard that lanes share is asked, and answers.
use Rattle.std.specs.Prelude.{ℕ, true, false, List, Option, All}
use Rattle.cbdc_types.specs.declared.calls.LockCall.{LockCall}
use Rattle.cbdc_types.specs.declared.calls.FinishCall.{FinishCall}
use Rattle.cbdc_types.specs.declared.calls.ForgetCall.{ForgetCall}
use Rattle.cbdc_types.specs.declared.calls.Replied.{Replied}
use Rattle.cbdc_model.specs.Records.{Header, Record}
use Rattle.cbdc_model.specs.Grammar.{IsReply}
use Rattle.cbdc_model.specs.Calls.{IsLockCall, IsFinishCall, IsForgetCall}
use Rattle.cbdc_model.specs.Due.{Due, lock_due, finish_due, forget_due}
use Rattle.cbdc_model.specs.Sights.{Sight}
use Rattle.lane_driver.specs.Told.{IsStamp}
use Rattle.port_sets.specs.Giving.{NodeGives}
use Rattle.port_sets.specs.declared.locking.ShardCall.{ShardCall}
use Rattle.port_sets.specs.declared.locking.ShardCall.TheVariants.{Lock, Finish, Forget}
use Rattle.port_sets.specs.declared.locking.ShardReply.{ShardReply}
use Rattle.port_sets.specs.declared.locking.ShardReply.TheVariants.{Locked, Stamped}

-- the lane of a call at a shard
abbrev pub shard_call_lane : ShardCall → ℕ
shard_call_lane (Lock c) = c.now.batch.lane
shard_call_lane (Finish c) = c.now.batch.lane
shard_call_lane (Forget c) = c.now.batch.lane

-- a call may be made at a shard with this header
abbrev pub shard_may_be_asked : Header → ShardCall → Type 0
shard_may_be_asked h (Lock c) = IsLockCall h c.now
shard_may_be_asked h (Finish c) = IsFinishCall h c.now
shard_may_be_asked h (Forget c) = IsForgetCall h c.now

-- what a shard with this header and capacity owes a call to lock
abbrev pub lock_owed : LockCall → Header → ℕ → Option ℕ → List Record → Due Replied
lock_owed c h capacity = lock_due h.shape capacity c

-- what a shard owes a call to finish, whatever its header and capacity
abbrev pub finish_owed : FinishCall → Header → ℕ → Option ℕ → List Record → Due ℕ
finish_owed c h capacity = finish_due c

-- what a shard owes a call to forget, whatever its header and capacity
abbrev pub forget_owed : ForgetCall → Header → ℕ → Option ℕ → List Record → Due ℕ
forget_owed c h capacity = forget_due c

-- a good answer to a call to lock: a stamp below 2^63, and replies of hashes and batches of the shape
abbrev pub good_reply : Header → List Record → Replied → Type 0
good_reply h J a = IsStamp a.stamp × All (IsReply h.shape) a.replies

-- a good answer to a call to finish or to forget: a stamp below 2^63
abbrev pub good_stamp : Header → List Record → ℕ → Type 0
good_stamp h J t = IsStamp t

-- the answer is of the call's kind
abbrev pub shard_gives : Sight → ShardCall → Sight → ShardReply → Type 0
shard_gives s (Lock c) t (Locked r) = NodeGives c.now.batch.lane true (lock_owed c.now) good_reply s t r
shard_gives s (Lock c) t (Stamped r) = ⊥
shard_gives s (Finish c) t (Locked r) = ⊥
shard_gives s (Finish c) t (Stamped r) = NodeGives c.now.batch.lane false (finish_owed c.now) good_stamp s t r
shard_gives s (Forget c) t (Locked r) = ⊥
shard_gives s (Forget c) t (Stamped r) = NodeGives c.now.batch.lane false (forget_owed c.now) good_stamp s t r
