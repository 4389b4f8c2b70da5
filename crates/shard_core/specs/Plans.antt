-- What the plans of the calls say.
use Rattle.std.specs.Prelude.{ℕ, Bool, List}
use Rattle.cbdc_model.specs.Records.{Batch}
use Rattle.cbdc_model.specs.Next.{Plan, RepliesAt, Kept, Append, Refuse}
use Rattle.shard_core.specs.declared.core_state.ShardCore.{ShardCore}
use Rattle.shard_core.specs.Admitted.{IsFinishable}
use Rattle.shard_core.specs.Stands.{IsLanePast}
use Rattle.shard_core.specs.declared.plans.StampPlan.{StampPlan}
use Rattle.shard_core.specs.declared.plans.StampPlan.TheVariants.{Kept as StampKept, Append as StampNext, Refused as StampRefused}
use Rattle.shard_core.specs.declared.plans.LockPlan.{LockPlan}
use Rattle.shard_core.specs.declared.plans.LockPlan.TheVariants.{Kept as LockKept, Append as LockNext, Refused as LockRefused}
use Rattle.cbdc_types.specs.declared.calls.Replied.{Replied}

-- what the shard plans of a Finish or a Forget, as the definitions have it
abbrev pub core_plan : StampPlan → Plan ℕ
core_plan (StampKept stamp) = Kept stamp
core_plan (StampNext stamp) = Append stamp
core_plan (StampRefused why) = Refuse why

-- the replies to a part with the stamp of their Lock, as the definitions have them
abbrev pub core_replies : Replied → RepliesAt
core_replies r = record { given = r.replies; at = r.stamp }

-- what the shard plans of a Lock, as the definitions have it
abbrev pub core_lock_plan : LockPlan → Plan RepliesAt
core_lock_plan (LockKept r) = Kept (core_replies r)
core_lock_plan (LockNext r) = Append (core_replies r)
core_lock_plan (LockRefused why) = Refuse why

-- where a Finish is to be appended, its batch is locked with as many entries
abbrev pub IsFinishPlan : StampPlan → ShardCore → Batch → List Bool → Type 0
IsFinishPlan (StampKept stamp) core b ds = Unit {0}
IsFinishPlan (StampNext stamp) core b ds = IsFinishable core b ds
IsFinishPlan (StampRefused why) core b ds = Unit {0}

-- where a Forget is to be appended, its batch is not locked any more
abbrev pub IsForgetPlan : StampPlan → ShardCore → Batch → Type 0
IsForgetPlan (StampKept stamp) core b = Unit {0}
IsForgetPlan (StampNext stamp) core b = IsLanePast core b.lane
IsForgetPlan (StampRefused why) core b = Unit {0}
