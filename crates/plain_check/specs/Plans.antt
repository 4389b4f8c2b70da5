-- The plans of the program as those of the definitions.
use Rattle.std.specs.Prelude.{ℕ}
use Rattle.cbdc_model.specs.Next.{Plan, RepliesAt, Kept, Append, Refuse}
use Rattle.cbdc_types.specs.declared.calls.Replied.{Replied}
use Rattle.plain_check.specs.declared.plans.LockPlan.{LockPlan}
use Rattle.plain_check.specs.declared.plans.LockPlan.TheVariants.{Kept as LockKept, Append as LockAppend, Refuse as LockRefuse}
use Rattle.plain_check.specs.declared.plans.StampPlan.{StampPlan}
use Rattle.plain_check.specs.declared.plans.StampPlan.TheVariants.{Kept as StampKept, Append as StampAppend, Refuse as StampRefuse}

-- the program's replies to a part with the stamp of their Lock, as the definitions have them
abbrev pub plain_replies : Replied → RepliesAt
plain_replies r = record { given = r.replies; at = r.stamp }

-- the program's plan of a Lock, as the definitions have it
abbrev pub locking_plan : LockPlan → Plan RepliesAt
locking_plan (LockKept r) = Kept (plain_replies r)
locking_plan (LockAppend r) = Append (plain_replies r)
locking_plan (LockRefuse why) = Refuse why

-- the program's plan of a Finish or a Forget, as the definitions have it
abbrev pub plain_plan : StampPlan → Plan ℕ
plain_plan (StampKept stamp) = Kept stamp
plain_plan (StampAppend stamp) = Append stamp
plain_plan (StampRefuse why) = Refuse why
