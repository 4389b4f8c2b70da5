-- A run that goes on by one event.
use Rattle.std.proofs.Common.{List, [], ◌∷◌, ◌++◌, refl, subst}
use Rattle.shard_replica.specs.declared.packets.GroupEvent.{GroupEvent}
use Rattle.shard_replica.specs.Groups.{Group}
use Rattle.shard_replica.specs.Steps.{Step, Run}

pub run_one : (g k l : Group) (es : List GroupEvent) (e : GroupEvent) → Run g es k → Step k e l → Run g (es ++ e ∷ []) l
run_one g k l [] e same step = (l, subst (λ x. Step x e l) same step, refl)
run_one g k l (d ∷ es) e run step = (run.0, run.1, run_one run.0 k l es e run.2 step)
