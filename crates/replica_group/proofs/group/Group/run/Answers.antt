use Rattle.std.proofs.Common.{◌∷◌, [], ◌++◌, take, sym, ap, ◌∙◌, subst}
use Rattle.std.proofs.lemmas.List.{take_more}
use Rattle.shard_replica.specs.Steps.{Run}
use Rattle.replica_group.proofs.Stepping.{run_one}
use Rattle.replica_group.proofs.group.Group.run.Goals as goal

pub events-preserved : goal.events-preserved
events-preserved c =
    subst (λ es. Run c.args.self.now es c.step.new.self)
    (sym (take_more c.args.events.now c.events.event-index c.event-item.result c.events-test.true
    ∙ ap (λ x. take c.events.event-index c.args.events.now ++ x ∷ []) (sym c.event-item.is)))
    (run_one c.args.self.now c.events.self c.step.new.self (take c.events.event-index c.args.events.now) c.event-item.result c.events.invariant
    c.in_ok-step.ensures.ok)
