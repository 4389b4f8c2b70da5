use Rattle.std.proofs.Common.{◌∙◌, arith}
use Rattle.plain_check.proofs.WorldSteps.{run_more}
use Rattle.plain_check.proofs.world.World.run.Goals as goal

pub loop-event-preserved : goal.loop-event-preserved
loop-event-preserved c = (
  c.step.ensures.mint.0 ∙ c.loop-event.invariant.0,
  c.step.ensures.mint.1 ∙ c.loop-event.invariant.1,
  λ hashes. run_more c.loop-event.self.shape c.args.self.now.shape c.loop-event.self.genesis c.args.self.now.genesis hashes
      c.loop-event.invariant.0 c.loop-event.invariant.1 c.args.self.now.nodes.items c.loop-event.self.nodes.items c.step.new.self.nodes.items
      c.args.events.now c.loop-event.event-index c.event-item.result (omega arith) c.event-item.is
      (c.loop-event.invariant.2 hashes) (c.in_ok-step.ensures.ok hashes),
)
