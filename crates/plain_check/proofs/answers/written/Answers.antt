use Rattle.std.proofs.Common.{arith}
use Rattle.cbdc_model.specs.History.{header_of}
use Rattle.cbdc_model.specs.World.{journals}
use Rattle.plain_check.specs.Events.{call_in}
use Rattle.plain_check.proofs.WorldSteps.{answered_in_clock}
use Rattle.plain_check.proofs.answers.written.Goals as goal

pub returns-then-not-is_in_clock : goal.returns-then-not-is_in_clock
returns-then-not-is_in_clock c = λ r a.
    let k = answered_in_clock (header_of c.args.shape.now c.args.genesis.now c.args.node) (journals c.args.nodes.now c.args.node)
    (call_in c.args.call.now) r a.2 a.3 in
    let h = c.is_in_clock.ensures.1 (k.0, omega (arith, k.1)) in
    absurd (cc)
