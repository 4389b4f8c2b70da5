use Rattle.std.proofs.Common.{◌∙◌}
use Rattle.phase_calls.specs.Phase.{Makes}
use Rattle.phase_calls.proofs.Telling.{filled}
use Rattle.phase_calls.proofs.phases.make_each.Goals as goal

pub at_each-requires-after_bounds : goal.at_each-requires-after_bounds
at_each-requires-after_bounds g c κs within =
    record { rising = c.requires.rising; taken = c.requires.taken; room = c.as_mut_slice.ensures.len ∙ c.hold_places.ensures.count }

pub returns : goal.returns
returns g c =
    record {
      made = filled (Makes g.F.Fn c.args.f.now) c.args.calls.now c.args.ports.now c.at_each.new.ports c.hold_places.new.out c.at_each.new.answers
          c.hold_places.ensures.count c.at_each.ensures;
      capacity = c.hold_places.ensures.capacity;
    }
