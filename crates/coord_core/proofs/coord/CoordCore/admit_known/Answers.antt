use Rattle.std.proofs.Common.{subst}
use Rattle.coord_core.specs.Lanes.{CoordOf, IsCoordWhole}
use Rattle.coord_core.proofs.Following.{told_after}
use Rattle.coord_core.proofs.coord.CoordCore.admit_known.Goals as goal

pub returns-clause-after : goal.returns-clause-after
returns-clause-after c =
    let W : CoordOf → Type 0 = λ x. IsCoordWhole x in
    told_after c.args.self.now c.args.next.now c.admit_next.result (subst W c.self.view_is c.self.invariant) c.requires c.admit_next.ensures.next
