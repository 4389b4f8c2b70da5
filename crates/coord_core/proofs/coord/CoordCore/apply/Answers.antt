use Rattle.coord_core.proofs.Standing.{stands_next}
use Rattle.coord_core.proofs.coord.CoordCore.apply.Goals as goal

pub returns-clause-stands : goal.returns-clause-stands
returns-clause-stands c = λ past stands. stands_next c.args.self.now _ past c.args.r.now c.take.ensures.whole stands c.requires c.take.ensures.taken
