use Rattle.std.proofs.Common.{arith}
use Rattle.coord_core.proofs.Kept.{kept_is}
use Rattle.coord_core.proofs.replaying.CoordCoreCore.kept_room.Goals as goal

pub returns : goal.returns
returns c = λ J roomy is. omega (
  arith,
  c.kept_room.ensures.value,
  c.kept_room.ensures.bound,
  kept_is c.args.self.now J c.kept_room.ensures.whole roomy.stands is,
)
