use Rattle.std.proofs.Common.{◌≡◌, drop}
use Rattle.coord_core.specs.Masks.{marked}
use Rattle.coord_core.proofs.mask.mark.Given as goal

abbrev pub invariant-loop-x : goal.invariant-loop-x
invariant-loop-x l = marked l.shape l.marks (drop l.x-index l.hashes) ≡ marked l.shape l.mask l.hashes
