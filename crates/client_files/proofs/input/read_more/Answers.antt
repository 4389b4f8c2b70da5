use Rattle.std.proofs.Common.{◌<◌, refl, arith}
use Rattle.client_files.proofs.input.read_more.Goals as goal

some : 0 < 65536
some = omega arith

pub read_into-requires-clause-some : goal.read_into-requires-clause-some
read_into-requires-clause-some g c = some

pub slice_bounds-read_into-end : goal.slice_bounds-read_into-end
slice_bounds-read_into-end g c = refl

pub returns-clause-later : goal.returns-clause-later
returns-clause-later g c = λ other. c.read_into.ensures.later other

pub returns-clause-failed : goal.returns-clause-failed
returns-clause-failed g c = c.read_into.ensures.failed
