use Rattle.std.proofs.Common.{arith}
use Rattle.record_log.proofs.Measures.{counted_long}
use Rattle.record_log.proofs.measure.length_of_list.Goals as goal

pub returns : goal.returns
returns g c = grind (arith, counted_long g.T.Spell.spelled c.args.list.now)
