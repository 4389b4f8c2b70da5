use Rattle.record_log.proofs.Rows.{RecordsSoFar}
use Rattle.record_log.proofs.opening.later_records.Given as goal

abbrev pub invariant-bodies : goal.invariant-bodies
invariant-bodies l = RecordsSoFar l.header l.records.items l.at l.i l.bodies
