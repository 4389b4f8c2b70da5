use Rattle.std.proofs.Common.{take, reverse}
use Rattle.node_journal.specs.Opening.{IsPlayed}
use Rattle.node_journal.proofs.Stops.{IsPlaceOf}
use Rattle.node_journal.proofs.replaying.replayed.Given as goal

abbrev pub invariant-records : goal.invariant-records
invariant-records g l = record {
  played : IsPlayed g.C.Core.header g.C.Core.stands g.C.Core.kind l.header l.core (reverse (take l.i l.records));
  place : IsPlaceOf l.at (take l.i l.records);
}
