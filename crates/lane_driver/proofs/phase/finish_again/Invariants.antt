use Rattle.std.proofs.Common.{◌≡◌}
use Rattle.std.specs.Vec.{vec_capacity}
use Rattle.lane_laws.specs.Answers.{FinishAnswer, AskedTimes}
use Rattle.lane_driver.specs.Keeping.{KeepsShards}
use Rattle.lane_driver.proofs.phase.finish_again.Given as goal

abbrev pub invariant-loop-time : goal.invariant-loop-time
invariant-loop-time g l = record {
  capacity : vec_capacity l.answers ≡ vec_capacity l.initial.answers;
  told : AskedTimes (FinishAnswer g.S.PortSet.alone) l.calls l._time (g.S.PortSet.sights l.initial.shards) (g.S.PortSet.sights l.shards);
  keeps : KeepsShards g.S.PortSet.count g.S.PortSet.sights g.S.PortSet.faults g.S.PortSet.holds g.S.PortSet.serves l.initial.shards l.shards;
}
