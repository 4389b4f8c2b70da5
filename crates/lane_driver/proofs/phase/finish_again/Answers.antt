use Rattle.lane_laws.specs.Answers.{FinishAnswer}
use Rattle.cbdc_model.specs.Calls.{IsFinishCall}
use Rattle.lane_driver.proofs.Telling.{asked_all}
use Rattle.lane_driver.proofs.Fitting.{calls_kept}
use Rattle.std.proofs.Common.{rules}
use Rattle.lane_driver.proofs.Keeping.{shards_same, shards_on}
use Rattle.lane_driver.proofs.phase.finish_again.Goals as goal

pub returns-clause-told : goal.returns-clause-told
returns-clause-told g c = asked_all (FinishAnswer g.S.PortSet.alone) c.args.calls.now c.loop-time._time c.args.repeats
    (g.S.PortSet.sights c.args.shards.now) (g.S.PortSet.sights c.loop-time.shards) c.loop-time.auto._time-end c.loop-time-test.false
    c.loop-time.invariant.told

pub finish-requires-clause-calls : goal.finish-requires-clause-calls
finish-requires-clause-calls g c = calls_kept IsFinishCall (g.S.PortSet.sights c.args.shards.now) (g.S.PortSet.sights c.loop-time.shards)
    c.loop-time.invariant.keeps.nodes c.args.calls.now c.requires.calls

pub finish-requires-clause-mine : goal.finish-requires-clause-mine
finish-requires-clause-mine g c = λ i d inside. c.loop-time.invariant.keeps.served _ (c.requires.mine i d inside)

pub loop-time-init : goal.loop-time-init
loop-time-init g c = record { capacity = search rules; told = search rules; keeps = shards_same c.args.shards.now }

pub loop-time-preserved : goal.loop-time-preserved
loop-time-preserved g c = record {
  capacity = search rules;
  told = search rules;
  keeps = shards_on c.loop-time.invariant.keeps c.finish.ensures.keeps;
}
