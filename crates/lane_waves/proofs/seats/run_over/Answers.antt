use Rattle.std.proofs.Common.{rules}
use Rattle.phase_calls.specs.Phase.{AsksLocks, AsksFinishes, AsksForgets, Locks, Finishes, Forgets, IsPhaseTold}
use Rattle.lane_waves.specs.Phases.{KeepsPorts}
use Rattle.lane_waves.proofs.Making.{asked_at, told_at}
use Rattle.lane_waves.proofs.seats.run_over.Goals as goal

pub run_lane-requires-clause-mine : goal.run_lane-requires-clause-mine
run_lane-requires-clause-mine g c =
    let P = g.P.ShardPort in (
      c.requires.mine,
      record {
        lock = record {
          takes = λ f cs os ps asks calls out ports d e h. let asked =
              asked_at (AsksLocks P.sight P.serves) cs calls.now os out.now ps ports.now d e h asks in search rules;
          tells = λ f cs os ps os' ps' d. told_at (IsPhaseTold (Locks P.sight P.serves P.alone P.at P.faults P.holds)) d.calls.now cs d.out.now os
              d.ports.now ps d.after_out.now os' d.after_ports.now ps' d.calls_are d.out_is d.ports_are d.left_out d.left_ports d.called;
        };
        finish = record {
          takes = λ f cs os ps asks calls out ports d e h. let asked =
              asked_at (AsksFinishes P.sight P.serves) cs calls.now os out.now ps ports.now d e h asks in search rules;
          tells = λ f cs os ps os' ps' d. told_at (IsPhaseTold (Finishes P.sight P.serves P.alone P.at P.faults P.holds)) d.calls.now cs d.out.now os
              d.ports.now ps d.after_out.now os' d.after_ports.now ps' d.calls_are d.out_is d.ports_are d.left_out d.left_ports d.called;
        };
        forget = record {
          takes = λ f cs os ps asks calls out ports d e h. let asked =
              asked_at (AsksForgets P.sight P.serves) cs calls.now os out.now ps ports.now d e h asks in search rules;
          tells = λ f cs os ps os' ps' d. told_at (IsPhaseTold (Forgets P.sight P.serves P.alone P.at P.faults P.holds)) d.calls.now cs d.out.now os
              d.ports.now ps d.after_out.now os' d.after_ports.now ps' d.calls_are d.out_is d.ports_are d.left_out d.left_ports d.called;
        };
      },
    )

pub returns-clause-keeps : goal.returns-clause-keeps
returns-clause-keeps g c =
    let P = g.P.ShardPort in
    let k = c.run_lane.ensures.keeps.to_shards in
    let shards : KeepsPorts P.sight P.holds P.serves c.args.ports.now.shards.each.ports.items c.run_lane.new.ports.shards.each.ports.items = record {
      count_same = k.count_same;
      nodes = k.nodes;
      held = k.held;
      served = λ l h. (k.served l (
        h,
        record {
          lock = record {
            takes = λ f cs os ps asks calls out ports d e h. let asked =
                asked_at (AsksLocks P.sight P.serves) cs calls.now os out.now ps ports.now d e h asks in search rules;
            tells = λ f cs os ps os' ps' d. told_at (IsPhaseTold (Locks P.sight P.serves P.alone P.at P.faults P.holds)) d.calls.now cs d.out.now os
                d.ports.now ps d.after_out.now os' d.after_ports.now ps' d.calls_are d.out_is d.ports_are d.left_out d.left_ports d.called;
          };
          finish = record {
            takes = λ f cs os ps asks calls out ports d e h. let asked =
                asked_at (AsksFinishes P.sight P.serves) cs calls.now os out.now ps ports.now d e h asks in search rules;
            tells = λ f cs os ps os' ps' d. told_at (IsPhaseTold (Finishes P.sight P.serves P.alone P.at P.faults P.holds)) d.calls.now cs d.out.now
                os d.ports.now ps d.after_out.now os' d.after_ports.now ps' d.calls_are d.out_is d.ports_are d.left_out d.left_ports d.called;
          };
          forget = record {
            takes = λ f cs os ps asks calls out ports d e h. let asked =
                asked_at (AsksForgets P.sight P.serves) cs calls.now os out.now ps ports.now d e h asks in search rules;
            tells = λ f cs os ps os' ps' d. told_at (IsPhaseTold (Forgets P.sight P.serves P.alone P.at P.faults P.holds)) d.calls.now cs d.out.now
                os d.ports.now ps d.after_out.now os' d.after_ports.now ps' d.calls_are d.out_is d.ports_are d.left_out d.left_ports d.called;
          };
        },
      )).0;
    } in
    record { to_log = c.run_lane.ensures.keeps.to_log; to_shards = shards }
