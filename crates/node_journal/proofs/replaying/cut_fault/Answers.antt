use Rattle.std.proofs.Common.{arith}
use Rattle.record_log.proofs.LogSizes.{limits_of}
use Rattle.node_journal.proofs.Stops.{all_played, cut_unplayed}
use Rattle.node_journal.proofs.replaying.cut_fault.Goals as goal
use Rattle.node_journal.proofs.replaying.cut_fault.Goals.{in-Ok, in-Err}

pub returns-clause-refusal : goal.returns-clause-refusal
returns-clause-refusal g c = λ limit bytes cuts.
    let h = c.args.header.now in
    let records = c.args.records.now in
    elim c.match-core.branch [
      | in-Ok w ↦ rw w.result-is (all_played g.C.Core.kind g.C.Core.other h records c.args.at bytes (limits_of h records c.requires)
          w.in-Ok.ensures.played.journal w.in-Ok.ensures.played.kind cuts)
      | in-Err w ↦ rw w.result-is (cut_unplayed g.C.Core.kind g.C.Core.other limit h records c.args.at w.in-Err.fault bytes c.requires
          w.in-Err.ensures.unplayed cuts (omega (arith, c.ranges.at)))
    ]
