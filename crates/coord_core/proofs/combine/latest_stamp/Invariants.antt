use Rattle.std.proofs.Common.{◌≡◌, ◌^◌, ◌<◌, drop}
use Rattle.coord_core.specs.Decided.{latest_reply, StampsBelow}
use Rattle.coord_core.proofs.combine.latest_stamp.Given as goal

abbrev pub invariant-loop-r : goal.invariant-loop-r
invariant-loop-r l = record {
  latest : latest_reply l.greatest (drop l.r-index l.replies) ≡ latest_reply l.last l.replies;
  bound : l.greatest < 2 ^ 63;
  earlier : StampsBelow (2 ^ 63) (drop l.r-index l.replies);
}
