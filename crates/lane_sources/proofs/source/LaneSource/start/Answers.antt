use Rattle.std.proofs.Common.{◌*◌, ◌≤◌, length, sym, subst}
use Rattle.lane_sources.specs.Sources.{count_of_lanes, HasComeTo}
use Rattle.lane_sources.proofs.Saying.{come_begin}
use Rattle.lane_sources.proofs.source.LaneSource.start.Goals as goal

pub invariant_of-self : goal.invariant_of-self
invariant_of-self g c = record {
  come = subst (λ xs. HasComeTo g.F.Deals.shape g.F.Deals.verdicts g.F.Deals.file c.args.lane c.args.lane 0 xs) (sym c.clear.ensures.items)
      (come_begin g.F.Deals.shape g.F.Deals.verdicts g.F.Deals.file c.args.lane c.requires);
  room = subst (λ m. length g.F.Deals.file ≤ count_of_lanes g.F.Deals.shape * m) (sym c.clear.ensures.capacity) c.self.invariant.room;
}
