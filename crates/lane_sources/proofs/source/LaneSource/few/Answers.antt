use Rattle.std.proofs.Common.{◌+◌, ◌-◌, ◌*◌, ◌≡◌, ◌≤◌, ℕ, length, ap, subst, arith}
use Rattle.lane_sources.specs.Sources.{count_of_lanes, all_for_lane}
use Rattle.lane_sources.proofs.Saying.{all_few}
use Rattle.lane_sources.proofs.Noting.{room_ceil}
use Rattle.lane_sources.proofs.source.LaneSource.few.Goals as goal

pub returns : goal.returns
returns g c =
    let m = c.div_ceil.result in
    let lane = c.self.inside.lane in
    let behind : c.saturating_sub-from_its_first.result ≤ c.lanes.result * m =
    room_ceil c.saturating_sub-from_its_first.result c.lanes.result m c.lanes.ensures.some c.div_ceil.ensures in
    let few : length g.F.Deals.file ≤ lane + count_of_lanes g.F.Deals.shape * m =
    subst (λ f. length f ≤ lane + count_of_lanes g.F.Deals.shape * m) c.txs.ensures
    (subst (λ n. length c.txs.result.now ≤ lane + n * m) c.lanes.ensures.lanes
    (with_those_before (length c.txs.result.now) lane c.saturating_sub-from_its_first.result (c.lanes.result * m)
    c.saturating_sub-from_its_first.ensures behind)) in
    subst (λ l. length (all_for_lane g.F.Deals.shape g.F.Deals.verdicts g.F.Deals.file l) ≤ m) (ap (λ s. s.lane) c.self.view_is)
    (all_few g.F.Deals.shape g.F.Deals.verdicts g.F.Deals.file lane m c.self.invariant.come.within few)
  where
    with_those_before : (count lane left most : ℕ) → left ≡ count - lane → left ≤ most → count ≤ lane + most
    with_those_before count lane left most is le = omega (arith, is, le)
