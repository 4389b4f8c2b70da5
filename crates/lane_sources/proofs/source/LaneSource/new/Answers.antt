use Rattle.std.proofs.Common.{◌*◌, ◌<◌, ◌≤◌, length, sym, ◌∙◌, subst, arith, ℕ}
use Rattle.std.specs.Vec.{vec_capacity}
use Rattle.lane_sources.specs.Sources.{count_of_lanes, HasComeTo}
use Rattle.std.proofs.Math.Nat.{mul-le-mul_left}
use Rattle.lane_sources.proofs.Saying.{come_begin}
use Rattle.lane_sources.proofs.Noting.{room_ceil}
use Rattle.lane_sources.proofs.source.LaneSource.new.Goals as goal

pub invariant_of-result : goal.invariant_of-result
invariant_of-result g c =
    let v = c.in_ok-with_capacity.field-0 in
    let m = c.div_ceil-room.result in
    let few : length g.F.Deals.file ≤ count_of_lanes g.F.Deals.shape * m =
    subst (λ f. length f ≤ count_of_lanes g.F.Deals.shape * m) c.txs.ensures
    (subst (λ n. length c.txs.result.now ≤ n * m) c.lanes.ensures.lanes
    (room_ceil (length c.txs.result.now) c.lanes.result m c.lanes.ensures.some c.div_ceil-room.ensures)) in
    let within : c.args.lane < count_of_lanes g.F.Deals.shape =
    subst (λ n. c.args.lane < n) (sym c.lanes.ensures.same ∙ c.lanes.ensures.lanes) c.requires in
    record {
      come = subst (λ xs. HasComeTo g.F.Deals.shape g.F.Deals.verdicts g.F.Deals.file c.args.lane c.args.lane 0 xs)
          (sym c.in_ok-with_capacity.ensures.items) (come_begin g.F.Deals.shape g.F.Deals.verdicts g.F.Deals.file c.args.lane within);
      room = more (count_of_lanes g.F.Deals.shape) few (vec_capacity v) c.in_ok-with_capacity.ensures.capacity;
    }
  where
    more : (n : ℕ) → length g.F.Deals.file ≤ n * c.div_ceil-room.result → (k : ℕ) → c.div_ceil-room.result ≤ k → length g.F.Deals.file ≤ n * k
    more n few k le = let h : n * c.div_ceil-room.result ≤ n * k = mul-le-mul_left n le in omega (arith, few, h)
