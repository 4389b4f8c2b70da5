use Rattle.std.proofs.Common.{◌∷◌, [], ◌+◌, ◌*◌, ◌∙◌, length, length-append, ap, arith}
use Rattle.ledger_runs.specs.Planning.{IsFound}
use Rattle.ledger_runs.proofs.Plans.{found_more}
use Rattle.ledger_runs.proofs.openings.open_lanes.Goals as goal

pub loop-lane-init : goal.loop-lane-init
loop-lane-init g c = record {
  count = c.lane_count-count.ensures.value ∙ ap (λ s. s.coordinators * s.lanes) c.shape.ensures;
  len = ap length c.in_ok-found.ensures.items;
  room = c.in_ok-found.ensures.exact;
  each = λ k low. absurd (omega (arith, low));
}

pub loop-lane-preserved : goal.loop-lane-preserved
loop-lane-preserved g c =
    let so = c.loop-lane.invariant in
    let one = c.in_ok-open_lane.field-0 in
    record {
      count = so.count;
      len = ap length c.push_reserved.ensures.items ∙ length-append c.loop-lane.found.items (one ∷ []) ∙ ap (λ n. n + 1) so.len;
      room = c.push_reserved.ensures.capacity ∙ so.room;
      each = found_more (IsFound (g.L.Turns.shape c.args.ledger.now) (g.L.Turns.journals c.args.ledger.now) (g.L.Turns.opens c.args.ledger.now))
          c.loop-lane.found.items c.push_reserved.new.self.items c.loop-lane.lane one
          so.len c.push_reserved.ensures.items so.each c.in_ok-open_lane.ensures.found;
    }
