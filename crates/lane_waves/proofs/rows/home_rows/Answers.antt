use Rattle.std.proofs.Common.{rules, ◌≡◌, ◌+◌, ◌*◌, length, sym, subst, arith}
use Rattle.lane_waves.specs.Places.{AllFrom}
use Rattle.lane_waves.specs.Rows.{lanes_from, IsHomeRow}
use Rattle.lane_waves.proofs.Places.{all_more}
use Rattle.lane_waves.proofs.rows.home_rows.Goals as goal

pub loop-home-preserved : goal.loop-home-preserved
loop-home-preserved c =
    let inv = c.loop-home.invariant in
    let old = c.loop-home.rows in
    let n : c.loop-home.home ≡ 0 + length old.items = omega (arith, inv.len, old.ok.0) in
    let row : IsHomeRow c.args.shape.now (0 + length old.items) c.in_ok-row.field-0 =
    subst (λ h. c.in_ok-row.field-0.items ≡ lanes_from (h * c.args.shape.now.lanes) c.args.shape.now.lanes) n
    (subst (λ m. c.in_ok-row.field-0.items ≡ lanes_from (c.loop-home.home * m) m) c.lanes-lanes.ensures.value c.in_ok-row.ensures) in
    record {
      rows = subst (AllFrom (IsHomeRow c.args.shape.now) 0) (sym c.push_reserved.ensures.items)
          (all_more (IsHomeRow c.args.shape.now) 0 old.items c.in_ok-row.field-0 inv.rows row);
      len = search (rules, inv);
      capacity = search (rules, inv);
    }
