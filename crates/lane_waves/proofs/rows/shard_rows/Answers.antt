use Rattle.std.proofs.Common.{rules, ◌≡◌, ◌+◌, length, sym, subst}
use Rattle.lane_waves.specs.Places.{AllFrom}
use Rattle.lane_waves.specs.Rows.{lanes_from, IsShardRow}
use Rattle.lane_waves.proofs.Places.{all_more}
use Rattle.lane_waves.proofs.rows.shard_rows.Goals as goal

pub loop-shard-preserved : goal.loop-shard-preserved
loop-shard-preserved c =
    let inv = c.loop-shard.invariant in
    let old = c.loop-shard.rows in
    let row : IsShardRow c.args.shape.now (0 + length old.items) c.in_ok-row.field-0 =
    subst (λ m. c.in_ok-row.field-0.items ≡ lanes_from 0 m) c.lane_count-lanes.ensures.value c.in_ok-row.ensures in
    record {
      rows = subst (AllFrom (IsShardRow c.args.shape.now) 0) (sym c.push_reserved.ensures.items)
          (all_more (IsShardRow c.args.shape.now) 0 old.items c.in_ok-row.field-0 inv.rows row);
      len = search (rules, inv);
      capacity = search (rules, inv);
    }
