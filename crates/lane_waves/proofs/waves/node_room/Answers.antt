use Rattle.std.proofs.Common.{subst}
use Rattle.lane_waves.specs.Deals.{IsEmptyRoom}
use Rattle.lane_waves.proofs.waves.node_room.Goals as goal

pub returns-clause-room : goal.returns-clause-room
returns-clause-room g c =
    let lists = c.in_ok-logs in
    record {
      home_rows = c.in_ok-home_rows.ensures.rows;
      home_rows_many = c.in_ok-home_rows.ensures.count;
      shard_rows = c.in_ok-shard_rows.ensures.rows;
      shard_rows_many = c.in_ok-shard_rows.ensures.count;
      logs = subst (λ n. IsEmptyRoom n lists.logs) c.coordinators.ensures.value lists.ensures.0;
      shards = subst (λ n. IsEmptyRoom n lists.shards) c.shards.ensures.value lists.ensures.1;
      ready = c.in_ok-make_ready.ensures.ready;
    }
