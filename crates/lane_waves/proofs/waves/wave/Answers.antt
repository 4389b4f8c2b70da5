use Rattle.std.proofs.Common.{◌≤◌, List, length, map, sym, ap, ◌∙◌, subst, arith}
use Rattle.std.specs.Prelude.{vec_capacity}
use Rattle.std.proofs.lemmas.List.Elements.{All-same}
use Rattle.cbdc_model.specs.Ranges.{home_of}
use Rattle.node_journal.specs.Nodes.{sight}
use Rattle.node_ports.specs.Nodes.{sight_at, IsNodeHeld}
use Rattle.lane_driver.specs.Stops.{IsLaneSettled}
use Rattle.port_sets.specs.Nodes.{log_sight, shard_sight}
use Rattle.port_sets.specs.declared.coordinators.SharedLog.{SharedLog}
use Rattle.port_sets.specs.declared.locking.SharedShard.{SharedShard}
use Rattle.thread_laws.specs.Running.{WaveRan}
use Rattle.lane_waves.specs.Laws.{WentOn}
use Rattle.lane_waves.proofs.NodePlaces.{past_end, same_length}
use Rattle.lane_waves.specs.Waves.{AreNodesOf}
use Rattle.lane_waves.proofs.Opening.{seen_maps, map_many}
use Rattle.lane_waves.proofs.Looking.{saw_by}
use Rattle.lane_waves.specs.Watchers.{HasSeen}
use Rattle.lane_waves.proofs.Waving.{went_same, unrun_wave, still_itself, went_map, all_map, may_run, same_many, wave_anew}
use Rattle.lane_waves.proofs.waves.wave.Goals as goal

pub returns-in_default-clause-ran : goal.returns-in_default-clause-ran
returns-in_default-clause-ran g c =
    let many = c.requires.shards_many in
    let logs = sight_at sight c.args.nodes.logs.items in
    let shards = sight_at g.S.Shard.sight c.args.nodes.shards.items in
    unrun_wave c.args.shape.now logs shards logs shards c.args.lanes.now.items c.stop_all.new.lanes.items c.lanes-lanes.ensures.limits
    (λ n lt. still_itself (logs n)) (λ s lt. still_itself (shards s))
    (λ s le. past_end g.S.Shard.sight g.S.Shard.goes c.args.nodes.shards.items s (omega (arith, le, many)))
    c.requires.settled c.requires.lanes_many (c.stop_all.ensures.same ∙ c.node_room.ensures.same) c.stop_all.ensures.stopped

pub returns-in_default-clause-logs_go : goal.returns-in_default-clause-logs_go
returns-in_default-clause-logs_go g c = went_same sight (λ a b. IsNodeHeld g.D.Disk a → IsNodeHeld g.D.Disk b) (λ n held. held)
    c.args.nodes.logs.items

pub returns-in_default-clause-shards_go : goal.returns-in_default-clause-shards_go
returns-in_default-clause-shards_go g c = went_same g.S.Shard.sight g.S.Shard.goes c.see_shards.ensures.stay c.args.nodes.shards.items

pub wave_shared-logs-requires-clause-limits : goal.wave_shared-logs-requires-clause-limits
wave_shared-logs-requires-clause-limits g c κs within = c.lanes-lanes.ensures.limits

pub wave_shared-logs-requires-clause-logs_many : goal.wave_shared-logs-requires-clause-logs_many
wave_shared-logs-requires-clause-logs_many g c κs within =
    sym (map_many (λ (s : SharedLog g.row.D.Denot). s.node) c.share_logs-logs.result.0.items)
    ∙ (ap (λ (xs : List _). length xs) c.share_logs-logs.ensures.nodes ∙ c.requires.logs_many)

pub wave_shared-logs-requires-clause-shards_many :
    goal.wave_shared-logs-requires-clause-shards_many
wave_shared-logs-requires-clause-shards_many g c κs within =
    sym (map_many (λ (s : SharedShard g.row.S.Denot). s.node) c.share_shards-shards.result.0.items)
    ∙ (ap (λ (xs : List _). length xs) c.share_shards-shards.ensures.nodes ∙ c.requires.shards_many)

pub wave_shared-logs-requires-clause-ledger : goal.wave_shared-logs-requires-clause-ledger
wave_shared-logs-requires-clause-ledger g c κs within =
    let logs = seen_maps (λ (s : SharedLog g.row.D.Denot). s.node) sight c.share_logs-logs.result.0.items c.args.nodes.logs.items
    c.share_logs-logs.ensures.nodes in
    let shards = seen_maps (λ (s : SharedShard g.row.S.Denot). s.node) g.S.Shard.sight c.share_shards-shards.result.0.items c.args.nodes.shards.items
    c.share_shards-shards.ensures.nodes in
    subst (λ f. AreNodesOf c.args.shape.now f (sight_at (shard_sight g.S.Shard.sight) c.share_shards-shards.result.0.items)) (sym logs)
    (subst (λ f. AreNodesOf c.args.shape.now (sight_at sight c.args.nodes.logs.items) f) (sym shards) c.requires.ledger)

pub wave_shared-logs-requires-clause-logs_since : goal.wave_shared-logs-requires-clause-logs_since
wave_shared-logs-requires-clause-logs_since g c κs within =
    all_map (λ (s : SharedLog g.row.D.Denot). s.node) (λ l. l.opened ≤ l.faults) c.share_logs-logs.result.0.items
    (All-same (λ l. l.opened ≤ l.faults) (map (λ (s : SharedLog g.row.D.Denot). s.node) c.share_logs-logs.result.0.items) c.as_slice.result.now
    (c.share_logs-logs.ensures.nodes ∙ sym c.as_slice.ensures.value) c.see_logs.ensures)

pub wave_shared-logs-requires-clause-shards_since :
    goal.wave_shared-logs-requires-clause-shards_since
wave_shared-logs-requires-clause-shards_since g c κs within =
    all_map (λ (s : SharedShard g.row.S.Denot). s.node) (λ s. (g.S.Shard.sight s).opened ≤ (g.S.Shard.sight s).faults)
    c.share_shards-shards.result.0.items
    (All-same (λ s. (g.S.Shard.sight s).opened ≤ (g.S.Shard.sight s).faults)
    (map (λ (s : SharedShard g.row.S.Denot). s.node) c.share_shards-shards.result.0.items) c.as_slice-2.result.now
    (c.share_shards-shards.ensures.nodes ∙ sym c.as_slice-2.ensures.value) c.see_shards.ensures.since)

pub wave_shared-logs-requires-clause-settled : goal.wave_shared-logs-requires-clause-settled
wave_shared-logs-requires-clause-settled g c κs within lane lt =
    let K = c.args.shape.now in
    let logs = seen_maps (λ (s : SharedLog g.row.D.Denot). s.node) sight c.share_logs-logs.result.0.items c.args.nodes.logs.items
    c.share_logs-logs.ensures.nodes in
    let shards = seen_maps (λ (s : SharedShard g.row.S.Denot). s.node) g.S.Shard.sight c.share_shards-shards.result.0.items c.args.nodes.shards.items
    c.share_shards-shards.ensures.nodes in
    subst (λ f. IsLaneSettled K lane (f (home_of K lane)) (sight_at (shard_sight g.S.Shard.sight) c.share_shards-shards.result.0.items)) (sym logs)
    (subst (λ f. IsLaneSettled K lane (sight_at sight c.args.nodes.logs.items (home_of K lane)) f) (sym shards) (c.requires.settled lane lt))

pub wave_shared-logs-requires-clause-lanes : goal.wave_shared-logs-requires-clause-lanes
wave_shared-logs-requires-clause-lanes g c κs within =
    may_run c.args.lanes.now.items c.node_room.new.lanes.items c.node_room.ensures.same c.requires.limits c.in-Ok.ensures.room.ready

pub wave_shared-logs-requires-clause-lanes_many : goal.wave_shared-logs-requires-clause-lanes_many
wave_shared-logs-requires-clause-lanes_many g c κs within =
    same_many c.args.lanes.now.items c.node_room.new.lanes.items c.node_room.ensures.same ∙ c.requires.lanes_many

pub own_logs-requires-clause-room : goal.own_logs-requires-clause-room
own_logs-requires-clause-room g c =
    let same = same_length log_sight (λ a b. IsNodeHeld g.D.Disk a.node → IsNodeHeld g.D.Disk b.node) c.share_logs-logs.result.0.items
    c.wave_shared-logs.result.logs.items c.wave_shared-logs.ensures.logs_go in
    let many = sym (map_many (λ (s : SharedLog g.row.D.Denot). s.node) c.share_logs-logs.result.0.items)
    ∙ ap (λ (xs : List _). length xs) c.share_logs-logs.ensures.nodes in
    let room = c.share_logs-logs.ensures.room.1 in
    omega (arith, same, many, room)

pub own_shards-requires-clause-room : goal.own_shards-requires-clause-room
own_shards-requires-clause-room g c =
    let same = same_length (shard_sight g.S.Shard.sight) (λ a b. g.S.Shard.goes a.node b.node) c.share_shards-shards.result.0.items
    c.wave_shared-logs.result.shards.items c.wave_shared-logs.ensures.shards_go in
    let many = sym (map_many (λ (s : SharedShard g.row.S.Denot). s.node) c.share_shards-shards.result.0.items)
    ∙ ap (λ (xs : List _). length xs) c.share_shards-shards.ensures.nodes in
    let room = c.share_shards-shards.ensures.room.1 in
    omega (arith, same, many, room)

pub returns-clause-ran : goal.returns-clause-ran
returns-clause-ran g c =
    let K = c.args.shape.now in
    let seen = g.S.Shard.sight in
    let ns = c.args.nodes.logs.items in
    let ms = c.args.nodes.shards.items in
    let ns' = c.own_logs.result.items in
    let ms' = c.own_shards.result.items in
    let old = c.args.lanes.now.items in
    let mid = c.node_room.new.lanes.items in
    let new = c.wave_shared-logs.new.lanes.items in
    let over_logs = sight_at log_sight c.wave_shared-logs.result.logs.items in
    let logs = seen_maps (λ (s : SharedLog g.row.D.Denot). s.node) sight c.share_logs-logs.result.0.items ns c.share_logs-logs.ensures.nodes in
    let shards = seen_maps (λ (s : SharedShard g.row.S.Denot). s.node) seen c.share_shards-shards.result.0.items ms
    c.share_shards-shards.ensures.nodes in
    let logs' = seen_maps (λ (s : SharedLog g.row.D.Denot). s.node) sight c.wave_shared-logs.result.logs.items ns' (sym c.own_logs.ensures) in
    let shards' = seen_maps (λ (s : SharedShard g.row.S.Denot). s.node) seen c.wave_shared-logs.result.shards.items ms' (sym c.own_shards.ensures) in
    wave_anew K (sight_at sight ns) (sight_at seen ms) (sight_at sight ns') (sight_at seen ms') old mid new c.node_room.ensures.same
    c.in-Ok.ensures.room.ready
    (subst (λ f. WaveRan K f (sight_at seen ms) (sight_at sight ns') (sight_at seen ms') mid new) logs
    (subst (λ f. WaveRan K (sight_at log_sight c.share_logs-logs.result.0.items) f (sight_at sight ns') (sight_at seen ms') mid new) shards
    (subst (λ f. WaveRan K (sight_at log_sight c.share_logs-logs.result.0.items)
    (sight_at (shard_sight g.S.Shard.sight) c.share_shards-shards.result.0.items) f (sight_at seen ms') mid new) logs'
    (subst (λ f. WaveRan K (sight_at log_sight c.share_logs-logs.result.0.items)
    (sight_at (shard_sight g.S.Shard.sight) c.share_shards-shards.result.0.items) over_logs f mid new) shards' c.wave_shared-logs.ensures.ran))))

pub returns-clause-logs_go : goal.returns-clause-logs_go
returns-clause-logs_go g c =
    subst (λ xs. WentOn sight (λ a b. IsNodeHeld g.D.Disk a → IsNodeHeld g.D.Disk b) xs c.own_logs.result.items) c.share_logs-logs.ensures.nodes
    (subst (λ ys. WentOn sight (λ a b. IsNodeHeld g.D.Disk a → IsNodeHeld g.D.Disk b)
    (map (λ (s : SharedLog g.row.D.Denot). s.node) c.share_logs-logs.result.0.items) ys) (sym c.own_logs.ensures)
    (went_map (λ (s : SharedLog g.row.D.Denot). s.node) sight (λ a b. IsNodeHeld g.D.Disk a → IsNodeHeld g.D.Disk b) c.share_logs-logs.result.0.items
    c.wave_shared-logs.result.logs.items c.wave_shared-logs.ensures.logs_go))

pub returns-clause-shards_go : goal.returns-clause-shards_go
returns-clause-shards_go g c =
    subst (λ xs. WentOn g.S.Shard.sight g.S.Shard.goes xs c.own_shards.result.items) c.share_shards-shards.ensures.nodes
    (subst (λ ys. WentOn g.S.Shard.sight g.S.Shard.goes (map (λ (s : SharedShard g.row.S.Denot). s.node) c.share_shards-shards.result.0.items) ys)
    (sym c.own_shards.ensures)
    (went_map (λ (s : SharedShard g.row.S.Denot). s.node) g.S.Shard.sight g.S.Shard.goes c.share_shards-shards.result.0.items
    c.wave_shared-logs.result.shards.items c.wave_shared-logs.ensures.shards_go))

pub share_logs-logs-requires-clause-empty : goal.share_logs-logs-requires-clause-empty
share_logs-logs-requires-clause-empty g c = c.in-Ok.ensures.room.logs.0

pub share_logs-logs-requires-clause-room : goal.share_logs-logs-requires-clause-room
share_logs-logs-requires-clause-room g c = subst (λ n. n ≤ vec_capacity c.in-Ok.room.nodes.logs) (sym c.requires.logs_many)
    c.in-Ok.ensures.room.logs.1

pub share_shards-shards-requires-clause-empty :
    goal.share_shards-shards-requires-clause-empty
share_shards-shards-requires-clause-empty g c = c.in-Ok.ensures.room.shards.0

pub share_shards-shards-requires-clause-room :
    goal.share_shards-shards-requires-clause-room
share_shards-shards-requires-clause-room g c = subst (λ n. n ≤ vec_capacity c.in-Ok.room.nodes.shards) (sym c.requires.shards_many)
    c.in-Ok.ensures.room.shards.1

pub wave_shared-logs-requires-clause-home_rows : goal.wave_shared-logs-requires-clause-home_rows
wave_shared-logs-requires-clause-home_rows g c κs within = c.in-Ok.ensures.room.home_rows

pub wave_shared-logs-requires-clause-home_rows_many :
    goal.wave_shared-logs-requires-clause-home_rows_many
wave_shared-logs-requires-clause-home_rows_many g c κs within = c.in-Ok.ensures.room.home_rows_many

pub wave_shared-logs-requires-clause-shard_rows : goal.wave_shared-logs-requires-clause-shard_rows
wave_shared-logs-requires-clause-shard_rows g c κs within = c.in-Ok.ensures.room.shard_rows

pub wave_shared-logs-requires-clause-shard_rows_many :
    goal.wave_shared-logs-requires-clause-shard_rows_many
wave_shared-logs-requires-clause-shard_rows_many g c κs within = c.in-Ok.ensures.room.shard_rows_many

pub own_logs-requires-clause-empty : goal.own_logs-requires-clause-empty
own_logs-requires-clause-empty g c = c.share_logs-logs.ensures.room.0

pub own_shards-requires-clause-empty : goal.own_shards-requires-clause-empty
own_shards-requires-clause-empty g c = c.share_shards-shards.ensures.room.0

pub returns-clause-looked : goal.returns-clause-looked
returns-clause-looked g c =
    let K = c.args.shape.now in
    let seen = g.S.Shard.sight in
    let ns = c.args.nodes.logs.items in
    let ms = c.args.nodes.shards.items in
    let ns' = c.own_logs.result.items in
    let ms' = c.own_shards.result.items in
    let first_logs = sight_at log_sight c.share_logs-logs.result.0.items in
    let first_shards = sight_at (shard_sight seen) c.share_shards-shards.result.0.items in
    let last_logs = sight_at log_sight c.wave_shared-logs.result.logs.items in
    let logs = seen_maps (λ (s : SharedLog g.row.D.Denot). s.node) sight c.share_logs-logs.result.0.items ns c.share_logs-logs.ensures.nodes in
    let shards = seen_maps (λ (s : SharedShard g.row.S.Denot). s.node) seen c.share_shards-shards.result.0.items ms
    c.share_shards-shards.ensures.nodes in
    let logs' = seen_maps (λ (s : SharedLog g.row.D.Denot). s.node) sight c.wave_shared-logs.result.logs.items ns' (sym c.own_logs.ensures) in
    let shards' = seen_maps (λ (s : SharedShard g.row.S.Denot). s.node) seen c.wave_shared-logs.result.shards.items ms' (sym c.own_shards.ensures) in
    saw_by c.wave_shared-logs.new.watch _ _ (λ lists saw.
    subst (λ f. HasSeen K f (sight_at seen ms) (sight_at sight ns') (sight_at seen ms') lists) logs
    (subst (λ f. HasSeen K first_logs f (sight_at sight ns') (sight_at seen ms') lists) shards
    (subst (λ f. HasSeen K first_logs first_shards f (sight_at seen ms') lists) logs'
    (subst (λ f. HasSeen K first_logs first_shards last_logs f lists) shards' saw)))) c.wave_shared-logs.ensures.looked
