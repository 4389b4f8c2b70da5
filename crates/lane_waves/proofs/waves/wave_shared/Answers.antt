use Rattle.std.proofs.Common.{◌<◌, ◌≤◌, ◌*◌, List, length, refl, sym, ap, ◌∙◌, subst, arith}
use Rattle.std.specs.Global.{Vec}
use Rattle.std.proofs.lemmas.List.Elements.{All-same}
use Rattle.ledger_runs.specs.Lanes.{LaneOf}
use Rattle.node_ports.specs.Nodes.{sight_at}
use Rattle.port_sets.specs.Nodes.{log_sight, shard_sight}
use Rattle.thread_laws.specs.Running.{WaveRan}
use Rattle.lane_waves.specs.NodeRows.{HaveAllSeats, AreLeft}
use Rattle.lane_waves.proofs.NodePlaces.{held, nodes_still, past_end}
use Rattle.lane_waves.specs.Rows.{home_lanes, all_lanes}
use Rattle.lane_waves.specs.Deals.{MayRun, AreLocksOpen, IsHomeFresh}
use Rattle.lane_waves.specs.Places.{AllFrom}
use Rattle.lane_waves.specs.Waves.{log_goes, shard_goes, AreThrough}
use Rattle.lane_waves.proofs.Opening.{seen_maps, are_open, homes_fresh, are_fresh, openings, lanes_are, seats_many, tables_of}
use Rattle.lane_waves.proofs.Numbers.{are_watched_rows}
use Rattle.lane_waves.proofs.Locking.{just_fresh}
use Rattle.lane_waves.proofs.Looking.{saw_by, saw_none, watch_on, fresh_seats, has_seen}
use Rattle.lane_waves.specs.Watching.{AreSeatsOf}
use Rattle.lane_waves.specs.Watchers.{HasSeen}
use Rattle.node_lock.specs.Seats.{opening_of}
use Rattle.lane_waves.proofs.Waving.{fresh_left, unrun_wave, ran_wave, locks_many, few_lanes, rows_below}
use Rattle.lane_waves.proofs.waves.wave_shared.Goals as goal

pub lock_nodes-requires-clause-logs_many : goal.lock_nodes-requires-clause-logs_many
lock_nodes-requires-clause-logs_many g c = c.requires.home_rows_many ∙ sym c.requires.logs_many

pub lock_nodes-requires-clause-shards_many : goal.lock_nodes-requires-clause-shards_many
lock_nodes-requires-clause-shards_many g c = c.requires.shard_rows_many ∙ sym c.requires.shards_many

pub lock_nodes-requires-clause-logs_fit : goal.lock_nodes-requires-clause-logs_fit
lock_nodes-requires-clause-logs_fit g c =
    let K = c.args.shape.now in
    let a = c.requires.limits.some_lane in
    let b = c.requires.limits.lanes in
    are_watched_rows c.lane_count.result (λ j. j * K.lanes) K.lanes 0 c.args.home_rows.items (omega (arith, a)) (omega (arith, b))
    (λ j lt. let m = rows_below K.coordinators K.lanes j (let many = c.requires.home_rows_many in omega (arith, lt, many)) in let e =
    c.lane_count.ensures.value in omega (arith, m, e)) c.requires.home_rows

pub lock_nodes-requires-clause-shards_fit : goal.lock_nodes-requires-clause-shards_fit
lock_nodes-requires-clause-shards_fit g c =
    let K = c.args.shape.now in
    let m = few_lanes K c.requires.limits in
    let few = m.2 in
    let e = c.lane_count.ensures.value in
    are_watched_rows c.lane_count.result (λ j. 0) (K.coordinators * K.lanes) 0 c.args.shard_rows.items m.0 (omega (arith, few))
    (λ j lt. omega (arith, e)) c.requires.shard_rows

pub returns-in-Err-clause-ran : goal.returns-in-Err-clause-ran
returns-in-Err-clause-ran g c =
    let K = c.args.shape.now in
    let seen = shard_sight g.S.Shard.sight in
    let goes = shard_goes g.S.Shard.goes in
    let ns = c.args.nodes.logs.items in
    let ms = c.args.nodes.shards.items in
    let ns' = c.in-Err.nodes.logs.items in
    let ms' = c.in-Err.nodes.shards.items in
    let logs_many = c.requires.logs_many in
    let shards_many = c.requires.shards_many in
    unrun_wave K (sight_at log_sight ns) (sight_at seen ms) (sight_at log_sight ns') (sight_at seen ms') c.args.lanes.now.items
    c.stop_all.new.lanes.items
    c.requires.limits
    (λ n lt. nodes_still log_sight (log_goes g.D.Disk) ns ns' c.in-Err.ensures.logs_back n (subst (λ m. n < m) (sym logs_many) lt))
    (λ s lt. nodes_still seen goes ms ms' c.in-Err.ensures.shards_back s (subst (λ m. s < m) (sym shards_many) lt))
    (λ s le. past_end seen goes ms s (subst (λ m. m ≤ s) (sym shards_many) le))
    c.requires.settled c.requires.lanes_many c.stop_all.ensures.same c.stop_all.ensures.stopped

pub returns-in-Err-clause-logs_go : goal.returns-in-Err-clause-logs_go
returns-in-Err-clause-logs_go g c = (held log_sight (log_goes g.D.Disk)).1 c.args.nodes.logs.items c.in-Err.nodes.logs.items
    c.in-Err.ensures.logs_back

pub returns-in-Err-clause-shards_go : goal.returns-in-Err-clause-shards_go
returns-in-Err-clause-shards_go g c = (held (shard_sight g.S.Shard.sight) (shard_goes g.S.Shard.goes)).1 c.args.nodes.shards.items
    c.in-Err.nodes.shards.items c.in-Err.ensures.shards_back

pub run_seated-homes-requires-clause-open : goal.run_seated-homes-requires-clause-open
run_seated-homes-requires-clause-open g c κs within =
    let K = c.args.shape.now in
    let sight = g.S.Shard.sight in
    let k = c.in-Ok.locked in
    let e = c.in-Ok.ensures in
    let gs = k.logs.locks.items in
    let hs = k.shards.locks.items in
    let ns = c.args.nodes.logs.items in
    let ms = c.args.nodes.shards.items in
    subst (λ xs. AreLocksOpen sight (tables_of K.coordinators xs c.as_slice-2.result.now) K xs c.as_slice-2.result.now) (sym c.as_slice.ensures.value)
    (subst (λ ys. AreLocksOpen sight (tables_of K.coordinators gs ys) K gs ys) (sym c.as_slice-2.ensures.value)
    (are_open sight K gs hs ns ms (openings log_sight ns c.args.home_rows.items gs k.logs.seats.items e.logs)
    (openings (shard_sight sight) ms c.args.shard_rows.items hs k.shards.seats.items e.shards)
    c.requires.limits c.requires.logs_many c.requires.shards_many c.requires.ledger c.requires.logs_since c.requires.shards_since c.requires.settled
    (lanes_are log_sight (home_lanes K) 0 gs k.logs.seats.items
    (are_fresh log_sight (home_lanes K) 0 ns c.args.home_rows.items gs k.logs.seats.items c.requires.home_rows e.logs))
    (lanes_are (shard_sight sight) (λ n. all_lanes K) 0 hs k.shards.seats.items
    (are_fresh (shard_sight sight) (λ n. all_lanes K) 0 ms c.args.shard_rows.items hs k.shards.seats.items c.requires.shard_rows e.shards))))

pub run_seated-homes-requires-clause-homes : goal.run_seated-homes-requires-clause-homes
run_seated-homes-requires-clause-homes g c κs within =
    let K = c.args.shape.now in
    let k = c.in-Ok.locked.logs in
    subst (λ xs. AllFrom (IsHomeFresh K xs) 0 k.seats.items) (sym c.as_slice.ensures.value)
    (homes_fresh K k.locks.items k.seats.items (are_fresh log_sight (home_lanes K) 0 c.args.nodes.logs.items c.args.home_rows.items k.locks.items
    k.seats.items c.requires.home_rows c.in-Ok.ensures.logs)
    (seats_many log_sight c.args.nodes.logs.items c.args.home_rows.items k.locks.items k.seats.items c.in-Ok.ensures.logs))

pub run_seated-homes-requires-clause-homes_many : goal.run_seated-homes-requires-clause-homes_many
run_seated-homes-requires-clause-homes_many g c κs within =
    let k = c.in-Ok.locked.logs in
    seats_many log_sight c.args.nodes.logs.items c.args.home_rows.items k.locks.items k.seats.items c.in-Ok.ensures.logs
    ∙ (locks_many log_sight c.args.nodes.logs.items c.args.home_rows.items k.locks.items k.seats.items c.in-Ok.ensures.logs ∙ c.requires.logs_many)

pub run_seated-homes-requires-clause-left : goal.run_seated-homes-requires-clause-left
run_seated-homes-requires-clause-left g c κs within =
    let K = c.args.shape.now in
    let seen = shard_sight g.S.Shard.sight in
    let k = c.in-Ok.locked.shards in
    subst (λ ys. AreLeft seen (all_lanes K) ys k.seats.items) (sym c.as_slice-2.ensures.value)
    (fresh_left seen (all_lanes K) 0 k.locks.items k.seats.items
    (are_fresh seen (λ n. all_lanes K) 0 c.args.nodes.shards.items c.args.shard_rows.items k.locks.items k.seats.items c.requires.shard_rows
    c.in-Ok.ensures.shards))

pub run_seated-homes-requires-clause-lanes : goal.run_seated-homes-requires-clause-lanes
run_seated-homes-requires-clause-lanes g c κs within =
    All-same MayRun c.replace.result.items c.args.lanes.now.items (ap (λ v. v.items) c.replace.ensures.value) c.requires.lanes

pub close_all-requires-clause-room : goal.close_all-requires-clause-room
close_all-requires-clause-room g c =
    let k = c.in-Ok.locked.logs in
    let same = locks_many log_sight c.args.nodes.logs.items c.args.home_rows.items k.locks.items k.seats.items c.in-Ok.ensures.logs in
    let room = c.in-Ok.ensures.logs_room.1 in
    omega (arith, same, room)

pub close_all-requires-2-clause-room : goal.close_all-requires-2-clause-room
close_all-requires-2-clause-room g c =
    let k = c.in-Ok.locked.shards in
    let same = locks_many (shard_sight g.S.Shard.sight) c.args.nodes.shards.items c.args.shard_rows.items k.locks.items k.seats.items
    c.in-Ok.ensures.shards in
    let room = c.in-Ok.ensures.shards_room.1 in
    omega (arith, same, room)

pub returns-clause-ran : goal.returns-clause-ran
returns-clause-ran g c =
    let K = c.args.shape.now in
    let sight = g.S.Shard.sight in
    let k = c.in-Ok.locked in
    let e = c.in-Ok.ensures in
    let s = c.run_seated-homes.result in
    let homes = s.homes.items in
    let rows = s.rows.items in
    let new = s.lanes.items in
    let through = subst (λ xs. AreThrough sight K xs k.shards.locks.items homes rows c.args.lanes.now.items new) c.as_slice.ensures.value
    (subst (λ ys. AreThrough sight K c.as_slice.result.now ys homes rows c.args.lanes.now.items new) c.as_slice-2.ensures.value
    (subst (λ zs. AreThrough sight K c.as_slice.result.now c.as_slice-2.result.now homes rows zs new) (ap (λ v. v.items) c.replace.ensures.value)
    c.run_seated-homes.ensures.through)) in
    let ns = c.args.nodes.logs.items in
    let ms = c.args.nodes.shards.items in
    let ns' = c.close_all.result.items in
    let ms' = c.close_all-2.result.items in
    subst (λ (v : Vec LaneOf). WaveRan K (sight_at log_sight ns) (sight_at (shard_sight sight) ms) (sight_at log_sight ns')
    (sight_at (shard_sight sight) ms') c.args.lanes.now.items v.items) (sym c.replace-2.ensures.after)
    (ran_wave sight (log_goes g.D.Disk) (shard_goes g.S.Shard.goes) K
    ns ns' ms ms' c.args.home_rows.items c.args.shard_rows.items k.logs.locks.items k.shards.locks.items
    k.logs.seats.items homes k.shards.seats.items rows c.args.lanes.now.items new
    c.requires.logs_many c.requires.shards_many c.requires.home_rows c.requires.home_rows_many c.requires.shard_rows c.requires.shard_rows_many
    e.logs e.shards c.close_all.ensures.closed c.close_all-2.ensures.closed through)

pub returns-clause-logs_go : goal.returns-clause-logs_go
returns-clause-logs_go g c =
    let k = c.in-Ok.locked.logs in
    (held log_sight (log_goes g.D.Disk)).0 c.args.nodes.logs.items c.args.home_rows.items k.locks.items
    k.seats.items c.run_seated-homes.result.homes.items c.close_all.result.items c.in-Ok.ensures.logs c.close_all.ensures.closed

pub returns-clause-shards_go : goal.returns-clause-shards_go
returns-clause-shards_go g c =
    let k = c.in-Ok.locked.shards in
    (held (shard_sight g.S.Shard.sight) (shard_goes g.S.Shard.goes)).0 c.args.nodes.shards.items c.args.shard_rows.items k.locks.items
    k.seats.items c.run_seated-homes.result.rows.items c.close_all-2.result.items c.in-Ok.ensures.shards c.close_all-2.ensures.closed

pub run_seated-homes-requires-clause-lanes_many : goal.run_seated-homes-requires-clause-lanes_many
run_seated-homes-requires-clause-lanes_many g c κs within = ap (λ v. length v.items) c.replace.ensures.value ∙ c.requires.lanes_many

pub close_all-requires-clause-ready : goal.close_all-requires-clause-ready
close_all-requires-clause-ready g c = subst (λ xs. HaveAllSeats xs c.run_seated-homes.result.homes.items) c.as_slice.ensures.value
    c.run_seated-homes.ensures.through.homes_ready

pub close_all-requires-clause-empty : goal.close_all-requires-clause-empty
close_all-requires-clause-empty g c = c.in-Ok.ensures.logs_room.0

pub close_all-requires-2-clause-ready : goal.close_all-requires-2-clause-ready
close_all-requires-2-clause-ready g c = subst (λ xs. HaveAllSeats xs c.run_seated-homes.result.rows.items) c.as_slice-2.ensures.value
    c.run_seated-homes.ensures.through.rows_ready

pub close_all-requires-2-clause-empty : goal.close_all-requires-2-clause-empty
close_all-requires-2-clause-empty g c = c.in-Ok.ensures.shards_room.0

pub run_seated-homes-requires-clause-watch : goal.run_seated-homes-requires-clause-watch
run_seated-homes-requires-clause-watch g c κs within =
    let seen = shard_sight g.S.Shard.sight in
    let k = c.in-Ok.locked in
    let e = c.in-Ok.ensures in
    let logs = ap (λ (xs : List _). length xs) c.as_slice.ensures.value in
    let shards = ap (λ (xs : List _). length xs) c.as_slice-2.ensures.value in
    let logs_locked = locks_many log_sight c.args.nodes.logs.items c.args.home_rows.items k.logs.locks.items k.logs.seats.items e.logs in
    let shards_locked = locks_many seen c.args.nodes.shards.items c.args.shard_rows.items k.shards.locks.items k.shards.seats.items e.shards in
    let logs_many = c.requires.logs_many in
    let shards_many = c.requires.shards_many in
    let logs_few = c.requires.limits.coordinators in
    let shards_few = c.requires.limits.shards in
    record {
      logs = subst (λ xs. AreSeatsOf xs k.logs.watchers.items) (sym c.as_slice.ensures.value)
          (fresh_seats log_sight c.lane_count.result k.logs.locks.items k.logs.watchers.items e.logs_watched);
      shards = subst (λ xs. AreSeatsOf xs k.shards.watchers.items) (sym c.as_slice-2.ensures.value)
          (fresh_seats seen c.lane_count.result k.shards.locks.items k.shards.watchers.items e.shards_watched);
      few = omega (arith, logs, shards, logs_locked, shards_locked, logs_many, shards_many, logs_few, shards_few);
      none = refl;
    }

pub close_all-requires-clause-watching : goal.close_all-requires-clause-watching
close_all-requires-clause-watching g c =
    let k = c.in-Ok.locked.logs in
    let w = c.run_seated-homes.ensures.watched in
    let ts = c.run_seated-homes.new.watcher.log_seats.items in
    watch_on k.locks.items k.watchers.items ts (just_fresh log_sight c.lane_count.result k.locks.items k.watchers.items c.in-Ok.ensures.logs_watched)
    w.logs_kept
    (subst (λ xs. AreSeatsOf xs ts) c.as_slice.ensures.value w.logs)

pub close_all-requires-2-clause-watching : goal.close_all-requires-2-clause-watching
close_all-requires-2-clause-watching g c =
    let k = c.in-Ok.locked.shards in
    let w = c.run_seated-homes.ensures.watched in
    let ts = c.run_seated-homes.new.watcher.shard_seats.items in
    watch_on k.locks.items k.watchers.items ts (just_fresh (shard_sight g.S.Shard.sight) c.lane_count.result k.locks.items k.watchers.items
    c.in-Ok.ensures.shards_watched) w.shards_kept
    (subst (λ xs. AreSeatsOf xs ts) c.as_slice-2.ensures.value w.shards)

pub returns-in-Err-clause-looked : goal.returns-in-Err-clause-looked
returns-in-Err-clause-looked g c = saw_none c.begin-wanted.new.self _ c.begin-wanted.ensures

pub returns-clause-looked : goal.returns-clause-looked
returns-clause-looked g c =
    let K = c.args.shape.now in
    let seen = shard_sight g.S.Shard.sight in
    let k = c.in-Ok.locked in
    let e = c.in-Ok.ensures in
    let gs = k.logs.locks.items in
    let hs = k.shards.locks.items in
    let ns = c.args.nodes.logs.items in
    let ms = c.args.nodes.shards.items in
    let ns' = c.close_all.result.items in
    let ms' = c.close_all-2.result.items in
    let w = c.run_seated-homes.ensures.watched in
    let v = c.run_seated-homes.new.watcher in
    let logs_are = seen_maps opening_of log_sight gs ns (openings log_sight ns c.args.home_rows.items gs k.logs.seats.items e.logs) in
    let shards_are = seen_maps opening_of seen hs ms (openings seen ms c.args.shard_rows.items hs k.shards.seats.items e.shards) in
    saw_by v.saw _ _ (λ lists all.
    subst (λ f. HasSeen K f (sight_at seen ms) (sight_at log_sight ns') (sight_at seen ms') lists) logs_are
    (subst (λ f. HasSeen K (sight_at (λ g. log_sight (opening_of g)) gs) f (sight_at log_sight ns') (sight_at seen ms') lists) shards_are
    (has_seen g.S.Shard.sight K c.lane_count.result gs hs k.logs.watchers.items v.log_seats.items k.shards.watchers.items v.shard_seats.items ns' ms'
    lists
    (locks_many log_sight ns c.args.home_rows.items gs k.logs.seats.items e.logs ∙ c.requires.logs_many)
    (locks_many seen ms c.args.shard_rows.items hs k.shards.seats.items e.shards ∙ c.requires.shards_many)
    e.logs_watched e.shards_watched w.logs_kept w.shards_kept
    (subst (λ xs. AreSeatsOf xs v.log_seats.items) c.as_slice.ensures.value w.logs)
    (subst (λ xs. AreSeatsOf xs v.shard_seats.items) c.as_slice-2.ensures.value w.shards)
    c.close_all.ensures.fronts c.close_all-2.ensures.fronts all))) w.told
