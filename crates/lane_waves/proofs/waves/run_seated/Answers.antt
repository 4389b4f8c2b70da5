use Rattle.std.proofs.Common.{◌≡◌, ◌≤◌, ◌*◌, reverse, sym, ap, ◌∙◌, subst}
use Rattle.std.specs.Prelude.{All, vec_capacity}
use Rattle.lane_waves.specs.Deals.{IsEmptyRoom}
use Rattle.lane_waves.specs.Gathers.{Chunks}
use Rattle.lane_waves.proofs.Ending.{all_seated, all_begin}
use Rattle.lane_waves.proofs.Places.{none_long, no_items}
use Rattle.lane_waves.proofs.Through.{HaveRun, lanes_wait, have_run, all_through}
use Rattle.lane_waves.proofs.Looking.{not_watched}
use Rattle.lane_waves.proofs.Wanting.{not_run}
use Rattle.lane_waves.proofs.waves.run_seated.Goals as goal

pub deal_all-homes-requires-clause-waiting :
    goal.deal_all-homes-requires-clause-waiting
deal_all-homes-requires-clause-waiting g c =
    lanes_wait g.S.Shard.sight c.args.shape.now c.args.shard_locks.now c.args.seated.rows c.args.seated.lanes c.in-Ok.room
    c.requires.open.shards_many c.requires.left c.requires.lanes c.requires.lanes_many c.in-Ok.ensures

pub run_table-table-requires-clause-begin :
    goal.run_table-table-requires-clause-begin
run_table-table-requires-clause-begin g c κs within =
    let lanes = c.args.seated.lanes.items in
    let t = c.deal_all-homes.result.2 in
    all_begin g.S.Shard.sight g.B.Locks.tables c.args.shape.now c.args.log_locks.now c.args.shard_locks.now lanes t.runs.items
    (all_seated g.S.Shard.sight g.B.Locks.tables c.args.shape.now c.args.log_locks.now c.args.shard_locks.now lanes t
    (none_long t.lanes.items c.deal_all-homes.ensures.waiting.room.lanes_many) c.deal_all-homes.ensures.dealt)

pub gather_all-homes-requires-clause-runs :
    goal.gather_all-homes-requires-clause-runs
gather_all-homes-requires-clause-runs g c =
    let K = c.args.shape.now in
    let d = c.deal_all-homes.ensures in
    let h : HaveRun g.S.Shard.sight g.B.Locks.tables K c.args.log_locks.now c.args.shard_locks.now c.requires.open c.args.seated.lanes.items
    c.deal_all-homes.result.2 c.run_table-table.result =
    have_run g.S.Shard.sight g.B.Locks.tables K c.args.log_locks.now c.args.shard_locks.now c.requires.open c.args.seated.lanes.items
    c.deal_all-homes.result.2 c.run_table-table.result d.waiting d.dealt c.requires.lanes_many c.run_table-table.ensures.run in
    h.many ∙ sym (ap (λ n. n * c.lanes.result) d.emptied.0 ∙ ap (λ n. K.coordinators * n) c.lanes.ensures.value)

pub gather_all-homes-requires-clause-room :
    goal.gather_all-homes-requires-clause-room
gather_all-homes-requires-clause-room g c =
    let d = c.deal_all-homes.ensures in
    (have_run g.S.Shard.sight g.B.Locks.tables c.args.shape.now c.args.log_locks.now c.args.shard_locks.now c.requires.open c.args.seated.lanes.items
    c.deal_all-homes.result.2 c.run_table-table.result d.waiting d.dealt c.requires.lanes_many c.run_table-table.ensures.run).room

pub returns-clause-through : goal.returns-clause-through
returns-clause-through g c =
    let K = c.args.shape.now in
    let d = c.deal_all-homes.ensures in
    let u = c.run_table-table.result in
    let h : HaveRun g.S.Shard.sight g.B.Locks.tables K c.args.log_locks.now c.args.shard_locks.now c.requires.open c.args.seated.lanes.items
    c.deal_all-homes.result.2 u =
    have_run g.S.Shard.sight g.B.Locks.tables K c.args.log_locks.now c.args.shard_locks.now c.requires.open c.args.seated.lanes.items
    c.deal_all-homes.result.2 u d.waiting d.dealt c.requires.lanes_many c.run_table-table.ensures.run in
    let e = c.gather_all-homes.ensures in
    let homes = c.gather_all-homes.result.0.items in
    all_through g.S.Shard.sight g.B.Locks.tables K c.args.log_locks.now c.args.shard_locks.now c.requires.open c.args.seated.lanes.items
    c.deal_all-homes.result.2 u c.gather_all-homes.result.1 homes h
    (e.gathered c.args.shard_locks.now u.runs.items h.begun) e.none (subst (λ n. Chunks n (reverse homes) u.runs.items) c.lanes.ensures.value e.homes)
    (e.many ∙ (d.emptied.0 ∙ sym c.requires.open.logs_many)) c.requires.lanes_many

pub returns-in_default-clause-watched : goal.returns-in_default-clause-watched
returns-in_default-clause-watched g c = not_watched c.args.log_locks.now c.args.shard_locks.now c.args.watcher.now c.requires.watch

pub returns-in_default-clause-through : goal.returns-in_default-clause-through
returns-in_default-clause-through g c =
    let s = c.args.seated in
    not_run g.S.Shard.sight g.B.Locks.tables c.args.shape.now c.args.log_locks.now c.args.shard_locks.now c.requires.open
    s.homes.items s.rows.items s.lanes.items c.stop_all.new.lanes.items
    c.requires.homes (c.requires.homes_many) c.requires.left c.requires.lanes_many c.stop_all.ensures.same c.stop_all.ensures.stopped

pub destroy_empty-requires : goal.destroy_empty-requires
destroy_empty-requires g c = no_items c.gather_all-homes.result.1.spare c.gather_all-homes.ensures.room.spare.0

pub destroy_empty-requires-2 : goal.destroy_empty-requires-2
destroy_empty-requires-2 g c = no_items c.gather_all-homes.result.1.seats c.gather_all-homes.ensures.room.seats.0

pub destroy_empty-requires-3 : goal.destroy_empty-requires-3
destroy_empty-requires-3 g c =
    let t = c.deal_all-homes.result.2 in
    let rooms = c.gather_all-homes.result.1.rooms in
    let same : rooms ≡ t.rooms = c.gather_all-homes.ensures.rooms ∙ ap (λ u. u.rooms) c.run_table-table.ensures.run.rest in
    no_items rooms (ap (λ v. v.items) same ∙ none_long t.rooms.items c.deal_all-homes.ensures.waiting.room.rooms_many)

pub destroy_empty-requires-4 : goal.destroy_empty-requires-4
destroy_empty-requires-4 g c = no_items c.gather_all-homes.result.1.runs c.gather_all-homes.ensures.none

pub deal_all-homes-requires-clause-open : goal.deal_all-homes-requires-clause-open
deal_all-homes-requires-clause-open g c = c.requires.open

pub deal_all-homes-requires-clause-many : goal.deal_all-homes-requires-clause-many
deal_all-homes-requires-clause-many g c = c.requires.homes_many

pub deal_all-homes-requires-clause-homes : goal.deal_all-homes-requires-clause-homes
deal_all-homes-requires-clause-homes g c = c.requires.homes

pub deal_all-homes-requires-clause-empty : goal.deal_all-homes-requires-clause-empty
deal_all-homes-requires-clause-empty g c = c.in-Ok.ensures.emptied.0

pub deal_all-homes-requires-clause-place : goal.deal_all-homes-requires-clause-place
deal_all-homes-requires-clause-place g c = c.in-Ok.ensures.emptied.1

pub deal_all-homes-requires-clause-none : goal.deal_all-homes-requires-clause-none
deal_all-homes-requires-clause-none g c = c.in-Ok.ensures.runs.0

pub gather_all-homes-requires-clause-emptied :
    goal.gather_all-homes-requires-clause-emptied
gather_all-homes-requires-clause-emptied g c =
    subst (λ n. All (IsEmptyRoom n) c.deal_all-homes.result.1.items) (sym c.lanes.ensures.value) c.deal_all-homes.ensures.emptied.1

pub gather_all-homes-requires-clause-empty :
    goal.gather_all-homes-requires-clause-empty
gather_all-homes-requires-clause-empty g c = c.deal_all-homes.ensures.empty.0

pub gather_all-homes-requires-clause-place :
    goal.gather_all-homes-requires-clause-place
gather_all-homes-requires-clause-place g c =
    subst (λ n. n ≤ vec_capacity c.deal_all-homes.result.0) (sym c.deal_all-homes.ensures.emptied.0) c.deal_all-homes.ensures.empty.1
