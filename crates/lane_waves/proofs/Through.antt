-- What comes of a wave whose lanes have all run.
use Rattle.std.proofs.Common.{◌≡◌, ℕ, ◌+◌, ◌*◌, ◌<◌, ◌≤◌, List, [], ◌++◌, length, reverse, append-nil, sym, ap, ◌∙◌, subst, arith}
use Rattle.std.specs.Prelude.{All, vec_capacity}
use Rattle.std.specs.List.{AllZip}
use Rattle.std.specs.Global.{Vec}
use Rattle.std.proofs.lemmas.List.{length-reverse, reverse-reverse}
use Rattle.std.proofs.lemmas.Nat.{mul-le}
use Rattle.cbdc_model.specs.Records.{Shape}
use Rattle.cbdc_model.specs.Sights.{Sight}
use Rattle.ledger_runs.specs.Lanes.{LaneOf}
use Rattle.node_lock.specs.declared.lock.Guarded.{Guarded}
use Rattle.node_lock.specs.declared.seat.Seat.{Seat}
use Rattle.node_lock.specs.Seats.{TableId}
use Rattle.port_sets.specs.Nodes.{shard_sight}
use Rattle.port_sets.specs.declared.coordinators.SharedLog.{SharedLog}
use Rattle.port_sets.specs.declared.locking.SharedShard.{SharedShard}
use Rattle.port_sets.specs.declared.tables.Locks.{Ghosts}
use Rattle.thread_laws.specs.Running.{LaneRan}
use Rattle.lane_waves.specs.NodeRows.{AreSeatsBack, AreLeft}
use Rattle.lane_waves.proofs.Passing.{all_back}
use Rattle.lane_waves.specs.Held.{RunEnds}
use Rattle.lane_waves.specs.declared.runs.LaneRun.{LaneRun}
use Rattle.lane_waves.specs.Among.{hands_at}
use Rattle.lane_waves.specs.Places.{AllFrom, BothFrom}
use Rattle.lane_waves.specs.Rows.{home_lanes, all_lanes}
use Rattle.lane_waves.specs.Deals.{MayRun, EachHolds, IsEmptyRoom, AreLanesWaiting, AreLocksOpen, IsSetUp, HaveSeats, log_at, shard_at}
use Rattle.lane_waves.specs.Gathers.{MayGather, AllOver, AreRun, Chunks, RunsGathered, AllGave}
use Rattle.lane_waves.specs.Rooms.{IsLaneRoom}
use Rattle.lane_waves.specs.Waves.{AreThrough}
use Rattle.lane_waves.specs.declared.dealing.Table.{Table}
use Rattle.lane_waves.specs.declared.waves.LaneRoom.{LaneRoom}
use Rattle.lane_waves.proofs.Places.{none_long, both_many, each_pair}
use Rattle.lane_waves.proofs.Numbers.{many_lanes}
use Rattle.lane_waves.proofs.Lists.{left_many, left_holds, have_lanes}
use Rattle.lane_waves.proofs.Giving.{none_back, holds_take}
use Rattle.lane_waves.proofs.Homes.{HomeAt, homes_hold, homes_at, homes_up, homes_ready, hands_down}
use Rattle.lane_waves.proofs.Ending.{Runs, runs_of, zip_many, all_over, all_of, no_ends, all_seated, seats_at, ends_are, lanes_ran}

module _ {W D S B X : Type 0} {G : Ghosts B} (sight : S → Sight) (tables : ℕ → TableId) (K : Shape) (gs : List (Guarded (SharedLog D)))
    (hs : List (Guarded (SharedShard S))) (open_ : AreLocksOpen sight tables K gs hs) where
  -- each coordinator has all its seats
  homes_back : (lanes : List LaneOf) (rs qs : List (LaneRun W D S B X G)) (homes : List (Vec (Seat (SharedLog D))))
      → Runs sight tables K gs hs (reverse lanes) rs qs → Chunks K.lanes (reverse homes) qs → AllFrom (HomeAt K.lanes tables) 0 homes
  homes_back lanes rs qs homes runs chunks =
      let some = open_.limits.some_lane in
      let seats = seats_at sight tables K gs hs open_ (reverse lanes) rs qs some runs in
      subst (AllFrom (HomeAt K.lanes tables) 0) (reverse-reverse homes)
      (homes_up K.lanes tables (reverse homes) (homes_at K.lanes some tables (reverse homes) qs chunks seats))

  -- the lanes of a table have run, and may give back their seats
  pub record HaveRun (lanes : List LaneOf) (t u : Table W D S B X G) : Type 0 where
    pub both : BothFrom (IsSetUp sight tables K gs hs) 0 lanes (reverse t.runs.items)
    pub ends : AllZip (RunEnds sight tables K) t.runs.items u.runs.items
    pub many : length u.runs.items ≡ K.coordinators * K.lanes
    pub room : MayGather u
    pub begun : RunsGathered hs u.runs.items u

  run_to_end : (lanes : List LaneOf) (t : Table W D S B X G) (qs : Vec (LaneRun W D S B X G)) → AreLanesWaiting sight hs 0 t
      → HaveSeats sight tables K gs hs 0 lanes t → length lanes ≡ K.coordinators * K.lanes
      → AllZip (RunEnds sight tables K) t.runs.items qs.items → HaveRun lanes t (record t { runs = qs })
  run_to_end lanes t qs waiting seats lanes_many ends =
      let none = none_long t.lanes.items waiting.room.lanes_many in
      let both = all_seated sight tables K gs hs lanes t none seats in
      let runs = runs_of sight tables K gs hs lanes t.runs.items qs.items both ends in
      let same = zip_many sight tables K t.runs.items qs.items ends in
      let turned = length-reverse t.runs.items in
      let paired = both_many (IsSetUp sight tables K gs hs) 0 lanes (reverse t.runs.items) both in
      let left = none_back (shard_sight sight) hs t.rows.items waiting.left in
      let rows = waiting.room.rows in
      let held : length t.runs.items + 0 ≡ length qs.items = omega (arith, same) in
      record {
        both = both;
        ends = ends;
        many = omega (arith, same, turned, paired, lanes_many);
        room = record {
          rows_take = holds_take (length qs.items) t.rows.items (subst (λ n. EachHolds n t.rows.items) held waiting.room.rows_hold) left.1;
          seats = (waiting.room.seats.0, let a = waiting.room.seats.1 in omega (arith, a, rows));
          spare = (waiting.room.spare.0, let a = waiting.room.spare.1 in omega (arith, a, rows));
          lanes_take = let h = waiting.room.lanes_hold in let z = waiting.room.lanes_many in omega (arith, h, z, same);
          over = subst (λ n. AllOver n qs.items) (sym (rows ∙ open_.shards_many))
              (all_over sight tables K gs hs (reverse lanes) t.runs.items qs.items runs);
        };
        begun = record {
          gone = [];
          all_are = sym (append-nil qs.items);
          of = all_of sight tables K gs hs open_ (reverse lanes) t.runs.items qs.items runs;
          back = left.0;
          gave = tt;
          lanes = no_ends qs.items t.lanes.items none;
        };
      }

  pub have_run : (lanes : List LaneOf) (t u : Table W D S B X G) → AreLanesWaiting sight hs 0 t → HaveSeats sight tables K gs hs 0 lanes t
      → length lanes ≡ K.coordinators * K.lanes
      → AreRun sight tables K t u → HaveRun lanes t u
  have_run lanes t u waiting seats lanes_many ran =
      subst (HaveRun lanes t) (sym ran.rest) (run_to_end lanes t ran.runs waiting seats lanes_many ran.ends)

  -- the runs that are gone from the list are all
  all_gone : (news : List (LaneRun W D S B X G)) (u : Table W D S B X G) → u.runs.items ≡ [] → (k : RunsGathered hs news u) → news ≡ k.gone
  all_gone news u none k = k.all_are ∙ ap (λ xs. xs ++ k.gone) none

  pub all_through : (lanes : List LaneOf) (t u v : Table W D S B X G) (homes : List (Vec (Seat (SharedLog D)))) → HaveRun lanes t u
      → RunsGathered hs u.runs.items v → v.runs.items ≡ [] → Chunks K.lanes (reverse homes) u.runs.items
      → length homes ≡ length gs → length lanes ≡ K.coordinators * K.lanes → AreThrough sight K gs hs homes v.rows.items lanes v.lanes.items
  all_through lanes t u v homes h back none chunks homes_many lanes_many =
      let some = open_.limits.some_lane in
      let n = K.coordinators * K.lanes in
      let one = mul-le 1 1 K.coordinators K.lanes open_.limits.some_coordinator some in
      let any : 0 < n = omega (arith, one) in
      let qs = u.runs.items in
      let runs = runs_of sight tables K gs hs lanes t.runs.items qs h.both h.ends in
      let gone = all_gone qs v none back in
      let gone_many : length back.gone ≡ n = sym (ap (λ (xs : List (LaneRun W D S B X G)). length xs) gone) ∙ h.many in
      let ran = lanes_ran sight tables K gs hs open_ lanes v.lanes.items t.runs.items qs (reverse homes) homes v.rows.items some
      (λ c. ap (λ (xs : List (Vec (Seat (SharedLog D)))). hands_at xs c) (sym (reverse-reverse homes)) ∙ hands_down (reverse homes) c) runs
      (ends_are qs back.gone (reverse v.lanes.items) gone back.lanes) (homes_hold K.lanes some (reverse homes) qs chunks).0
      (subst (λ xs. AllGave xs v.rows.items) (sym gone) back.gave) in
      record {
        homes_ready = homes_ready K.lanes tables some (home_lanes K) 0 gs homes homes_many (λ c. many_lanes (c * K.lanes) K.lanes)
            (homes_back lanes t.runs.items qs homes runs chunks) open_.log_tables open_.log_lanes;
        rows_ready = all_back n hs v.rows.items any (have_lanes 0 (all_lanes K) n hs (many_lanes 0 n) open_.shard_lanes)
            (subst (λ m. AreSeatsBack m hs v.rows.items) gone_many back.back);
        many = sym (both_many (LaneRan K (log_at gs) (shard_at sight hs) (hands_at homes) (hands_at v.rows.items)) 0 lanes v.lanes.items ran);
        lanes_ran = each_pair (LaneRan K (log_at gs) (shard_at sight hs) (hands_at homes) (hands_at v.rows.items)) lanes v.lanes.items ran;
      }

-- before the dealing all lanes of a wave wait for their seats
pub lanes_wait : {W D S B X : Type 0} {G : Ghosts B} (sight : S → Sight) (K : Shape) (hs : List (Guarded (SharedShard S)))
    (rows : Vec (Vec (Seat (SharedShard S)))) (lanes : Vec LaneOf) (room : LaneRoom W D S B X G)
    → length hs ≡ K.shards → AreLeft (shard_sight sight) (all_lanes K) hs rows.items → All MayRun lanes.items
    → length lanes.items ≡ K.coordinators * K.lanes → IsLaneRoom K room
    → AreLanesWaiting sight hs (K.coordinators * K.lanes)
    (record { rows = rows; spare = room.spare; seats = room.seats; rooms = room.rooms; lanes = lanes; runs = room.runs })
lanes_wait sight K hs rows lanes room shards_many left may lanes_many k =
    let seen = shard_sight sight in
    let none : length room.runs.items ≡ 0 = ap (λ (xs : List _). length xs) k.runs.0 in
    let many = many_lanes 0 (K.coordinators * K.lanes) in
    let all : length (all_lanes K) ≡ length room.runs.items + K.coordinators * K.lanes = omega (arith, none, many) in
    record {
      room = record {
        rows = left_many seen (all_lanes K) hs rows.items left;
        rows_hold = subst (λ n. EachHolds n rows.items) all (left_holds seen (all_lanes K) hs rows.items left);
        seats = (k.seats.0, subst (λ n. n ≤ vec_capacity room.seats) (sym shards_many) k.seats.1);
        spare = (k.spare.0, subst (λ n. n ≤ vec_capacity room.spare) (sym shards_many) k.spare.1);
        rooms = subst (λ n. All (IsEmptyRoom n) room.rooms.items) (sym shards_many) k.rooms;
        rooms_many = k.rooms_many;
        lanes = may;
        lanes_many = lanes_many;
        lanes_hold = let a = lanes.ok.0 in let b = lanes.ok.1 in omega (arith, none, lanes_many, a, b);
        runs_hold = let r = k.runs.1 in omega (arith, none, r);
      };
      left = left;
    }
