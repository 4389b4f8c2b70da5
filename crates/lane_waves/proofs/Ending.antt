-- What comes of lanes that have run and given their seats back.
use Rattle.std.proofs.Common.{◌≡◌, inl, inr, ℕ, zero, suc, ◌<◌, ◌≤◌, false, List, [], ◌∷◌, ◌++◌, length, reverse, Option, Some, None, Result, Ok, Err}
use Rattle.std.proofs.Common.{append-nil, refl, sym, ap, ◌∙◌, subst, arith}
use Rattle.std.specs.Prelude.{All, slice_index_or}
use Rattle.std.specs.List.{AllZip}
use Rattle.std.specs.Global.{Vec}
use Rattle.std.proofs.lemmas.List.{reverse-reverse}
use Rattle.std.proofs.lemmas.List.Elements.{All-head, All-tail, All-nil, All-cons}
use Rattle.cbdc_model.specs.Records.{Shape, Header, Record}
use Rattle.cbdc_model.specs.Ranges.{home_of}
use Rattle.cbdc_model.specs.Sights.{Sight}
use Rattle.lane_laws.specs.Batches.{LaneSo}
use Rattle.lane_driver.specs.Told.{IsStillNode}
use Rattle.lane_driver.specs.Stops.{IsLaneSettled, IsLaneStopped}
use Rattle.lane_driver.specs.Reports.{IsReported, AreDone}
use Rattle.lane_driver.specs.declared.fault.LaneFault.{LaneFault}
use Rattle.lane_driver.specs.declared.fault.LaneReport.{LaneReport}
use Rattle.lane_driver.proofs.Outcomes.{lane_so, lane_left}
use Rattle.ledger_runs.specs.Lanes.{LaneOf}
use Rattle.node_lock.specs.declared.views.Hand.{Hand}
use Rattle.node_lock.specs.declared.lock.Guarded.{Guarded}
use Rattle.node_lock.specs.declared.seat.Seat.{Seat}
use Rattle.node_lock.specs.Seats.{TableId, all_known, knows, first_of}
use Rattle.node_lock.specs.Viewing.{viewed}
use Rattle.node_ports.specs.Nodes.{sight_at, no_sight}
use Rattle.port_sets.specs.Seated.{opening_sight, seat_sight, Serves}
use Rattle.port_sets.specs.Nodes.{shard_sight, log_sight}
use Rattle.port_sets.specs.declared.coordinators.SharedLog.{SharedLog}
use Rattle.port_sets.specs.declared.locking.SharedShard.{SharedShard}
use Rattle.port_sets.specs.declared.seated.ShardSeat.{ShardSeat}
use Rattle.port_sets.specs.declared.tables.Locks.{Ghosts}
use Rattle.port_sets.proofs.Seating.{seen_here}
use Rattle.thread_laws.specs.Closing.{IsHand}
use Rattle.thread_laws.specs.Running.{LaneRan}
use Rattle.thread_laws.specs.Whole.{LaneHasEnded}
use Rattle.lane_waves.specs.Held.{TakeCallsOf, RunBegins, RunEnds, HasRun, log_of, logs_of, shards_of, sights_of}
use Rattle.lane_waves.specs.Ports.{seats_of}
use Rattle.lane_waves.specs.declared.runs.LaneRun.{LaneRun}
use Rattle.lane_waves.proofs.Returning.{all_home}
use Rattle.lane_waves.specs.Among.{hands_at}
use Rattle.lane_waves.specs.Lanes.{IsLaneReady}
use Rattle.lane_waves.specs.Places.{BothFrom}
use Rattle.lane_waves.specs.Deals.{AreLocksOpen, log_at, shard_at, IsSetUp, HaveSeats}
use Rattle.lane_waves.specs.declared.dealing.Table.{Table}
use Rattle.lane_waves.specs.Gathers.{AreSeats, AllOver, AllOf, AllGave, IsLaneEnd, MayKeep, shard_seats, home_seat}
use Rattle.lane_waves.proofs.Places.{Down, down, up}
use Rattle.lane_waves.proofs.Keeping.{reported_many}
use Rattle.lane_waves.proofs.Homes.{hand_among, down_at, HomesHold, SeatsAt}

same_sight : (a b : Header) (c d : List Record) (e f : Option Record) (g h i j k l : ℕ) → a ≡ b → c ≡ d → e ≡ f → g ≡ h → i ≡ j → k ≡ l
    → ◌≡◌ {A = Sight} (record { header = a; seen = c; flight = e; faults = g; opened = i; capacity = k })
    (record { header = b; seen = d; flight = f; faults = h; opened = j; capacity = l })
same_sight a b c d e f g h i j k l p q r s t u = cc

view_is : (f v : Sight) (h : Hand) → v.header ≡ f.header → v.seen ≡ h.seen → v.flight ≡ h.left → v.faults ≡ h.faults → v.opened ≡ f.opened
    → v.capacity ≡ f.capacity → v ≡ viewed f h
view_is f v h a b c d e g = same_sight v.header f.header v.seen h.seen v.flight h.left v.faults h.faults v.opened f.opened v.capacity f.capacity a b
    c d e g

pub past_end : {N : Type 0} (sight : N → Sight) (xs : List N) (n : ℕ) → length xs ≤ n → sight_at sight xs n ≡ no_sight
past_end sight [] n le = refl
past_end sight (x ∷ xs) zero le = absurd (omega (arith, le))
past_end sight (x ∷ xs) (suc n) le = past_end sight xs n (omega (arith, le))

module _ {W S B : Type 0} {G : Ghosts B} (sight : S → Sight) where
  -- the seat of a lane's port to a shard
  port_sits : (lane : ℕ) (ps : List (ShardSeat W S B G)) (rows : List (Vec (Seat (SharedShard S)))) → AreSeats (seats_of ps) rows
      → TakeCallsOf sight lane ps → (s : ℕ) → s < length ps
      → (h : Hand) × IsHand h (hands_at rows s) × (h.lane ≡ lane)
      × ((f : Sight) → (v : Sight) × (sight_at (λ p. seat_sight (shard_sight sight) p.seat) ps s ≡ viewed v h))
  port_sits lane [] rows a l s lt = absurd (let z : s < 0 = lt in omega (arith, z))
  port_sits lane (p ∷ ps) [] a l s lt = absurd a
  port_sits lane (p ∷ ps) (row ∷ rows) a l zero lt = (
    knows p.seat,
    hand_among p.seat row.items a.0,
    (All-head (λ q. Serves (shard_sight sight) q.guarded.now q.seat lane) p ps l).mine,
    λ f. (opening_sight (shard_sight sight) (first_of p.seat), refl),
  )
  port_sits lane (p ∷ ps) (row ∷ rows) a l (suc s) lt =
      port_sits lane ps rows a.1 (All-tail (λ q. Serves (shard_sight sight) q.guarded.now q.seat lane) p ps l) s (omega (arith, lt))

module _ {W D S B X : Type 0} {G : Ghosts B} (sight : S → Sight) (tables : ℕ → TableId) (K : Shape) where
  pub ends_zip : (rs qs : List (LaneRun W D S B X G)) → length qs ≡ length rs
      → ((i : ℕ) (d : LaneRun W D S B X G) → i < length rs → RunEnds sight tables K (slice_index_or rs i d) (slice_index_or qs i d))
      → AllZip (RunEnds sight tables K) rs qs
  ends_zip [] [] e f = tt
  ends_zip [] (q ∷ qs) e f = absurd (let z = e in omega (arith, z))
  ends_zip (r ∷ rs) [] e f = absurd (let z = e in omega (arith, z))
  ends_zip (r ∷ rs) (q ∷ qs) e f = (f 0 r (omega arith), ends_zip rs qs (let z = e in omega (arith, z)) (λ i d lt. f (suc i) d (omega (arith, lt))))

  pub zip_many : (rs qs : List (LaneRun W D S B X G)) → AllZip (RunEnds sight tables K) rs qs → length rs ≡ length qs
  zip_many [] [] z = refl
  zip_many [] (q ∷ qs) z = absurd z
  zip_many (r ∷ rs) [] z = absurd z
  zip_many (r ∷ rs) (q ∷ qs) z = let e = zip_many rs qs z.1 in omega (arith, e)

module _ {W D S B X : Type 0} {G : Ghosts B} (sight : S → Sight) (tables : ℕ → TableId) (K : Shape) (gs : List (Guarded (SharedLog D)))
    (hs : List (Guarded (SharedShard S))) where
  -- the result of a run is known, and the lane has room for it
  may_keep : (r q : LaneRun W D S B X G) → q.work ≡ r.work → (o : Option (Result LaneReport LaneFault)) → HasRun sight tables K r q o
      → MayKeep q.work o
  may_keep r q e None k = absurd k
  may_keep r q e (Some (Ok report)) k =
      let many = reported_many r.lane K.batch r.work.txs report.batches k.named in
      let same : length q.work.txs ≡ length r.work.txs = ap (λ (x : LaneOf). length x.txs) e in
      omega (arith, many, same)
  may_keep r q e (Some (Err fault)) k = tt

  -- how a lane ended
  ended_of : (lane : ℕ) (x y : LaneOf) (r q : LaneRun W D S B X G) → r.lane ≡ lane
      → IsLaneSettled K r.lane (log_of sight tables K r) (shards_of sight tables K r) → q.work ≡ r.work
      → (o : Option (Result LaneReport LaneFault)) → HasRun sight tables K r q o → IsLaneEnd q.work o y
      → (y.txs ≡ q.work.txs) × LaneHasEnded K lane (log_of sight tables K r) (shards_of sight tables K r) (log_of sight tables K q)
      (shards_of sight tables K q) x y
  ended_of lane x y r q l settled w None k e = absurd k
  ended_of lane x y r q l settled w (Some (Ok report)) k e =
      let txs : r.work.txs ≡ y.txs = sym (e.txs ∙ ap (λ (z : LaneOf). z.txs) w) in
      let log = log_of sight tables K r in
      let shards = shards_of sight tables K r in
      let log' = log_of sight tables K q in
      let shards' = shards_of sight tables K q in
      let none : y.fault ≡ None = e.fault in (
        e.txs,
        inl (
          record {
            so = subst (λ n. LaneSo K false n y.txs [] log shards log' shards') l
                (subst (λ ts. LaneSo K false r.lane ts [] log shards log' shards') txs
                (lane_so K false r.lane settled.0 r.work.txs log shards settled.1 (reverse report.batches) [] log' shards' k.outcome));
            batches = report.batches;
            done = subst (λ n. AreDone K false n y.txs log shards (reverse report.batches) [] log' shards') l
                (subst (λ ts. AreDone K false r.lane ts log shards (reverse report.batches) [] log' shards') txs k.outcome);
            reported = subst (λ n. IsReported n K.batch y.txs [] report.batches) l
                (subst (λ ts. IsReported r.lane K.batch ts [] report.batches) txs k.named);
          },
          (none, λ a b. (e.kept, e.count)),
        ),
      )
  ended_of lane x y r q l settled w (Some (Err fault)) k e =
      let txs : r.work.txs ≡ y.txs = sym (e.0 ∙ ap (λ (z : LaneOf). z.txs) w) in
      let log = log_of sight tables K r in
      let shards = shards_of sight tables K r in
      let log' = log_of sight tables K q in
      let shards' = shards_of sight tables K q in
      let is : y.fault ≡ Some fault = e.1 in (
        e.0,
        inr (
          fault,
          subst (λ n. IsLaneStopped K false n y.txs log shards log' shards' fault) l
              (subst (λ ts. IsLaneStopped K false r.lane ts log shards log' shards' fault) txs
              (lane_left K false r.lane r.work.txs r.work.repeats (sights_of sight tables K r) (sights_of sight tables K q) fault k.outcome)),
          ((λ none. let z : None ≡ Some fault = sym none ∙ is in cc), λ z. is),
        ),
      )

  -- a lane's run from its first call to its last
  pub record IsRun (lane : ℕ) (x : LaneOf) (r q : LaneRun W D S B X G) : Type 0 where
    pub set_up : IsSetUp sight tables K gs hs lane x r
    pub ends : RunEnds sight tables K r q

  -- of all lanes, the last one first
  abbrev pub Runs : List LaneOf → List (LaneRun W D S B X G) → List (LaneRun W D S B X G) → Type 0
  Runs [] [] [] = Unit {0}
  Runs (x ∷ xs) (r ∷ rs) (q ∷ qs) = IsRun (length qs) x r q × Runs xs rs qs
  Runs xs rs qs = ⊥

  runs_down : (xs : List LaneOf) (rs qs : List (LaneRun W D S B X G)) → Down (IsSetUp sight tables K gs hs) xs rs
      → AllZip (RunEnds sight tables K) rs qs → Runs xs rs qs
  runs_down [] [] [] d z = tt
  runs_down [] [] (q ∷ qs) d z = absurd z
  runs_down [] (r ∷ rs) qs d z = absurd d
  runs_down (x ∷ xs) [] qs d z = absurd d
  runs_down (x ∷ xs) (r ∷ rs) [] d z = absurd z
  runs_down (x ∷ xs) (r ∷ rs) (q ∷ qs) d z = (
    record { set_up = subst (λ n. IsSetUp sight tables K gs hs n x r) (zip_many sight tables K rs qs z.1) d.0; ends = z.0 },
    runs_down xs rs qs d.1 z.1,
  )

  pub runs_of : (lanes : List LaneOf) (rs qs : List (LaneRun W D S B X G)) → BothFrom (IsSetUp sight tables K gs hs) 0 lanes (reverse rs)
      → AllZip (RunEnds sight tables K) rs qs → Runs (reverse lanes) rs qs
  runs_of lanes rs qs b z = runs_down (reverse lanes) rs qs
      (down (IsSetUp sight tables K gs hs) (reverse lanes) rs
      (subst (λ xs. BothFrom (IsSetUp sight tables K gs hs) 0 xs (reverse rs)) (sym (reverse-reverse lanes)) b)) z

  pub all_over : (xs : List LaneOf) (rs qs : List (LaneRun W D S B X G)) → Runs xs rs qs → AllOver K.shards qs
  all_over [] [] [] k = tt
  all_over [] [] (q ∷ qs) k = absurd k
  all_over [] (r ∷ rs) qs k = absurd k
  all_over (x ∷ xs) [] qs k = absurd k
  all_over (x ∷ xs) (r ∷ rs) [] k = absurd k
  all_over (x ∷ xs) (r ∷ rs) (q ∷ qs) k = (
    record {
      many = k.0.ends.count_is ∙ k.0.set_up.begins.count_is;
      ready = subst IsLaneReady (sym (k.0.ends.work ∙ k.0.set_up.work)) k.0.set_up.ready;
      came = may_keep r q k.0.ends.work q.came k.0.ends.has_run;
    },
    all_over xs rs qs k.1,
  )

  module _ (open_ : AreLocksOpen sight tables K gs hs) where
    pub all_of : (xs : List LaneOf) (rs qs : List (LaneRun W D S B X G)) → Runs xs rs qs → AllOf hs qs
    all_of [] [] [] k = tt
    all_of [] [] (q ∷ qs) k = absurd k
    all_of [] (r ∷ rs) qs k = absurd k
    all_of (x ∷ xs) [] qs k = absurd k
    all_of (x ∷ xs) (r ∷ rs) [] k = absurd k
    all_of (x ∷ xs) (r ∷ rs) (q ∷ qs) k = (
      all_home sight tables K hs r.ports.shards.each.ports.items q.ports.shards.each.ports.items k.0.set_up.begins.count_is k.0.ends.count_is
          open_.shards_many open_.shard_tables k.0.set_up.begins.ledger k.0.ends.nodes k.0.ends.seated.shards,
      all_of xs rs qs k.1,
    )

    -- each lane's seat of its coordinator is of the lock that the wave picks
    pub seats_at : (xs : List LaneOf) (rs qs : List (LaneRun W D S B X G)) → (some : 0 < K.lanes) → Runs xs rs qs → SeatsAt K.lanes some tables qs
    seats_at [] [] [] some k = tt
    seats_at [] [] (q ∷ qs) some k = absurd k
    seats_at [] (r ∷ rs) qs some k = absurd k
    seats_at (x ∷ xs) [] qs some k = absurd k
    seats_at (x ∷ xs) (r ∷ rs) [] some k = absurd k
    seats_at (x ∷ xs) (r ∷ rs) (q ∷ qs) some k = (
      q.ports.log.own.0 ∙ (k.0.ends.seated.log ∙ ap tables (k.0.ends.at ∙ (k.0.set_up.begins.at ∙ ap (home_of K) k.0.set_up.lane_is))),
      seats_at xs rs qs some k.1,
    )

    -- a lane of the wave
    lane_ran : (lane : ℕ) (x y : LaneOf) (r q : LaneRun W D S B X G) (homes : List (Vec (Seat (SharedLog D))))
        (rows : List (Vec (Seat (SharedShard S)))) → IsRun lane x r q → IsLaneEnd q.work q.came y
        → IsHand (knows (home_seat q)) (hands_at homes (home_of K lane)) → AreSeats (shard_seats q) rows
        → LaneRan K (log_at gs) (shard_at sight hs) (hands_at homes) (hands_at rows) lane x y
    lane_ran lane x y r q homes rows k e home seats =
        let begins = k.set_up.begins in
        let log = log_of sight tables K r in
        let shards = shards_of sight tables K r in
        let log' = log_of sight tables K q in
        let shards' = shards_of sight tables K q in
        let settled : IsLaneSettled K lane log shards = subst (λ l. IsLaneSettled K l log shards) k.set_up.lane_is begins.settled in
        let first : Sight = log_at gs (home_of K lane) in
        let last_is : log' ≡ seat_sight log_sight q.ports.log.seat = seen_here q.ports.log.node (seat_sight log_sight q.ports.log.seat) in
        let still : IsStillNode log log' = subst (λ n. IsStillNode log (logs_of sight tables K q n)) (sym k.ends.at)
        (k.ends.log_nodes r.ports.log.node) in
        let came = ended_of lane x y r q k.set_up.lane_is begins.settled k.ends.work q.came k.ends.has_run e in
        let many : length q.ports.shards.each.ports.items ≡ K.shards = k.ends.count_is ∙ begins.count_is in
        let ours : TakeCallsOf sight lane q.ports.shards.each.ports.items =
        k.ends.of_lane lane (subst (λ l. TakeCallsOf sight l r.ports.shards.each.ports.items) k.set_up.lane_is begins.ours) in
        record {
          log = log;
          seen = shards;
          log' = log';
          seen' = shards';
          settled = settled;
          at_log = record {
            now = knows q.ports.log.seat;
            among = home;
            of_lane = k.ends.own_lane ∙ k.set_up.mine;
            was = k.set_up.log;
            is = view_is first log' (knows q.ports.log.seat) (still.header ∙ ap (λ (v : Sight). v.header) k.set_up.log)
                (ap (λ (v : Sight). v.seen) last_is) (ap (λ (v : Sight). v.flight) last_is) (ap (λ (v : Sight). v.faults) last_is)
                (still.opened ∙ ap (λ (v : Sight). v.opened) k.set_up.log) (still.capacity ∙ ap (λ (v : Sight). v.capacity) k.set_up.log);
            later = still.later;
          };
          at_shard = λ s lt.
              let m = port_sits sight lane q.ports.shards.each.ports.items rows seats ours s (subst (λ n. s < n) (sym many) lt) in
              let stays = k.ends.nodes s in
              let seen_as = (m.3 first).1 in
              record {
                now = m.0;
                among = m.1;
                of_lane = m.2;
                was = k.set_up.shards s;
                is = view_is (shard_at sight hs s) (shards' s) m.0 (stays.header ∙ ap (λ (v : Sight). v.header) (k.set_up.shards s))
                    (ap (λ (v : Sight). v.seen) seen_as) (ap (λ (v : Sight). v.flight) seen_as) (ap (λ (v : Sight). v.faults) seen_as)
                    (stays.opened ∙ ap (λ (v : Sight). v.opened) (k.set_up.shards s))
                    (stays.capacity ∙ ap (λ (v : Sight). v.capacity) (k.set_up.shards s));
                later = stays.later;
              };
          beyond = λ s le.
              let a = past_end (λ p. seat_sight (shard_sight sight) p.seat) r.ports.shards.each.ports.items s
              (subst (λ n. n ≤ s) (sym begins.count_is) le) in
              let b = past_end (λ p. seat_sight (shard_sight sight) p.seat) q.ports.shards.each.ports.items s (subst (λ n. n ≤ s) (sym many) le) in
              (ap (λ (v : Sight). v.seen) a, ap (λ (v : Sight). v.flight) a, ap (λ (v : Sight). v.seen) b);
          txs = came.0 ∙ ap (λ (z : LaneOf). z.txs) (k.ends.work ∙ k.set_up.work);
          ended = came.1;
        }

    -- all lanes, the last one first
    lanes_down : (xs : List LaneOf) (rs qs : List (LaneRun W D S B X G)) (ys : List LaneOf) (owns : List (Vec (Seat (SharedLog D))))
        (homes : List (Vec (Seat (SharedLog D)))) (rows : List (Vec (Seat (SharedShard S)))) → (some : 0 < K.lanes)
        → ((c : ℕ) → hands_at homes c ≡ all_known (down_at owns c)) → Runs xs rs qs → AllZip (λ r y. IsLaneEnd r.work r.came y) qs ys
        → HomesHold K.lanes some owns qs → AllGave qs rows
        → Down (LaneRan K (log_at gs) (shard_at sight hs) (hands_at homes) (hands_at rows)) xs ys
    lanes_down [] [] [] [] owns homes rows some f k z h a = tt
    lanes_down [] [] [] (y ∷ ys) owns homes rows some f k z h a = absurd z
    lanes_down [] [] (q ∷ qs) ys owns homes rows some f k z h a = absurd k
    lanes_down [] (r ∷ rs) qs ys owns homes rows some f k z h a = absurd k
    lanes_down (x ∷ xs) [] qs ys owns homes rows some f k z h a = absurd k
    lanes_down (x ∷ xs) (r ∷ rs) [] ys owns homes rows some f k z h a = absurd k
    lanes_down (x ∷ xs) (r ∷ rs) (q ∷ qs) [] owns homes rows some f k z h a = absurd z
    lanes_down (x ∷ xs) (r ∷ rs) (q ∷ qs) (y ∷ ys) owns homes rows some f k z h a =
        let many = ends_many qs ys z.1 in (
          subst (λ n. LaneRan K (log_at gs) (shard_at sight hs) (hands_at homes) (hands_at rows) n x y) many
              (lane_ran (length qs) x y r q homes rows k.0 z.0
              (subst (IsHand (knows (home_seat q))) (sym (f (home_of K (length qs))))
              (hand_among (home_seat q) (down_at owns (home_of K (length qs))) h.0)) a.0),
          lanes_down xs rs qs ys owns homes rows some f k.1 z.1 h.1 a.1,
        )
      where
        ends_many : (us : List (LaneRun W D S B X G)) (vs : List LaneOf) → AllZip (λ r y. IsLaneEnd r.work r.came y) us vs → length us ≡ length vs
        ends_many [] [] z = refl
        ends_many [] (v ∷ vs) z = absurd z
        ends_many (u ∷ us) [] z = absurd z
        ends_many (u ∷ us) (v ∷ vs) z = let e = ends_many us vs z.1 in omega (arith, e)

    pub lanes_ran : (lanes lanes' : List LaneOf) (rs qs : List (LaneRun W D S B X G)) (owns : List (Vec (Seat (SharedLog D))))
        (homes : List (Vec (Seat (SharedLog D)))) (rows : List (Vec (Seat (SharedShard S)))) → (some : 0 < K.lanes)
        → ((c : ℕ) → hands_at homes c ≡ all_known (down_at owns c)) → Runs (reverse lanes) rs qs
        → AllZip (λ r y. IsLaneEnd r.work r.came y) qs (reverse lanes') → HomesHold K.lanes some owns qs → AllGave qs rows
        → BothFrom (LaneRan K (log_at gs) (shard_at sight hs) (hands_at homes) (hands_at rows)) 0 lanes lanes'
    lanes_ran lanes lanes' rs qs owns homes rows some f k z h a =
        let P = LaneRan K (log_at gs) (shard_at sight hs) (hands_at homes) (hands_at rows) in
        let b = up P (reverse lanes) (reverse lanes') (lanes_down (reverse lanes) rs qs (reverse lanes') owns homes rows some f k z h a) in
        subst (λ xs. BothFrom P 0 xs lanes') (reverse-reverse lanes)
        (subst (λ ys. BothFrom P 0 (reverse (reverse lanes)) ys) (reverse-reverse lanes') b)

module _ {W D S B X : Type 0} {G : Ghosts B} (sight : S → Sight) (tables : ℕ → TableId) (K : Shape) (gs : List (Guarded (SharedLog D)))
    (hs : List (Guarded (SharedShard S))) where
  -- before the dealing no lane has its seats, and behind it all have
  pub none_seated : (n : ℕ) (t : Table W D S B X G) → t.runs.items ≡ [] → HaveSeats sight tables K gs hs n t.lanes.items t
  none_seated n t e = record {
    done = [];
    all_are = sym (append-nil t.lanes.items);
    set_up = subst (λ xs. BothFrom (IsSetUp sight tables K gs hs) n [] (reverse xs)) (sym e) tt;
  }

  pub all_seated : (lanes : List LaneOf) (t : Table W D S B X G) → t.lanes.items ≡ [] → HaveSeats sight tables K gs hs 0 lanes t
      → BothFrom (IsSetUp sight tables K gs hs) 0 lanes (reverse t.runs.items)
  all_seated lanes t e k = subst (λ xs. BothFrom (IsSetUp sight tables K gs hs) 0 xs (reverse t.runs.items))
      (sym (k.all_are ∙ ap (λ xs. xs ++ k.done) e)) k.set_up

  down_begin : (xs : List LaneOf) (rs : List (LaneRun W D S B X G)) → Down (IsSetUp sight tables K gs hs) xs rs → All (RunBegins sight tables K) rs
  down_begin [] [] d = All-nil (RunBegins sight tables K)
  down_begin [] (r ∷ rs) d = absurd d
  down_begin (x ∷ xs) [] d = absurd d
  down_begin (x ∷ xs) (r ∷ rs) d = All-cons (RunBegins sight tables K) r rs d.0.begins (down_begin xs rs d.1)

  pub all_begin : (lanes : List LaneOf) (rs : List (LaneRun W D S B X G)) → BothFrom (IsSetUp sight tables K gs hs) 0 lanes (reverse rs)
      → All (RunBegins sight tables K) rs
  all_begin lanes rs b = down_begin (reverse lanes) rs
      (down (IsSetUp sight tables K gs hs) (reverse lanes) rs
      (subst (λ xs. BothFrom (IsSetUp sight tables K gs hs) 0 xs (reverse rs)) (sym (reverse-reverse lanes)) b))

module _ {W D S B X : Type 0} {G : Ghosts B} where
  pub no_ends : (rs : List (LaneRun W D S B X G)) (xs : List LaneOf) → xs ≡ []
      → AllZip (λ (r : LaneRun W D S B X G) (x : LaneOf). IsLaneEnd r.work r.came x) [] (reverse xs)
  no_ends rs xs e = subst (λ ys. AllZip (λ (r : LaneRun W D S B X G) (x : LaneOf). IsLaneEnd r.work r.came x) [] (reverse ys)) (sym e) tt

  pub ends_are : (news gone : List (LaneRun W D S B X G)) (xs : List LaneOf) → news ≡ gone
      → AllZip (λ (r : LaneRun W D S B X G) (x : LaneOf). IsLaneEnd r.work r.came x) gone xs
      → AllZip (λ (r : LaneRun W D S B X G) (x : LaneOf). IsLaneEnd r.work r.came x) news xs
  ends_are news gone xs e z = subst (λ rs. AllZip (λ (r : LaneRun W D S B X G) (x : LaneOf). IsLaneEnd r.work r.came x) rs xs) (sym e) z
