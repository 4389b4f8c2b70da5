-- A lane that has got its seats is set up, and the lists that they were dealt from have one fewer.
use Rattle.std.proofs.Common.{◌≡◌, ℕ, zero, suc, ◌+◌, ◌*◌, ◌<◌, ◌≤◌, ◌==◌, true, if◌then◌else◌, List, [], ◌∷◌, ◌++◌, length, Some, None, append_assoc}
use Rattle.std.proofs.Common.{refl, sym, ap, ◌∙◌, subst, arith}
use Rattle.std.specs.Prelude.{All, slice_get}
use Rattle.std.proofs.lemmas.Nat.{div-mul-add, row_fits}
use Rattle.std.proofs.lemmas.List.Elements.{All-cons, All-nil}
use Rattle.cbdc_model.specs.Records.{Shape, Header, Record, record_of, last_stamp}
use Rattle.cbdc_model.specs.Slots.{slot, slot_stamp, InLock}
use Rattle.cbdc_model.specs.Ranges.{home_of, shard_node}
use Rattle.cbdc_model.specs.Sights.{Sight}
use Rattle.lane_driver.specs.Told.{IsLane}
use Rattle.lane_driver.specs.Stops.{IsLaneSettled}
use Rattle.ledger_runs.specs.Lanes.{LaneOf}
use Rattle.node_lock.specs.declared.lock.Guarded.{Guarded}
use Rattle.node_lock.specs.declared.seat.Seat.{Seat}
use Rattle.node_lock.specs.declared.views.Hand.{Hand}
use Rattle.node_lock.specs.Seats.{TableId, knows, first_of, opening_of, table_of}
use Rattle.node_lock.specs.Tickets.{fresh}
use Rattle.node_lock.specs.Viewing.{viewed}
use Rattle.node_ports.specs.Nodes.{sight_at}
use Rattle.port_sets.specs.Seated.{opening_sight, seat_sight, seen_at, seat_phase, Serves}
use Rattle.port_sets.specs.Nodes.{shard_sight, log_sight}
use Rattle.port_sets.specs.declared.coordinators.SharedLog.{SharedLog}
use Rattle.port_sets.specs.declared.locking.SharedShard.{SharedShard}
use Rattle.port_sets.specs.declared.logged.LogSeat.{LogSeat}
use Rattle.port_sets.specs.declared.seated.ShardSeat.{ShardSeat}
use Rattle.port_sets.specs.declared.tables.Locks.{Ghosts}
use Rattle.port_sets.proofs.Seating.{seen_here}
use Rattle.lane_waves.specs.NodeRows.{AreDealt}
use Rattle.lane_waves.proofs.Closing.{last_first}
use Rattle.lane_waves.specs.Held.{TakeCallsOf, log_of, shards_of}
use Rattle.lane_waves.specs.Ports.{ArePorts, AtTables}
use Rattle.lane_waves.specs.declared.runs.LaneRun.{LaneRun}
use Rattle.lane_waves.specs.Places.{AllFrom, BothFrom}
use Rattle.lane_waves.specs.Deals.{MayRun, started, IsOpenNodeAt, AreLocksOpen, log_at, shard_at, IsSetUp, HaveSeats, IsLaneSeated}
use Rattle.lane_waves.specs.declared.dealing.Table.{Table}
use Rattle.lane_waves.proofs.Places.{all_here, get_there}
use Rattle.lane_waves.proofs.Opening.{seen_get}

module _ {N : Type 0} (sight : N → Sight) where
  -- a seat that made no call shows the node as it was at the opening
  pub seat_started : (s : Seat N) (n : N) (lane : ℕ) → first_of s ≡ Some n → knows s ≡ fresh (sight n) lane
      → seat_sight sight s ≡ started lane (sight n)
  seat_started s n lane e f = ap (λ o. viewed (opening_sight sight o) (knows s)) e ∙ ap (λ (h : Hand). viewed (sight n) h) f

-- what a lane is settled by
pub settled_like : (K : Shape) (lane : ℕ) (log log' : Sight) (I J : ℕ → Sight) → log'.header ≡ log.header → log'.seen ≡ log.seen
    → ((s : ℕ) → (J s).seen ≡ (I s).seen) → IsLaneSettled K lane log I → IsLaneSettled K lane log' J
settled_like K lane log log' I J eh es f k =
    let n = k.0 in let s = k.1 in (
      n,
      record {
        home = s.home;
        shape = ap (λ (h : Header). h.shape) eh ∙ s.shape;
        number = ap (λ (xs : List Record). (slot xs lane).number) es ∙ s.number;
        idle = ap (λ (xs : List Record). (slot xs lane).phase) es ∙ s.idle;
        shard_idle = λ i. ap (λ (xs : List Record). (slot xs lane).phase) (f i) ∙ s.shard_idle i;
        shard_number = λ i. subst (λ (xs : List Record). (slot xs lane).number ≤ n) (sym (f i)) (s.shard_number i);
        shard_stamp = λ i. subst (λ (xs : List Record). slot_stamp xs lane ≤ last_stamp log'.seen) (sym (f i))
            (subst (λ (xs : List Record). slot_stamp (I i).seen lane ≤ last_stamp xs) (sym es) (s.shard_stamp i));
        fresh_log = λ kind b of lt. subst (λ (xs : List Record). record_of kind xs b ≡ None) (sym es) (s.fresh_log kind b of lt);
        fresh_shard = λ i kind b of lt. subst (λ (xs : List Record). record_of kind xs b ≡ None) (sym (f i)) (s.fresh_shard i kind b of lt);
      },
    )

phase_mine : (mine lane : ℕ) (s : Sight) → lane ≡ mine → seat_phase mine s lane ≡ (slot s.seen lane).phase
phase_mine mine lane s e = let t : (lane == mine) ≡ true = grind (arith, e) in ap (λ b. if b then (slot s.seen lane).phase else InLock) t

pub lane_within : (home lane_count count j : ℕ) → home < count → j < lane_count → home * lane_count + j < count * lane_count
lane_within home lane_count count j lt low = let e : home * lane_count + lane_count ≤ count * lane_count =
    row_fits home lane_count count lane_count lt (omega arith) in omega (arith, e, low)

module _ {W S B : Type 0} {G : Ghosts B} (sight : S → Sight) where
  -- the ports of such seats show the shards as they were at the opening
  pub ports_started : (lane : ℕ) (hs : List (Guarded (SharedShard S))) (ss : List (Seat (SharedShard S))) (ps : List (ShardSeat W S B G))
      → AreDealt (shard_sight sight) lane hs ss → ArePorts hs ss ps
      → (n : ℕ) → sight_at (λ p. seat_sight (shard_sight sight) p.seat) ps n ≡ started lane (shard_at sight hs n)
  ports_started lane [] [] [] d k n = refl
  ports_started lane [] [] (p ∷ ps) d k n = absurd k
  ports_started lane [] (s ∷ ss) ps d k n = absurd d
  ports_started lane (h ∷ hs) [] ps d k n = absurd d
  ports_started lane (h ∷ hs) (s ∷ ss) [] d k n = absurd k
  ports_started lane (h ∷ hs) (s ∷ ss) (p ∷ ps) d k zero =
      ap (λ q. seat_sight (shard_sight sight) q) k.0.seat ∙ seat_started (shard_sight sight) s (opening_of h) lane d.0.1 d.0.2
  ports_started lane (h ∷ hs) (s ∷ ss) (p ∷ ps) d k (suc n) = ports_started lane hs ss ps d.1 k.1 n

  pub ports_many : (hs : List (Guarded (SharedShard S))) (ss : List (Seat (SharedShard S))) (ps : List (ShardSeat W S B G)) → ArePorts hs ss ps
      → length ps ≡ length hs
  ports_many [] [] [] k = refl
  ports_many [] [] (p ∷ ps) k = absurd k
  ports_many [] (s ∷ ss) ps k = absurd k
  ports_many (h ∷ hs) [] ps k = absurd k
  ports_many (h ∷ hs) (s ∷ ss) [] k = absurd k
  ports_many (h ∷ hs) (s ∷ ss) (p ∷ ps) k = let e = ports_many hs ss ps k.1 in omega (arith, e)

  abbrev ServesLane : ℕ → ShardSeat W S B G → Type 0
  ServesLane lane p = Serves (shard_sight sight) p.guarded.now p.seat lane

  -- and take the lane's calls
  pub ports_ours : (K : Shape) (lane k : ℕ) (hs : List (Guarded (SharedShard S))) (ss : List (Seat (SharedShard S))) (ps : List (ShardSeat W S B G))
      → AreDealt (shard_sight sight) lane hs ss → ArePorts hs ss ps
      → AllFrom (λ s h. IsOpenNodeAt K (shard_node K s) (shard_sight sight (opening_of h))) k hs → TakeCallsOf sight lane ps
  ports_ours K lane k [] [] [] d a o = All-nil (ServesLane lane)
  ports_ours K lane k [] [] (p ∷ ps) d a o = absurd a
  ports_ours K lane k [] (s ∷ ss) ps d a o = absurd d
  ports_ours K lane k (h ∷ hs) [] ps d a o = absurd d
  ports_ours K lane k (h ∷ hs) (s ∷ ss) [] d a o = absurd a
  ports_ours K lane k (h ∷ hs) (s ∷ ss) (p ∷ ps) d a o =
      All-cons (ServesLane lane) p ps
      (record {
        mine = ap (λ q. (knows q).lane) a.0.seat ∙ ap (λ (v : Hand). v.lane) d.0.2;
        since = subst (λ n. (shard_sight sight (opening_of p.guarded.now)).opened ≤ n)
            (sym (ap (λ q. (knows q).faults) a.0.seat ∙ ap (λ (v : Hand). v.faults) d.0.2))
            (subst (λ x. (shard_sight sight (opening_of x)).opened ≤ (shard_sight sight (opening_of h)).faults) (sym a.0.guarded) o.0.since);
      })
      (ports_ours K lane (suc k) hs ss ps d.1 a.1 o.1)

  -- they are of the locks that the wave picks
  ports_picked : (tables : ℕ → TableId) (K : Shape) (lane k : ℕ) (hs : List (Guarded (SharedShard S))) (ss : List (Seat (SharedShard S)))
      (ps : List (ShardSeat W S B G)) → AreDealt (shard_sight sight) lane hs ss → ArePorts hs ss ps
      → AtTables tables K k hs → AllFrom (λ s h. IsOpenNodeAt K (shard_node K s) (shard_sight sight (opening_of h))) k hs
      → All (λ p. table_of p.guarded.now ≡ tables (seat_sight (shard_sight sight) p.seat).header.node) ps
  ports_picked tables K lane k [] [] [] d a t o = All-nil (λ p. table_of p.guarded.now ≡ tables (seat_sight (shard_sight sight) p.seat).header.node)
  ports_picked tables K lane k [] [] (p ∷ ps) d a t o = absurd a
  ports_picked tables K lane k [] (s ∷ ss) ps d a t o = absurd d
  ports_picked tables K lane k (h ∷ hs) [] ps d a t o = absurd d
  ports_picked tables K lane k (h ∷ hs) (s ∷ ss) [] d a t o = absurd a
  ports_picked tables K lane k (h ∷ hs) (s ∷ ss) (p ∷ ps) d a t o =
      let seen : seat_sight (shard_sight sight) p.seat ≡ started lane (shard_sight sight (opening_of h)) =
      ap (λ q. seat_sight (shard_sight sight) q) a.0.seat ∙ seat_started (shard_sight sight) s (opening_of h) lane d.0.1 d.0.2 in
      All-cons (λ p. table_of p.guarded.now ≡ tables (seat_sight (shard_sight sight) p.seat).header.node) p ps
      (ap table_of a.0.guarded ∙ (sym t.0 ∙ ap tables (sym (ap (λ (v : Sight). v.header.node) seen ∙ o.0.node))))
      (ports_picked tables K lane (suc k) hs ss ps d.1 a.1 t.1 o.1)

module _ {W D S B X : Type 0} {G : Ghosts B} (sight : S → Sight) (tables : ℕ → TableId) (K : Shape) (gs : List (Guarded (SharedLog D)))
    (hs : List (Guarded (SharedShard S))) (open_ : AreLocksOpen sight tables K gs hs) where
  pub set_up : (home j : ℕ) (g : Guarded (SharedLog D)) (p : LogSeat W D B G) (r : LaneRun W D S B X G) (ss : List (Seat (SharedShard S)))
      → j < K.lanes → slice_get gs home ≡ Some g
      → p.guarded.now ≡ g → p.node ≡ home → knows p.seat ≡ fresh (log_sight (opening_of g)) (home * K.lanes + j) → r.lane ≡ home * K.lanes + j
      → r.ports.log ≡ p
      → AreDealt (shard_sight sight) (home * K.lanes + j) hs ss → ArePorts hs ss r.ports.shards.each.ports.items → MayRun r.work
      → IsSetUp sight tables K gs hs (home * K.lanes + j) r.work r
  set_up home j g p r ss low there guarded node knew lane_is log_is dealt ports may =
      let lane : ℕ = home * K.lanes + j in
      let place = seen_get (λ x. log_sight (opening_of x)) gs home g there in
      let within : home < K.coordinators = subst (λ n. home < n) open_.logs_many place.1 in
      let home_is : home_of K lane ≡ home = div-mul-add home K.lanes j low in
      let lane_low : lane < K.coordinators * K.lanes = lane_within home K.lanes K.coordinators j within low in
      let opened : IsOpenNodeAt K home (log_sight (opening_of g)) =
      all_here (λ n x. IsOpenNodeAt K n (log_sight (opening_of x))) gs home g open_.logs there in
      let seat_seen : seat_sight log_sight p.seat ≡ started lane (log_sight (opening_of g)) =
      seat_started log_sight p.seat (opening_of g) lane (p.own.1 ∙ ap (λ x. Some (opening_of x)) guarded) knew in
      let at_home : log_at gs (home_of K lane) ≡ log_sight (opening_of g) = ap (log_at gs) home_is ∙ place.0 in
      let log_seen : log_of sight tables K r ≡ started lane (log_at gs (home_of K lane)) =
      ap (λ q. seen_at q.node (seat_sight (log_sight {D = D}) q.seat) q.node) log_is
      ∙ (seen_here p.node (seat_sight log_sight p.seat) ∙ (seat_seen ∙ ap (started lane) (sym at_home))) in
      let r_seen : seat_sight (log_sight {D = D}) r.ports.log.seat ≡ started lane (log_sight (opening_of g)) =
      ap (λ q. seat_sight (log_sight {D = D}) q.seat) log_is ∙ seat_seen in
      let shards_seen : (s : ℕ) → shards_of sight tables K r s ≡ started lane (shard_at sight hs s) =
      ports_started sight lane hs ss r.ports.shards.each.ports.items dealt ports in
      let rest : IsLaneSettled K lane (log_at gs (home_of K lane)) (shard_at sight hs) = open_.settled lane lane_low in
      let my_lane : r.lane ≡ (knows r.ports.log.seat).lane = lane_is ∙ sym (ap (λ q. (knows q.seat).lane) log_is ∙ ap (λ (h : Hand). h.lane) knew) in
      let r_node : r.ports.log.node ≡ home = ap (λ q. q.node) log_is ∙ node in
      record {
        lane_is = lane_is;
        work = refl;
        ready = may.ready;
        begins = record {
          seated = record {
            log = subst (λ q. table_of q.guarded.now ≡ tables q.node) (sym log_is)
                (ap table_of guarded ∙ (sym (all_here (λ n x. tables n ≡ table_of x) gs home g open_.log_tables there) ∙ ap tables (sym node)));
            shards = ports_picked sight tables K lane 0 hs ss r.ports.shards.each.ports.items dealt ports open_.shard_tables open_.shards;
          };
          at = r_node ∙ (sym home_is ∙ ap (home_of K) (sym lane_is));
          home = subst (λ v. IsLane v.header r.lane) (sym r_seen) (subst (λ l. IsLane (log_sight (opening_of g)).header l) (sym lane_is) (
            subst (λ (k : Shape). lane < k.coordinators * k.lanes) (sym opened.shape) lane_low,
            opened.node ∙ (sym home_is ∙ ap (λ (k : Shape). home_of k lane) (sym opened.shape)),
          ));
          shape = ap (λ (v : Sight). v.header.shape) r_seen ∙ opened.shape;
          idle = phase_mine (knows r.ports.log.seat).lane r.lane (seat_sight (log_sight {D = D}) r.ports.log.seat) my_lane
              ∙ (ap (λ (v : Sight). (slot v.seen r.lane).phase) r_seen
              ∙ (ap (λ (v : Sight). (slot v.seen r.lane).phase) (sym at_home)
              ∙ (ap (λ l. (slot (log_at gs (home_of K lane)).seen l).phase) lane_is ∙ rest.1.idle)));
          count_is = ports_many sight hs ss r.ports.shards.each.ports.items ports ∙ open_.shards_many;
          ledger = λ s lt.
              let got = get_there hs s (subst (λ n. s < n) (sym open_.shards_many) lt) in
              let at = all_here (λ n x. IsOpenNodeAt K (shard_node K n) (shard_sight sight (opening_of x))) hs s got.0 open_.shards got.1 in
              let is : shards_of sight tables K r s ≡ started lane (shard_sight sight (opening_of got.0)) =
              shards_seen s ∙ ap (started lane) (seen_get (λ x. shard_sight sight (opening_of x)) hs s got.0 got.1).0 in
              (ap (λ (v : Sight). v.header.shape) is ∙ at.shape, ap (λ (v : Sight). v.header.node) is ∙ at.node);
          settled = subst (λ l. IsLaneSettled K l (log_of sight tables K r) (shards_of sight tables K r)) (sym lane_is)
              (settled_like K lane (log_at gs (home_of K lane)) (log_of sight tables K r) (shard_at sight hs) (shards_of sight tables K r)
              (ap (λ (v : Sight). v.header) log_seen) (ap (λ (v : Sight). v.seen) log_seen) (λ s. ap (λ (v : Sight). v.seen) (shards_seen s)) rest);
          ours = subst (λ l. TakeCallsOf sight l r.ports.shards.each.ports.items) (sym lane_is)
              (ports_ours sight K lane 0 hs ss r.ports.shards.each.ports.items dealt ports open_.shards);
          limits = may.limits;
        };
        mine = sym my_lane ∙ lane_is;
        log = log_seen;
        shards = shards_seen;
      }

  -- one lane more has its seats
  pub seats_more : (n : ℕ) (all : List LaneOf) (home : LogSeat W D B G) (t u : Table W D S B X G) (next : IsLaneSeated sight hs home t u)
      → IsSetUp sight tables K gs hs n next.run.work next.run
      → HaveSeats sight tables K gs hs (suc n) all t → HaveSeats sight tables K gs hs n all u
  seats_more n all home t u next up k = record {
    done = next.run.work ∷ k.done;
    all_are = k.all_are ∙ (ap (λ xs. xs ++ k.done) next.lanes ∙ append_assoc u.lanes.items (next.run.work ∷ []) k.done);
    set_up = subst (λ xs. BothFrom (IsSetUp sight tables K gs hs) n (next.run.work ∷ k.done) xs)
        (sym (last_first t.runs.items u.runs.items next.run next.runs)) (up, k.set_up);
  }
