-- From the record of a wave to all that is said of it.
use Rattle.std.proofs.Common.{◌≡◌, inl, ℕ, zero, suc, ◌+◌, ◌-◌, ◌*◌, ◌/◌, ◌<◌, ◌≤◌, Bool, true, false, ◌||◌, not, ◌==◌, nat_lt, if◌then◌else◌, List}
use Rattle.std.proofs.Common.{[], length, Some, refl, sym, ap, ◌∙◌, subst, arith}
use Rattle.std.specs.Prelude.{slice_get}
use Rattle.std.proofs.lemmas.Nat.{div_below, div-mul-add}
use Rattle.std.proofs.lemmas.Option.{slice_get_within}
use Rattle.cbdc_model.specs.Records.{Shape, Record, record_of, last_stamp}
use Rattle.cbdc_model.specs.Ranges.{home_of, shard_node}
use Rattle.cbdc_model.specs.Slots.{slot, slot_stamp}
use Rattle.cbdc_model.specs.Sights.{Sight}
use Rattle.lane_laws.specs.Batches.{Settled}
use Rattle.run_laws.specs.Runs.{seen_by}
use Rattle.run_laws.specs.Faults.{opened_by, faults_by, capacity_by}
use Rattle.run_laws.specs.Flights.{flying}
use Rattle.run_laws.proofs.Seen.{seen_log, seen_shard}
use Rattle.run_laws.proofs.Rests.{checked_rest_law}
use Rattle.thread_laws.proofs.TurnFlying.{after_here}
use Rattle.ledger_runs.specs.Lanes.{LaneOf}
use Rattle.ledger_runs.proofs.WaveKeeping.{at_place}
use Rattle.node_lock.specs.declared.views.Hand.{Hand}
use Rattle.node_lock.specs.Moving.{Same}
use Rattle.node_lock.specs.Tickets.{times, Done}
use Rattle.thread_laws.specs.Threads.{asks}
use Rattle.thread_laws.specs.Stopping.{NodesOf}
use Rattle.thread_laws.specs.Closing.{NodeLocks}
use Rattle.thread_laws.specs.Whole.{LaneWent, WaveSays}
use Rattle.thread_laws.specs.Sitting.{SitsAt, Sits, Sat}
use Rattle.thread_laws.specs.Running.{NodeRan, LaneRan, WaveRan, WaveNodes, NodesSay, WaveRanLaw, FreshSettledLaw}
use Rattle.thread_laws.proofs.Hands.{behind}
use Rattle.thread_laws.proofs.Heading.{threads_next_law}
use Rattle.thread_laws.proofs.Sitting.{sits_law}
use Rattle.thread_laws.proofs.Whole.{wave_says_law}

-- ---- nodes by their numbers

lt_of : (a b : ℕ) → nat_lt a b ≡ true → a < b
lt_of a b t = grind (arith, t)

le_of : (a b : ℕ) → nat_lt a b ≡ false → b ≤ a
le_of a b t = grind (arith, t)

is_low : (a b : ℕ) → a < b → nat_lt a b ≡ true
is_low a b lt = grind (arith, lt)

is_high : (a b : ℕ) → b ≤ a → nat_lt a b ≡ false
is_high a b le = grind (arith, le)

home_inside : (lane coordinators lanes : ℕ) → lane < coordinators * lanes → lane / lanes < coordinators
home_inside lane coordinators zero lt = absurd (omega (arith, lt))
home_inside lane coordinators (suc lanes) lt = div_below lane (suc lanes) coordinators (omega arith) lt

module _ (K : Shape) where
  -- what stands at the place of a node, of coordinators and of shards
  abbrev place : {A : Type 0} → (ℕ → A) → (ℕ → A) → ℕ → A
  place logs shards n = if nat_lt n K.coordinators then logs n else shards (n - K.coordinators)

  -- the same, where there is nothing past the last shard
  abbrev among : {A : Type 0} → (ℕ → List A) → (ℕ → List A) → ℕ → List A
  among logs shards n = if nat_lt n K.coordinators then logs n else (if nat_lt (n - K.coordinators) K.shards then shards (n - K.coordinators) else [])

  log_place : {A : Type 0} (logs shards : ℕ → A) (n : ℕ) → n < K.coordinators → place logs shards n ≡ logs n
  log_place logs shards n lt = ap (λ c. if c then logs n else shards (n - K.coordinators)) (is_low n K.coordinators lt)

  high_node : (s : ℕ) → nat_lt (shard_node K s) K.coordinators ≡ false
  high_node s = is_high (shard_node K s) K.coordinators (omega arith)

  back : (s : ℕ) → shard_node K s - K.coordinators ≡ s
  back s = omega arith

  shard_place : {A : Type 0} (logs shards : ℕ → A) (s : ℕ) → place logs shards (shard_node K s) ≡ shards s
  shard_place logs shards s = ap (λ c. if c then logs (shard_node K s) else shards (shard_node K s - K.coordinators)) (high_node s)
      ∙ ap shards (back s)

  log_among : {A : Type 0} (logs shards : ℕ → List A) (n : ℕ) → n < K.coordinators → among logs shards n ≡ logs n
  log_among logs shards n lt = ap (λ c. if c then logs n else (if nat_lt (n - K.coordinators) K.shards then shards (n - K.coordinators) else []))
      (is_low n K.coordinators lt)

  shard_by : {A : Type 0} (logs shards : ℕ → List A) (s : ℕ) → among logs shards (shard_node K s) ≡ (if nat_lt s K.shards then shards s else [])
  shard_by logs shards s =
      ap (λ c. if c then logs (shard_node K s) else
      (if nat_lt (shard_node K s - K.coordinators) K.shards then shards (shard_node K s - K.coordinators) else [])) (high_node s)
      ∙ ap (λ m. if nat_lt m K.shards then shards m else []) (back s)

  shard_among : {A : Type 0} (logs shards : ℕ → List A) (s : ℕ) → s < K.shards → among logs shards (shard_node K s) ≡ shards s
  shard_among logs shards s lt = shard_by logs shards s ∙ ap (λ c. if c then shards s else []) (is_low s K.shards lt)

  none_among : {A : Type 0} (logs shards : ℕ → List A) (s : ℕ) → K.shards ≤ s → among logs shards (shard_node K s) ≡ []
  none_among logs shards s le = shard_by logs shards s ∙ ap (λ c. if c then shards s else []) (is_high s K.shards le)

  -- what is so of each coordinator, of each shard, and past these
  each_node : (P : Sight → List ℕ → List Hand → Sight → Type 0) (logs shards : ℕ → Sight) (log_lanes shard_lanes : ℕ → List ℕ)
      (log_hands shard_hands : ℕ → List Hand) (logs' shards' : ℕ → Sight)
      → ((n : ℕ) → n < K.coordinators → P (logs n) (log_lanes n) (log_hands n) (logs' n))
      → ((s : ℕ) → s < K.shards → P (shards s) (shard_lanes s) (shard_hands s) (shards' s))
      → ((s : ℕ) → K.shards ≤ s → P (shards s) [] [] (shards' s)) → (n : ℕ)
      → P (place logs shards n) (among log_lanes shard_lanes n) (among log_hands shard_hands n) (place logs' shards' n)
  each_node P logs shards log_lanes shard_lanes log_hands shard_hands logs' shards' low high none n = at (nat_lt n K.coordinators) refl
    where
      s : ℕ
      s = n - K.coordinators

      past : (u : Bool) → nat_lt s K.shards ≡ u → P (shards s) (if u then shard_lanes s else []) (if u then shard_hands s else []) (shards' s)
      past true e = high s (lt_of s K.shards e)
      past false e = none s (le_of s K.shards e)

      at : (t : Bool) → nat_lt n K.coordinators ≡ t
          → P (if t then logs n else shards s) (if t then log_lanes n else (if nat_lt s K.shards then shard_lanes s else []))
          (if t then log_hands n else (if nat_lt s K.shards then shard_hands s else [])) (if t then logs' n else shards' s)
      at true e = low n (lt_of n K.coordinators e)
      at false e = past (nat_lt s K.shards) refl

  -- what is seen of nodes, by their numbers
  module _ (logs shards : ℕ → Sight) (n : ℕ) where
    seen_is : seen_by K logs shards n ≡ (place logs shards n).seen
    seen_is = elim (nat_lt n K.coordinators) as (λ c. (if c then (logs n).seen else (shards (n - K.coordinators)).seen)
        ≡ (if c then logs n else shards (n - K.coordinators)).seen) [
          | true ↦ refl
          | false ↦ refl
        ]

    flight_is : flying K logs shards n ≡ (place logs shards n).flight
    flight_is = elim (nat_lt n K.coordinators) as
        (λ c. (if c then (logs n).flight else (shards (n - K.coordinators)).flight) ≡ (if c then logs n else shards (n - K.coordinators)).flight) [
          | true ↦ refl
          | false ↦ refl
        ]

    opened_is : opened_by K logs shards n ≡ (place logs shards n).opened
    opened_is = elim (nat_lt n K.coordinators) as
        (λ c. (if c then (logs n).opened else (shards (n - K.coordinators)).opened) ≡ (if c then logs n else shards (n - K.coordinators)).opened) [
          | true ↦ refl
          | false ↦ refl
        ]

    faults_is : faults_by K logs shards n ≡ (place logs shards n).faults
    faults_is = elim (nat_lt n K.coordinators) as
        (λ c. (if c then (logs n).faults else (shards (n - K.coordinators)).faults) ≡ (if c then logs n else shards (n - K.coordinators)).faults) [
          | true ↦ refl
          | false ↦ refl
        ]

    capacity_is : capacity_by K logs shards n ≡ (place logs shards n).capacity
    capacity_is = elim (nat_lt n K.coordinators) as
        (λ c. (if c then (logs n).capacity else (shards (n - K.coordinators)).capacity)
        ≡ (if c then logs n else shards (n - K.coordinators)).capacity) [
          | true ↦ refl
          | false ↦ refl
        ]

  -- the nodes of a lane, by other counts that are the same
  as_nodes : (lane : ℕ) (log : Sight) (shards : ℕ → Sight) (f g h f' g' h' : ℕ → ℕ) → ((n : ℕ) → f' n ≡ f n) → ((n : ℕ) → g' n ≡ g n)
      → ((n : ℕ) → h' n ≡ h n)
      → NodesOf K lane log shards f g h → NodesOf K lane log shards f' g' h'
  as_nodes lane log shards f g h f' g' h' p q r k = record {
    log_shape = k.log_shape;
    shard_shape = k.shard_shape;
    log_opened = p (home_of K lane) ∙ k.log_opened;
    shard_opened = λ s lt. p (shard_node K s) ∙ k.shard_opened s lt;
    log_faults = subst (λ x. log.faults ≤ x) (sym (q (home_of K lane))) k.log_faults;
    shard_faults = λ s lt. subst (λ x. (shards s).faults ≤ x) (sym (q (shard_node K s))) (k.shard_faults s lt);
    log_capacity = k.log_capacity ∙ sym (r (home_of K lane));
    shard_capacity = λ s lt. k.shard_capacity s lt ∙ sym (r (shard_node K s));
  }

  -- a lane is as settled where what it has seen is the same
  settled_as : (lane k : ℕ) (log : Sight) (shards : ℕ → Sight) (log' : Sight) (shards' : ℕ → Sight) → log'.header ≡ log.header → log'.seen ≡ log.seen
      → ((s : ℕ) → (shards' s).seen ≡ (shards s).seen)
      → Settled K lane k log shards → Settled K lane k log' shards'
  settled_as lane k log shards log' shards' h l s was = record {
    home = was.home;
    shape = ap (λ x. x.shape) h ∙ was.shape;
    number = ap (λ L. (slot L lane).number) l ∙ was.number;
    idle = ap (λ L. (slot L lane).phase) l ∙ was.idle;
    shard_idle = λ n. ap (λ L. (slot L lane).phase) (s n) ∙ was.shard_idle n;
    shard_number = λ n. subst (λ L. (slot L lane).number ≤ k) (sym (s n)) (was.shard_number n);
    shard_stamp = λ n. subst (λ L. slot_stamp L lane ≤ last_stamp log'.seen) (sym (s n))
        (subst (λ L. slot_stamp (shards n).seen lane ≤ last_stamp L) (sym l) (was.shard_stamp n));
    fresh_log = λ kind b is lt. ap (λ L. record_of kind L b) l ∙ was.fresh_log kind b is lt;
    fresh_shard = λ n kind b is lt. ap (λ L. record_of kind L b) (s n) ∙ was.fresh_shard n kind b is lt;
  }

-- no call changes its header, what it may hold and its count at the opening; and its disk has failed no less often
abbrev Kept : Sight → Sight → Type 0
Kept f l = Same f l × (f.faults ≤ l.faults)

pub fresh_settled_law : FreshSettledLaw
fresh_settled_law K m logs shards lane log seen limits lt shapes checked idle same seen_same =
    let home = home_inside lane K.coordinators K.lanes lt in
    let rest = checked_rest_law K m lane logs shards limits.some_shard home (shapes (home_of K lane) home) checked
    (ap (λ L. (slot L lane).phase) (sym (seen_log K logs shards (home_of K lane) home)) ∙ idle lane lt) in (
      (slot (logs (home_of K lane)).seen lane).number,
      settled_as K lane (slot (logs (home_of K lane)).seen lane).number (logs (home_of K lane)) shards log seen same.0 same.1 seen_same rest,
    )

-- ---- a wave

module _ (K : Shape) (logs shards logs' shards' : ℕ → Sight) (nodes : WaveNodes K logs shards logs' shards') where
  abbrev E : ℕ → List Record
  E = seen_by K logs shards

  abbrev X : ℕ → List Record
  X = seen_by K logs' shards'

  abbrev first : ℕ → Sight
  first = place K logs shards

  abbrev last : ℕ → Sight
  last = place K logs' shards'

  -- past the last shard there is nothing
  none_begun : (s : ℕ) → K.shards ≤ s → E (shard_node K s) ≡ []
  none_begun s le = seen_shard K logs shards s ∙ nodes.before.beyond s le

  none_now : (s : ℕ) → K.shards ≤ s → X (shard_node K s) ≡ []
  none_now s le = seen_shard K logs' shards' s ∙ nodes.behind.beyond s le

  none_done : (s : ℕ) → K.shards ≤ s → X (shard_node K s) ≡ E (shard_node K s)
  none_done s le = none_now s le ∙ sym (none_begun s le)

  nothing : (s : ℕ) → K.shards ≤ s → Done (shards s) [] [] (shards' s)
  nothing s le = record {
    log = [];
    list = ap (λ x. x.seen) (nodes.beyond s le);
    drawn = tt;
    cover = λ x. refl;
    hands = tt;
    flight = inl (nodes.next.beyond s le);
  }

  module _ (old new : List LaneOf) (places : length old ≡ K.coordinators * K.lanes) where
    abbrev Says : Type 0
    Says = WaveSays K E X (flying K logs shards) (flying K logs' shards') (opened_by K logs' shards') (faults_by K logs' shards')
        (capacity_by K logs' shards') old new

    -- what is so of each node is said of all
    says_nodes : ((n : ℕ) → n < K.coordinators → Same (logs n) (logs' n) × ((logs n).faults ≤ (logs' n).faults))
        → ((s : ℕ) → s < K.shards → Same (shards s) (shards' s) × ((shards s).faults ≤ (shards' s).faults)) → NodesSay K logs shards logs' shards'
    says_nodes low high = record {
      log_headers = λ n lt. (low n lt).0.header;
      shard_headers = λ s lt. (high s lt).0.header;
      later = λ n. subst (λ x. x ≤ faults_by K logs' shards' n) (sym (faults_is K logs shards n))
          (subst (λ x. (first n).faults ≤ x) (sym (faults_is K logs' shards' n)) (all n).1);
      opened_same = λ n. opened_is K logs' shards' n ∙ (all n).0.opened ∙ sym (opened_is K logs shards n);
      capacity_same = λ n. capacity_is K logs' shards' n ∙ (all n).0.capacity ∙ sym (capacity_is K logs shards n);
    }
      where
        none : (s : ℕ) → K.shards ≤ s → Kept (shards s) (shards' s)
        none s le = subst (λ x. Same (shards s) x × ((shards s).faults ≤ x.faults)) (sym (nodes.beyond s le))
            (record { header = refl; opened = refl; capacity = refl }, omega arith)

        all : (n : ℕ) → Kept (first n) (last n)
        all n = each_node K (λ f ls hs l. Kept f l) logs shards (λ k. []) (λ k. []) (λ k. []) (λ k. []) logs' shards' low high none n

    -- ---- lanes that ran
    module _ (ran : WaveRan K logs shards logs' shards' old new) where
      abbrev lanes_at : ℕ → List ℕ
      lanes_at = among K ran.log_lanes ran.shard_lanes

      abbrev hands_at : ℕ → List Hand
      hands_at = among K ran.log_hands ran.shard_hands

      drawn_at : (n l : ℕ) → 0 < times l (lanes_at n) → (l < K.coordinators * K.lanes) × (asks K l n ≡ true)
      drawn_at n l = at (nat_lt n K.coordinators) refl
        where
          s : ℕ
          s = n - K.coordinators

          its : (a b : ℕ) (t : Bool) → a ≡ b → ((a == b) || t) ≡ true
          its a b t e = grind (arith, e)

          any : (a b : ℕ) (t : Bool) → t ≡ false → ((a == b) || not t) ≡ true
          any a b t e = grind (arith, e)

          none : 0 < times l [] → ⊥
          none lt = omega (arith, lt)

          past : (u : Bool) → nat_lt s K.shards ≡ u → nat_lt n K.coordinators ≡ false → 0 < times l (if u then ran.shard_lanes s else [])
              → (l < K.coordinators * K.lanes) × (asks K l n ≡ true)
          past true u e some = (ran.shard_drawn s l (lt_of s K.shards u) some, any (home_of K l) n (nat_lt n K.coordinators) e)
          past false u e some = absurd (none some)

          at : (t : Bool) → nat_lt n K.coordinators ≡ t
              → 0 < times l (if t then ran.log_lanes n else (if nat_lt s K.shards then ran.shard_lanes s else []))
              → (l < K.coordinators * K.lanes) × (asks K l n ≡ true)
          at true e some = let d = ran.log_drawn n l (lt_of n K.coordinators e) some in (d.0, its (home_of K l) n (not (nat_lt n K.coordinators)) d.1)
          at false e some = past (nat_lt s K.shards) refl e some

      abbrev locks : NodeLocks K E X (flying K logs shards) (flying K logs' shards')
      locks = record {
        first = first;
        last = last;
        lanes = lanes_at;
        hands = hands_at;
        done = λ n. each_node K Done logs shards ran.log_lanes ran.shard_lanes ran.log_hands ran.shard_hands logs' shards'
            (λ k lt. (ran.log_ran k lt).done) (λ s lt. (ran.shard_ran s lt).done) nothing n;
        begun = seen_is K logs shards;
        ended = seen_is K logs' shards';
        flew = flight_is K logs shards;
        flies = flight_is K logs' shards';
        drawn = drawn_at;
      }

      apart_at : (n x : ℕ) → times x (lanes_at n) ≤ 1
      apart_at n x = each_node K (λ f ls hs l. times x ls ≤ 1) logs shards ran.log_lanes ran.shard_lanes ran.log_hands ran.shard_hands logs' shards'
          (λ k lt. (ran.log_ran k lt).apart x) (λ s lt. (ran.shard_ran s lt).apart x) (λ s le. omega arith) n

      same_at : (n : ℕ) → n < K.coordinators + K.shards → Same (first n) (last n) × ((first n).header.shape ≡ K)
      same_at n lt = at (nat_lt n K.coordinators) refl
        where
          s : ℕ
          s = n - K.coordinators

          at : (t : Bool) → nat_lt n K.coordinators ≡ t
              → Same (if t then logs n else shards s) (if t then logs' n else shards' s) × ((if t then logs n else shards s).header.shape ≡ K)
          at true e = let low = lt_of n K.coordinators e in ((ran.log_ran n low).same, nodes.log_shapes n low)
          at false e = let high : s < K.shards = let le = le_of n K.coordinators e in omega (arith, le, lt) in
              ((ran.shard_ran s high).same, nodes.shard_shapes s high)

      module _ (lane : ℕ) (x y : LaneOf) (here : slice_get old lane ≡ Some x) (there : slice_get new lane ≡ Some y) where
        r : LaneRan K logs shards ran.log_hands ran.shard_hands lane x y
        r = ran.lanes lane x y here there

        inside : lane < K.coordinators * K.lanes
        inside = subst (λ n. lane < n) places (slice_get_within old lane x here)

        home : home_of K lane < K.coordinators
        home = home_inside lane K.coordinators K.lanes inside

        sits : Sits K E X lane first hands_at r.log r.seen r.log' r.seen'
        sits = record {
          home = home;
          at_log = subst (λ f. SitsAt lane f (hands_at (home_of K lane)) r.log r.log') (sym (log_place K logs shards (home_of K lane) home))
              (subst (λ hs. SitsAt lane (logs (home_of K lane)) hs r.log r.log')
              (sym (log_among K ran.log_hands ran.shard_hands (home_of K lane) home)) r.at_log);
          at_shard = λ s lt. subst (λ f. SitsAt lane f (hands_at (shard_node K s)) (r.seen s) (r.seen' s)) (sym (shard_place K logs shards s))
              (subst (λ hs. SitsAt lane (shards s) hs (r.seen s) (r.seen' s)) (sym (shard_among K ran.log_hands ran.shard_hands s lt))
              (r.at_shard s lt));
          none_begun = λ s le. (r.beyond s le).0 ∙ sym (none_begun s le);
          none_now = λ s le. (r.beyond s le).2 ∙ sym (none_now s le);
          none_done = none_done;
          none_flies = λ s le. (r.beyond s le).1;
          none_sits = λ s le. none_among K ran.log_hands ran.shard_hands s le;
        }

        sat : Sat K E X lane last hands_at r.log r.seen r.log' r.seen'
        sat = sits_law K E X (flying K logs shards) (flying K logs' shards') locks lane r.log r.seen r.log' r.seen' apart_at same_at sits

        went : LaneWent K E X hands_at (opened_by K logs' shards') (faults_by K logs' shards') (capacity_by K logs' shards') lane x y
        went = record {
          number = r.settled.0;
          log = r.log;
          shards = r.seen;
          log' = r.log';
          shards' = r.seen';
          settled = r.settled.1;
          log_quiet = sat.log_quiet;
          shard_quiet = sat.shard_quiet;
          seats = sat.seats;
          seen_by = sat.seen_by;
          nodes = as_nodes K lane r.log' r.seen' (λ n. (last n).opened) (λ n. (last n).faults) (λ n. (last n).capacity) (opened_by K logs' shards')
              (faults_by K logs' shards') (capacity_by K logs' shards')
              (opened_is K logs' shards') (faults_is K logs' shards') (capacity_is K logs' shards') sat.nodes;
          txs = r.txs;
          ended = r.ended;
        }

      -- each node has a lane, which has seen no fewer faults at its end
      later_at : (f l o p : Sight) (lanes : List ℕ) (hands : List Hand) (lane : ℕ) → NodeRan f lanes hands l → SitsAt lane f hands o p
          → f.faults ≤ l.faults
      later_at f l o p lanes hands lane n s =
          let start : o.faults ≡ f.faults = ap (λ x. x.faults) s.was in
          let end : p.faults ≡ s.now.faults = ap (λ x. x.faults) s.is in
          let last_one : s.now.faults ≤ l.faults = (behind f lanes hands l s.now n.done s.among).faults in
          let on : o.faults ≤ p.faults = s.later in
          omega (arith, start, end, last_one, on)

      lane_at : (lane : ℕ) → lane < K.coordinators * K.lanes
          → (x : LaneOf) × (y : LaneOf) × LaneRan K logs shards ran.log_hands ran.shard_hands lane x y
      lane_at lane lt =
          let o = at_place old lane (subst (λ n. lane < n) (sym places) lt) in
          let n = at_place new lane (subst (λ n. lane < n) (sym (ran.count ∙ places)) lt) in
          (o.0, n.0, ran.lanes lane o.0 n.0 o.1 n.1)

      some_lanes : 0 < K.lanes
      some_lanes = nodes.limits.some_lane

      first_lane : (n : ℕ) → n < K.coordinators → n * K.lanes < K.coordinators * K.lanes
      first_lane n lt = low n K.coordinators K.lanes lt some_lanes
        where
          low : (a b c : ℕ) → a < b → 0 < c → a * c < b * c
          low a b c lt some = grind (arith, lt, some)

      its_home : (n : ℕ) → home_of K (n * K.lanes) ≡ n
      its_home n = ap (λ x. x / K.lanes) zero_more ∙ div-mul-add n K.lanes 0 some_lanes
        where
          zero_more : n * K.lanes ≡ n * K.lanes + 0
          zero_more = omega arith

      log_later : (n : ℕ) → n < K.coordinators → (logs n).faults ≤ (logs' n).faults
      log_later n lt =
          let z = lane_at (n * K.lanes) (first_lane n lt) in
          later_at (logs n) (logs' n) z.2.log z.2.log' (ran.log_lanes n) (ran.log_hands n) (n * K.lanes) (ran.log_ran n lt)
          (subst (λ h. SitsAt (n * K.lanes) (logs h) (ran.log_hands h) z.2.log z.2.log') (its_home n) z.2.at_log)

      shard_later : (s : ℕ) → s < K.shards → (shards s).faults ≤ (shards' s).faults
      shard_later s lt =
          let zero_first : 0 * K.lanes ≡ 0 = omega arith in
          let z = lane_at 0 (subst (λ n. n < K.coordinators * K.lanes) zero_first (first_lane 0 nodes.limits.some_coordinator)) in
          later_at (shards s) (shards' s) (z.2.seen s) (z.2.seen' s) (ran.shard_lanes s) (ran.shard_hands s) 0 (ran.shard_ran s lt)
          (z.2.at_shard s lt)

      say_nodes : NodesSay K logs shards logs' shards'
      say_nodes = says_nodes (λ n lt. ((ran.log_ran n lt).same, log_later n lt)) (λ s lt. ((ran.shard_ran s lt).same, shard_later s lt))

      ran_says : Says
      ran_says = wave_says_law K E X (flying K logs shards) (flying K logs' shards') (opened_by K logs' shards') (faults_by K logs' shards')
          (capacity_by K logs' shards') old new locks nodes.limits places ran.count
          (λ m checked. threads_next_law K m logs shards logs' shards' nodes.before nodes.behind say_nodes.log_headers say_nodes.shard_headers
          checked)
          (λ m checked. after_here K logs' shards' nodes.behind nodes.next m checked) went

pub wave_ran_law : WaveRanLaw
wave_ran_law K logs shards logs' shards' old new nodes places ran =
    (ran_says K logs shards logs' shards' nodes old new places ran, say_nodes K logs shards logs' shards' nodes old new places ran)
