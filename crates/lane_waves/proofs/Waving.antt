-- A whole wave: what its locks and its lanes come to, whether the lanes ran or memory was wanting before their first calls.
use Rattle.std.proofs.Common.{◌≡◌, inl, inr, ℕ, zero, suc, ◌+◌, ◌-◌, ◌*◌, ◌/◌, ◌<◌, ◌≤◌, List, [], ◌∷◌, map, length, refl, sym, ap, ◌∙◌, subst, arith}
use Rattle.std.specs.Prelude.{All}
use Rattle.std.specs.Global.{Vec}
use Rattle.std.proofs.lemmas.Nat.{mul-le, div-mul-add}
use Rattle.std.proofs.lemmas.List.Elements.{All-head, All-tail, All-nil, All-cons}
use Rattle.cbdc_types.specs.Limits.{IsWithinLimits}
use Rattle.cbdc_model.specs.Records.{Shape}
use Rattle.cbdc_model.specs.Grammar.{IsCompact}
use Rattle.cbdc_model.specs.Ranges.{home_of}
use Rattle.cbdc_model.specs.Sights.{Sight}
use Rattle.lane_driver.specs.Stops.{IsLaneSettled}
use Rattle.ledger_runs.specs.Turning.{IsLaneOf}
use Rattle.ledger_runs.specs.Lanes.{LaneOf}
use Rattle.node_lock.specs.declared.lock.Guarded.{Guarded}
use Rattle.node_lock.specs.declared.seat.Seat.{Seat}
use Rattle.node_lock.specs.Seats.{opening_of}
use Rattle.node_lock.specs.declared.views.Hand.{Hand}
use Rattle.node_lock.specs.Tickets.{times, fresh}
use Rattle.node_ports.specs.Nodes.{sight_at, no_sight}
use Rattle.port_sets.specs.Nodes.{shard_sight, log_sight}
use Rattle.port_sets.specs.declared.coordinators.SharedLog.{SharedLog}
use Rattle.port_sets.specs.declared.locking.SharedShard.{SharedShard}
use Rattle.thread_laws.specs.Closing.{IsHand}
use Rattle.thread_laws.specs.Running.{WaveRan, LaneRan, IsStillSight}
use Rattle.thread_laws.specs.Whole.{EachPair, LaneHasEnded}
use Rattle.lane_waves.specs.NodeRows.{AreLocked, AreClosed, AreLeft}
use Rattle.lane_waves.specs.Among.{lanes_of_lock, hands_at}
use Rattle.lane_waves.specs.Laws.{WentOn}
use Rattle.lane_waves.proofs.NodePlaces.{nodes_ran}
use Rattle.lane_waves.specs.Lanes.{HasStoppedForMemory, IsLaneReady}
use Rattle.lane_waves.specs.Places.{AllFrom, BothFrom}
use Rattle.lane_waves.specs.Rows.{home_lanes, all_lanes, IsHomeRow, IsShardRow}
use Rattle.lane_waves.specs.Deals.{MayRun, log_at}
use Rattle.lane_waves.specs.Waves.{AreThrough}
use Rattle.lane_waves.proofs.Places.{next_row, get_within, get_there, get_all}
use Rattle.lane_waves.proofs.Numbers.{once, inside}
use Rattle.lane_waves.proofs.Opening.{FreshAt, openings, seen_maps, map_many}
use Rattle.lane_waves.proofs.Unrun.{unrun, still_ran, fresh_hand, same_txs}

-- the seats of all lanes are left of each lock
pub fresh_left : {N : Type 0} (sight : N → Sight) (ls : List ℕ) (k : ℕ) (gs : List (Guarded N)) (ss : List (Vec (Seat N)))
    → BothFrom (FreshAt sight (λ n. ls)) k gs ss → AreLeft sight ls gs ss
fresh_left sight ls k [] [] b = tt
fresh_left sight ls k [] (s ∷ ss) b = absurd b
fresh_left sight ls k (g ∷ gs) [] b = absurd b
fresh_left sight ls k (g ∷ gs) (s ∷ ss) b = (b.0.0, fresh_left sight ls (suc k) gs ss b.1)

-- a node goes on from itself
pub went_same : {N : Type 0} (sight : N → Sight) (goes : N → N → Type 0) → ((n : N) → goes n n) → (ns : List N) → WentOn sight goes ns ns
went_same sight goes same [] = tt
went_same sight goes same (n ∷ ns) = (same n, went_same sight goes same ns)

-- as many locks as nodes
pub locks_many : {N : Type 0} (sight : N → Sight) (ns : List N) (rs : List (Vec ℕ)) (gs : List (Guarded N)) (ss : List (Vec (Seat N)))
    → AreLocked sight ns rs gs ss → length gs ≡ length ns
locks_many sight ns rs gs ss k = sym (map_many opening_of gs) ∙ ap (λ (xs : List _). length xs) (openings sight ns rs gs ss k)

-- a ledger has lanes, and few
pub few_lanes : (K : Shape) → IsWithinLimits K → (0 < K.coordinators * K.lanes) × (K.coordinators * K.lanes < 4294967296)
    × (K.coordinators * K.lanes ≤ 256)
few_lanes K limits =
    let low = mul-le 1 1 K.coordinators K.lanes limits.some_coordinator limits.some_lane in
    let high = mul-le K.coordinators K.lanes 16 16 limits.coordinators limits.lanes in
    (omega (arith, low), omega (arith, high), high)

-- a row's lanes are below the number of all
pub rows_below : (c l j : ℕ) → j < c → j * l + l ≤ c * l
rows_below c l j lt =
    let one : suc j ≡ j + 1 = omega arith in
    let row = next_row j (suc j) l one in
    let same : l ≤ l = omega arith in
    let all = mul-le (suc j) l c l (omega (arith, lt)) same in
    omega (arith, row, all)

row_is : (lanes : ℕ → List ℕ) (k : ℕ) (rs : List (Vec ℕ)) (n : ℕ) → AllFrom (λ j r. r.items ≡ lanes j) k rs → n < length rs
    → lanes_of_lock rs n ≡ lanes (k + n)
row_is lanes k [] n a lt = absurd (let z : n < 0 = lt in omega (arith, z))
row_is lanes k (r ∷ rs) zero a lt = let none : k ≡ k + 0 = omega arith in a.0 ∙ ap lanes none
row_is lanes k (r ∷ rs) (suc n) a lt = let more : suc k + n ≡ k + suc n = omega arith in
    row_is lanes (suc k) rs n a.1 (omega (arith, lt)) ∙ ap lanes more

row_here : (lanes : ℕ → List ℕ) (rs : List (Vec ℕ)) (n : ℕ) → AllFrom (λ j r. r.items ≡ lanes j) 0 rs → n < length rs → lanes_of_lock rs n ≡ lanes n
row_here lanes rs n a lt = let none : 0 + n ≡ n = omega arith in row_is lanes 0 rs n a lt ∙ ap lanes none

-- the lanes of a coordinator's row are its own
home_drawn : (K : Shape) (n l : ℕ) → n < K.coordinators → 0 < times l (home_lanes K n) → IsLaneOf K l × (home_of K l ≡ n)
home_drawn K n l lt some =
    let m = inside l (n * K.lanes) K.lanes some in
    let low = m.0 in
    let high = m.1 in
    let one : suc n ≡ n + 1 = omega arith in
    let row = next_row n (suc n) K.lanes one in
    let same : K.lanes ≤ K.lanes = omega arith in
    let all = mul-le (suc n) K.lanes K.coordinators K.lanes (omega (arith, lt)) same in
    let is : l ≡ n * K.lanes + (l - n * K.lanes) = omega (arith, low) in
    (omega (arith, high, row, all), ap (λ j. j / K.lanes) is ∙ div-mul-add n K.lanes (l - n * K.lanes) (omega (arith, low, high)))

all_drawn : (K : Shape) (l : ℕ) → 0 < times l (all_lanes K) → IsLaneOf K l
all_drawn K l some = let m = inside l 0 (K.coordinators * K.lanes) some in let high = m.1 in omega (arith, high)

pub same_many : (old new : List LaneOf) → map (λ z. z.txs) new ≡ map (λ z. z.txs) old → length new ≡ length old
same_many old new m = sym (map_many (λ z. z.txs) new) ∙ (ap (λ (xs : List _). length xs) m ∙ map_many (λ z. z.txs) old)

-- a place is in its row
row_of : (n w : ℕ) → 0 < w → (n / w * w ≤ n) × (n < n / w * w + w)
row_of n w some =
    (go_low, go_high)
  where
    go_low : n / w * w ≤ n
    go_low = grind (arith, some)

    go_high : n < n / w * w + w
    go_high = grind (arith, some)

-- a lane's fresh hand at its coordinator
at_home : (K : Shape) (first : Sight) (lane : ℕ) → 0 < K.lanes → IsHand (fresh first lane) (map (fresh first) (home_lanes K (home_of K lane)))
at_home K first lane some =
    let low : lane / K.lanes * K.lanes ≤ lane = (row_of lane K.lanes some).0 in
    let high : lane < lane / K.lanes * K.lanes + K.lanes = (row_of lane K.lanes some).1 in
    let is : lane / K.lanes * K.lanes + (lane - lane / K.lanes * K.lanes) ≡ lane = omega (arith, low) in
    subst (λ l. IsHand (fresh first l) (map (fresh first) (home_lanes K (home_of K lane)))) is
    (fresh_hand first (lane / K.lanes * K.lanes) K.lanes (lane - lane / K.lanes * K.lanes) (omega (arith, low, high)))

at_shard : (K : Shape) (first : Sight) (lane : ℕ) → lane < K.coordinators * K.lanes → IsHand (fresh first lane) (map (fresh first) (all_lanes K))
at_shard K first lane lt = let is : 0 + lane ≡ lane = omega arith in
    subst (λ l. IsHand (fresh first l) (map (fresh first) (all_lanes K))) is (fresh_hand first 0 (K.coordinators * K.lanes) lane lt)

-- nodes that were asked nothing, and lanes that have stopped because memory ran out
pub unrun_wave : (K : Shape) (logs shards logs' shards' : ℕ → Sight) (old new : List LaneOf) → IsWithinLimits K
    → ((n : ℕ) → n < K.coordinators → IsStillSight (logs n) (logs' n)) → ((s : ℕ) → s < K.shards → IsStillSight (shards s) (shards' s))
    → ((s : ℕ) → K.shards ≤ s → shards s ≡ no_sight)
    → ((lane : ℕ) → lane < K.coordinators * K.lanes → IsLaneSettled K lane (logs (home_of K lane)) shards) → length old ≡ K.coordinators * K.lanes
    → map (λ z. z.txs) new ≡ map (λ z. z.txs) old → All HasStoppedForMemory new → WaveRan K logs shards logs' shards' old new
unrun_wave K logs shards logs' shards' old new limits still_logs still_shards past settled many same stopped = record {
  log_lanes = home_lanes K;
  log_hands = λ n. map (fresh (logs n)) (home_lanes K n);
  shard_lanes = λ s. all_lanes K;
  shard_hands = λ s. map (fresh (shards s)) (all_lanes K);
  log_ran = λ n lt. still_ran (logs n) (logs' n) (home_lanes K n) (λ x. once x (n * K.lanes) K.lanes) (still_logs n lt);
  shard_ran = λ s lt. still_ran (shards s) (shards' s) (all_lanes K) (λ x. once x 0 (K.coordinators * K.lanes)) (still_shards s lt);
  log_drawn = λ n l lt some. home_drawn K n l lt some;
  shard_drawn = λ s l lt some. all_drawn K l some;
  count = same_many old new same;
  lanes = λ lane x y e f.
      let some : 0 < K.lanes = let l = limits.some_lane in omega (arith, l) in
      let short = get_within old lane x e in
      let lt : lane < K.coordinators * K.lanes = omega (arith, short, many) in
      unrun K logs shards (λ n. map (fresh (logs n)) (home_lanes K n)) (λ s. map (fresh (shards s)) (all_lanes K)) lane x y (settled lane lt)
      (at_home K (logs (home_of K lane)) lane some)
      (λ s le. at_shard K (shards s) lane lt) past (same_txs old new lane x y same e f) (get_all HasStoppedForMemory new lane y stopped f);
}

-- a list of nodes is still itself
pub still_itself : (s : Sight) → IsStillSight s s
still_itself s = record { same = record { header = refl; opened = refl; capacity = refl }; seen = refl; flight = inr refl; later = omega arith }

-- nodes whose locks were made and closed, and lanes that ran at their seats
module _ {D S : Type 0} (sight : S → Sight) (log_goes : SharedLog D → SharedLog D → Type 0) (shard_goes : SharedShard S → SharedShard S → Type 0)
    (K : Shape) where
  pub ran_wave : (ns ns' : List (SharedLog D)) (ms ms' : List (SharedShard S)) (home_rows shard_rows : List (Vec ℕ))
      (gs : List (Guarded (SharedLog D))) (hs : List (Guarded (SharedShard S)))
      (homes homes' : List (Vec (Seat (SharedLog D)))) (rows rows' : List (Vec (Seat (SharedShard S)))) (old new : List LaneOf)
      → length ns ≡ K.coordinators → length ms ≡ K.shards → AllFrom (IsHomeRow K) 0 home_rows → length home_rows ≡ K.coordinators
      → AllFrom (IsShardRow K) 0 shard_rows → length shard_rows ≡ K.shards
      → AreLocked log_sight ns home_rows gs homes → AreLocked (shard_sight sight) ms shard_rows hs rows → AreClosed log_sight log_goes gs homes' ns'
      → AreClosed (shard_sight sight) shard_goes hs rows' ms'
      → AreThrough sight K gs hs homes' rows' old new
      → WaveRan K (sight_at log_sight ns) (sight_at (shard_sight sight) ms) (sight_at log_sight ns') (sight_at (shard_sight sight) ms') old new
  ran_wave ns ns' ms ms' home_rows shard_rows gs hs homes homes' rows rows' old new logs_many shards_many home_lanes_are home_many shard_lanes_are
      shard_many logs_locked shards_locked logs_closed shards_closed through =
      let logs_are = seen_maps opening_of log_sight gs ns (openings log_sight ns home_rows gs homes logs_locked) in
      let shards_are = seen_maps opening_of (shard_sight sight) hs ms (openings (shard_sight sight) ms shard_rows hs rows shards_locked) in
      record {
        log_lanes = lanes_of_lock home_rows;
        log_hands = hands_at homes';
        shard_lanes = lanes_of_lock shard_rows;
        shard_hands = hands_at rows';
        log_ran = λ n lt. nodes_ran log_sight log_goes ns home_rows gs homes homes' ns' logs_locked logs_closed n (omega (arith, lt, logs_many));
        shard_ran = λ s lt. nodes_ran (shard_sight sight) shard_goes ms shard_rows hs rows rows' ms' shards_locked shards_closed s
            (omega (arith, lt, shards_many));
        log_drawn = λ n l lt some. home_drawn K n l lt
            (subst (λ ls. 0 < times l ls) (row_here (home_lanes K) home_rows n home_lanes_are (omega (arith, lt, home_many))) some);
        shard_drawn = λ s l lt some. all_drawn K l
            (subst (λ ls. 0 < times l ls) (row_here (λ n. all_lanes K) shard_rows s shard_lanes_are (omega (arith, lt, shard_many))) some);
        count = through.many;
        lanes = subst (λ f. EachPair (LaneRan K f (sight_at (shard_sight sight) ms) (hands_at homes') (hands_at rows')) old new) logs_are
            (subst (λ f. EachPair (LaneRan K (log_at gs) f (hands_at homes') (hands_at rows')) old new) shards_are through.lanes_ran);
      }

-- lists of nodes out of their wrappers
module _ {M N : Type 0} (f : M → N) where
  pub went_map : (sight : N → Sight) (goes : N → N → Type 0) (xs ys : List M) → WentOn (λ x. sight (f x)) (λ a b. goes (f a) (f b)) xs ys
      → WentOn sight goes (map f xs) (map f ys)
  went_map sight goes [] [] w = tt
  went_map sight goes [] (y ∷ ys) w = absurd w
  went_map sight goes (x ∷ xs) [] w = absurd w
  went_map sight goes (x ∷ xs) (y ∷ ys) w = (w.0, went_map sight goes xs ys w.1)

  pub all_map : (P : N → Type 0) (xs : List M) → All P (map f xs) → All (λ x. P (f x)) xs
  all_map P [] a = All-nil (λ x. P (f x))
  all_map P (x ∷ xs) a = All-cons (λ x. P (f x)) x xs (All-head P (f x) (map f xs) a) (all_map P xs (All-tail P (f x) (map f xs) a))

-- lanes that were made ready may run
pub may_run : (old new : List LaneOf) → map (λ z. z.txs) new ≡ map (λ z. z.txs) old → All (λ z. All IsCompact z.txs) old → All IsLaneReady new
    → All MayRun new
may_run old [] m a r = All-nil MayRun
may_run [] (w ∷ new) m a r = absurd (let z : w.txs ∷ map (λ z. z.txs) new ≡ [] = m in cc)
may_run (v ∷ old) (w ∷ new) m a r =
    let c : w.txs ≡ v.txs = let z : w.txs ∷ map (λ z. z.txs) new ≡ v.txs ∷ map (λ z. z.txs) old = m in cc in
    let more : map (λ z. z.txs) new ≡ map (λ z. z.txs) old = let z : w.txs ∷ map (λ z. z.txs) new ≡ v.txs ∷ map (λ z. z.txs) old = m in cc in
    All-cons MayRun w new (record {
      ready = All-head IsLaneReady w new r;
      limits = subst (λ t. All IsCompact t) (sym c) (All-head (λ z. All IsCompact z.txs) v old a);
    })
    (may_run old new more (All-tail (λ z. All IsCompact z.txs) v old a) (All-tail IsLaneReady w new r))

-- a lane that was made ready first ended as the lane that it was before
ended_anew : (K : Shape) (lane : ℕ) (log : Sight) (shards : ℕ → Sight) (log' : Sight) (shards' : ℕ → Sight) (old mid new : LaneOf) → IsLaneReady mid
    → LaneHasEnded K lane log shards log' shards' mid new → LaneHasEnded K lane log shards log' shards' old new
ended_anew K lane log shards log' shards' old mid new ready (inl (d, (none, keeps))) = inl (d, (none, λ z b. keeps ready.decided ready.batches))
ended_anew K lane log shards log' shards' old mid new ready (inr (e, stopped, (some, by))) = inr (e, stopped, (some, λ f. by ready.fault))

lane_anew : (K : Shape) (logs shards : ℕ → Sight) (log_hands shard_hands : ℕ → List Hand) (lane : ℕ) (old mid new : LaneOf) → IsLaneReady mid
    → mid.txs ≡ old.txs → LaneRan K logs shards log_hands shard_hands lane mid new → LaneRan K logs shards log_hands shard_hands lane old new
lane_anew K logs shards log_hands shard_hands lane old mid new ready txs r = record {
  log = r.log;
  seen = r.seen;
  log' = r.log';
  seen' = r.seen';
  settled = r.settled;
  at_log = r.at_log;
  at_shard = r.at_shard;
  beyond = r.beyond;
  txs = r.txs ∙ txs;
  ended = ended_anew K lane r.log r.seen r.log' r.seen' old mid new ready r.ended;
}

pub wave_anew : (K : Shape) (logs shards logs' shards' : ℕ → Sight) (old mid new : List LaneOf) → map (λ z. z.txs) mid ≡ map (λ z. z.txs) old
    → All IsLaneReady mid → WaveRan K logs shards logs' shards' mid new → WaveRan K logs shards logs' shards' old new
wave_anew K logs shards logs' shards' old mid new same ready w = record {
  log_lanes = w.log_lanes;
  log_hands = w.log_hands;
  shard_lanes = w.shard_lanes;
  shard_hands = w.shard_hands;
  log_ran = w.log_ran;
  shard_ran = w.shard_ran;
  log_drawn = w.log_drawn;
  shard_drawn = w.shard_drawn;
  count = w.count ∙ same_many old mid same;
  lanes = λ lane x y e f.
      let lt = get_within old lane x e in
      let many = same_many old mid same in
      let m = get_there mid lane (omega (arith, lt, many)) in
      lane_anew K logs shards w.log_hands w.shard_hands lane x m.0 y (get_all IsLaneReady mid lane m.0 ready m.1)
      (same_txs old mid lane x m.0 same e m.1) (w.lanes lane m.0 y m.1 f);
}
