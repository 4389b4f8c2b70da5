-- Where memory is wanting for the lanes of a wave: all seats are as they were, and no lane ran.
use Rattle.std.proofs.Common.{◌≡◌, ℕ, zero, suc, ◌+◌, ◌*◌, ◌%◌, ◌<◌, ◌≤◌, List, [], ◌∷◌, map, length, Some, refl, sym, ap, ◌∙◌, subst, arith}
use Rattle.std.specs.Prelude.{All, slice_get}
use Rattle.std.specs.Global.{Vec}
use Rattle.std.proofs.lemmas.Nat.{mul-le, div_below, mod_below, div-add-mod'}
use Rattle.cbdc_model.specs.Records.{Shape}
use Rattle.cbdc_model.specs.Ranges.{home_of}
use Rattle.cbdc_model.specs.Sights.{Sight}
use Rattle.ledger_runs.specs.Lanes.{LaneOf}
use Rattle.node_lock.specs.declared.lock.Guarded.{Guarded}
use Rattle.node_lock.specs.declared.seat.Seat.{Seat}
use Rattle.node_lock.specs.Seats.{TableId, AreFresh, opening_of, table_of}
use Rattle.node_lock.specs.Tickets.{fresh}
use Rattle.node_ports.specs.Nodes.{sight_at}
use Rattle.port_sets.specs.Nodes.{shard_sight, log_sight}
use Rattle.port_sets.specs.declared.coordinators.SharedLog.{SharedLog}
use Rattle.port_sets.specs.declared.locking.SharedShard.{SharedShard}
use Rattle.thread_laws.specs.Closing.{IsHand}
use Rattle.lane_waves.specs.NodeRows.{HaveAllSeats, AreLeft, lanes_of}
use Rattle.lane_waves.proofs.Locking.{fresh_at}
use Rattle.lane_waves.specs.Among.{hands_at}
use Rattle.lane_waves.specs.Places.{AllFrom}
use Rattle.lane_waves.specs.Rows.{lanes_from, home_lanes, all_lanes}
use Rattle.lane_waves.specs.Lanes.{HasStoppedForMemory}
use Rattle.lane_waves.specs.Deals.{AreLocksOpen, log_at, shard_at, IsHomeFresh}
use Rattle.lane_waves.specs.Waves.{AreThrough}
use Rattle.lane_waves.proofs.Places.{all_here, get_within, get_all}
use Rattle.lane_waves.proofs.Numbers.{many_lanes}
use Rattle.lane_waves.proofs.Opening.{map_many}
use Rattle.lane_waves.proofs.Ending.{past_end}
use Rattle.lane_waves.proofs.Unrun.{unrun, fresh_hand, same_txs}

module _ {N : Type 0} (sight : N → Sight) where
  -- each lock has all its seats
  left_ready : (ls : List ℕ) (k : ℕ) (hs : List (Guarded N)) (rows : List (Vec (Seat N))) → 0 < length ls → AllFrom (λ s h. lanes_of h ≡ ls) k hs
      → AreLeft sight ls hs rows → HaveAllSeats hs rows
  left_ready ls k [] [] some a l = tt
  left_ready ls k [] (r ∷ rows) some a l = absurd l
  left_ready ls k (h ∷ hs) [] some a l = absurd l
  left_ready ls k (h ∷ hs) (r ∷ rows) some a l =
      let f = fresh_at sight (sight (opening_of h)) (opening_of h) h ls r.items l.0 in
      let many : length r.items ≡ length ls = f.1 in (
        record { ready = (f.0, many ∙ sym (ap (λ (xs : List ℕ). length xs) a.0), omega (arith, many, some)) },
        left_ready ls (suc k) hs rows some a.1 l.1,
      )

  left_hands : (ls : List ℕ) (hs : List (Guarded N)) (rows : List (Vec (Seat N))) (s : ℕ) → s < length hs → AreLeft sight ls hs rows
      → hands_at rows s ≡ map (fresh (sight_at (λ h. sight (opening_of h)) hs s)) ls
  left_hands ls [] rows s lt l = absurd (let z : s < 0 = lt in omega (arith, z))
  left_hands ls (h ∷ hs) [] s lt l = absurd l
  left_hands ls (h ∷ hs) (r ∷ rows) zero lt l = (fresh_at sight (sight (opening_of h)) (opening_of h) h ls r.items l.0).2
  left_hands ls (h ∷ hs) (r ∷ rows) (suc s) lt l = left_hands ls hs rows s (omega (arith, lt)) l.1

  -- each lock with its seats, which are those of its lanes
  abbrev Fresh : (ℕ → List ℕ) → List (Guarded N) → List (Vec (Seat N)) → Type 0
  Fresh lanes gs rows = (i : ℕ) (g : Guarded N) (r : Vec (Seat N)) → slice_get gs i ≡ Some g → slice_get rows i ≡ Some r
      → AreFresh (sight (opening_of g)) (opening_of g) (table_of g) (lanes i) r.items

  fresh_ready : (lanes : ℕ → List ℕ) (k : ℕ) (gs : List (Guarded N)) (rows : List (Vec (Seat N))) → length rows ≡ length gs
      → ((i : ℕ) → 0 < length (lanes i)) → AllFrom (λ i g. lanes_of g ≡ lanes i) k gs
      → Fresh (λ i. lanes (k + i)) gs rows → HaveAllSeats gs rows
  fresh_ready lanes k [] [] e some a f = tt
  fresh_ready lanes k [] (r ∷ rows) e some a f = absurd (let z = e in omega (arith, z))
  fresh_ready lanes k (g ∷ gs) [] e some a f = absurd (let z = e in omega (arith, z))
  fresh_ready lanes k (g ∷ gs) (r ∷ rows) e some a f =
      let none : k + 0 ≡ k = omega arith in
      let here : AreFresh (sight (opening_of g)) (opening_of g) (table_of g) (lanes k) r.items =
      subst (λ i. AreFresh (sight (opening_of g)) (opening_of g) (table_of g) (lanes i) r.items) none (f 0 g r refl refl) in
      let m = fresh_at sight (sight (opening_of g)) (opening_of g) g (lanes k) r.items here in
      let many : length r.items ≡ length (lanes k) = m.1 in
      let any = some k in (
        record { ready = (m.0, many ∙ sym (ap (λ (xs : List ℕ). length xs) a.0), omega (arith, many, any)) },
        fresh_ready lanes (suc k) gs rows (let z = e in omega (arith, z)) some a.1
            (λ i h s at there. let more : k + suc i ≡ suc k + i = omega arith in
            subst (λ j. AreFresh (sight (opening_of h)) (opening_of h) (table_of h) (lanes j) s.items) more (f (suc i) h s at there)),
      )

  fresh_hands : (lanes : ℕ → List ℕ) (k : ℕ) (gs : List (Guarded N)) (rows : List (Vec (Seat N))) (i : ℕ) → length rows ≡ length gs → i < length gs
      → Fresh (λ j. lanes (k + j)) gs rows → hands_at rows i ≡ map (fresh (sight_at (λ h. sight (opening_of h)) gs i)) (lanes (k + i))
  fresh_hands lanes k [] rows i e lt f = absurd (let z : i < 0 = lt in omega (arith, z))
  fresh_hands lanes k (g ∷ gs) [] i e lt f = absurd (let z = e in omega (arith, z))
  fresh_hands lanes k (g ∷ gs) (r ∷ rows) zero e lt f =
      (fresh_at sight (sight (opening_of g)) (opening_of g) g (lanes (k + 0)) r.items (f 0 g r refl refl)).2
  fresh_hands lanes k (g ∷ gs) (r ∷ rows) (suc i) e lt f =
      let more : suc k + i ≡ k + suc i = omega arith in
      subst (λ j. hands_at rows i ≡ map (fresh (sight_at (λ h. sight (opening_of h)) gs i)) (lanes j)) more
      (fresh_hands lanes (suc k) gs rows i (let z = e in omega (arith, z)) (omega (arith, lt))
      (λ j h s at there. let next : k + suc j ≡ suc k + j = omega arith in
      subst (λ n. AreFresh (sight (opening_of h)) (opening_of h) (table_of h) (lanes n) s.items) next (f (suc j) h s at there)))

module _ {D S : Type 0} (sight : S → Sight) (tables : ℕ → TableId) (K : Shape) (gs : List (Guarded (SharedLog D)))
    (hs : List (Guarded (SharedShard S))) (open_ : AreLocksOpen sight tables K gs hs) where
  homes_so : (homes : List (Vec (Seat (SharedLog D)))) → AllFrom (IsHomeFresh K gs) 0 homes → Fresh log_sight (λ i. home_lanes K (0 + i)) gs homes
  homes_so homes a i g r at there =
      let m = all_here (IsHomeFresh K gs) homes i r a there in
      let none : i ≡ 0 + i = omega arith in
      subst (λ j. AreFresh (log_sight (opening_of g)) (opening_of g) (table_of g) (home_lanes K j) r.items) none
      (subst (λ n. AreFresh (log_sight (opening_of g)) (opening_of g) (table_of g) (lanes_from (i * K.lanes) n) r.items) m.0 (m.1 g at))

  -- its coordinator's seat of a lane, as it was made
  home_hand : (homes : List (Vec (Seat (SharedLog D)))) (lane : ℕ) → length homes ≡ K.coordinators → AllFrom (IsHomeFresh K gs) 0 homes
      → lane < K.coordinators * K.lanes
      → IsHand (fresh (log_at gs (home_of K lane)) lane) (hands_at homes (home_of K lane))
  home_hand homes lane many a lt =
      let home = home_of K lane in
      let low : home < K.coordinators = div_below lane K.lanes K.coordinators open_.limits.some_lane lt in
      let here : 0 + home ≡ home = omega arith in
      let known = fresh_hands log_sight (home_lanes K) 0 gs homes home (many ∙ sym open_.logs_many) (subst (λ n. home < n) (sym open_.logs_many) low)
      (homes_so homes a) in
      subst (λ l. IsHand (fresh (log_at gs home) l) (hands_at homes home)) (div-add-mod' lane K.lanes)
      (subst (IsHand (fresh (log_at gs home) (home * K.lanes + lane % K.lanes)))
      (sym (known ∙ ap (λ h. map (fresh (log_at gs home)) (home_lanes K h)) here))
      (fresh_hand (log_at gs home) (home * K.lanes) K.lanes (lane % K.lanes) (mod_below lane K.lanes open_.limits.some_lane)))

  -- its seat of a shard
  shard_hand : (rows : List (Vec (Seat (SharedShard S)))) (lane s : ℕ) → AreLeft (shard_sight sight) (all_lanes K) hs rows
      → lane < K.coordinators * K.lanes → s < K.shards
      → IsHand (fresh (shard_at sight hs s) lane) (hands_at rows s)
  shard_hand rows lane s left lt low =
      let first : Sight = shard_at sight hs s in
      let known = left_hands (shard_sight sight) (all_lanes K) hs rows s (subst (λ n. s < n) (sym open_.shards_many) low) left in
      let none : 0 + lane ≡ lane = omega arith in
      subst (IsHand (fresh first lane)) (sym known)
      (subst (λ l. IsHand (fresh first l) (map (fresh first) (all_lanes K))) none (fresh_hand first 0 (K.coordinators * K.lanes) lane lt))

  -- no lane ran, and all seats are as they were
  pub not_run : (homes : List (Vec (Seat (SharedLog D)))) (rows : List (Vec (Seat (SharedShard S)))) (lanes lanes' : List LaneOf)
      → AllFrom (IsHomeFresh K gs) 0 homes → length homes ≡ K.coordinators → AreLeft (shard_sight sight) (all_lanes K) hs rows
      → length lanes ≡ K.coordinators * K.lanes
      → map (λ (x : LaneOf). x.txs) lanes' ≡ map (λ (x : LaneOf). x.txs) lanes → All HasStoppedForMemory lanes'
      → AreThrough sight K gs hs homes rows lanes lanes'
  not_run homes rows lanes lanes' a homes_many left lanes_many same stopped =
      let one = mul-le 1 1 K.coordinators K.lanes open_.limits.some_coordinator open_.limits.some_lane in
      let all = many_lanes 0 (K.coordinators * K.lanes) in
      record {
        homes_ready = fresh_ready log_sight (home_lanes K) 0 gs homes (homes_many ∙ sym open_.logs_many)
            (λ i. subst (λ n. 0 < n) (sym (many_lanes (i * K.lanes) K.lanes)) open_.limits.some_lane) open_.log_lanes (homes_so homes a);
        rows_ready = left_ready (shard_sight sight) (all_lanes K) 0 hs rows (omega (arith, one, all)) open_.shard_lanes left;
        many = sym (map_many (λ (x : LaneOf). x.txs) lanes') ∙ (ap (λ (xs : List _). length xs) same ∙ map_many (λ (x : LaneOf). x.txs) lanes);
        lanes_ran = λ lane x y e f.
            let lt : lane < K.coordinators * K.lanes = subst (λ n. lane < n) lanes_many (get_within lanes lane x e) in
            unrun K (log_at gs) (shard_at sight hs) (hands_at homes) (hands_at rows) lane x y (open_.settled lane lt)
            (home_hand homes lane homes_many a lt)
            (λ s low. shard_hand rows lane s left lt low)
            (λ s le. past_end (λ h. shard_sight sight (opening_of h)) hs s (subst (λ n. n ≤ s) (sym open_.shards_many) le))
            (same_txs lanes lanes' lane x y same e f) (get_all HasStoppedForMemory lanes' lane y stopped f);
      }
