-- Where memory was wanting before the first call: each node's lock says that nothing was done, and each lane has stopped for it.
use Rattle.std.proofs.Common.{◌≡◌, inl, inr, ℕ, zero, suc, ◌+◌, ◌<◌, ◌≤◌, Bool, true, false, eqb, List, [], ◌∷◌, ◌++◌, map, Some, None, refl, sym, ap}
use Rattle.std.proofs.Common.{◌∙◌, subst, arith}
use Rattle.std.specs.Prelude.{slice_get}
use Rattle.cbdc_model.specs.Records.{Shape}
use Rattle.cbdc_model.specs.Ranges.{home_of}
use Rattle.cbdc_model.specs.Sights.{Sight}
use Rattle.lane_driver.specs.Stops.{IsLaneSettled}
use Rattle.ledger_runs.specs.Lanes.{LaneOf}
use Rattle.node_lock.specs.declared.views.Hand.{Hand}
use Rattle.node_lock.specs.Tickets.{times, total, hand_at_lane, fresh, AllHands}
use Rattle.node_ports.specs.Nodes.{no_sight}
use Rattle.thread_laws.specs.Closing.{IsHand}
use Rattle.thread_laws.specs.Running.{NodeRan, LaneRan, IsStillSight}
use Rattle.thread_laws.specs.Whole.{no_memory}
use Rattle.lane_waves.specs.Lanes.{HasStoppedForMemory}
use Rattle.lane_waves.specs.Rows.{lanes_from}
use Rattle.lane_waves.specs.Deals.{started}
use Rattle.lane_waves.proofs.Seating.{settled_like}

pub hand_last : (first : Sight) (x : ℕ) (ls : List ℕ) → IsHand (fresh first x) (map (fresh first) (ls ++ x ∷ []))
hand_last first x [] = inl refl
hand_last first x (l ∷ ls) = inr (hand_last first x ls)

hand_more : (h : Hand) (first : Sight) (x : ℕ) (ls : List ℕ) → IsHand h (map (fresh first) ls) → IsHand h (map (fresh first) (ls ++ x ∷ []))
hand_more h first x [] k = absurd k
hand_more h first x (l ∷ ls) (inl e) = inl e
hand_more h first x (l ∷ ls) (inr k) = inr (hand_more h first x ls k)

-- each lane of a row has its fresh hand
pub fresh_hand : (first : Sight) (from n j : ℕ) → j < n → IsHand (fresh first (from + j)) (map (fresh first) (lanes_from from n))
fresh_hand first from zero j lt = absurd (let z : j < 0 = lt in omega (arith, z))
fresh_hand first from (suc n) j lt = go (eqb j n) refl (fresh_hand first from n j)
  where
    go : (b : Bool) → eqb j n ≡ b → (j < n → IsHand (fresh first (from + j)) (map (fresh first) (lanes_from from n)))
        → IsHand (fresh first (from + j)) (map (fresh first) (lanes_from from n ++ (from + n) ∷ []))
    go true e before = let same : from + n ≡ from + j = grind (arith, e) in
        subst (λ x. IsHand (fresh first (from + j)) (map (fresh first) (lanes_from from n ++ x ∷ []))) (sym same)
        (hand_last first (from + j) (lanes_from from n))
    go false e before = let less : j < n = grind (arith, e, lt) in
        hand_more (fresh first (from + j)) first (from + n) (lanes_from from n) (before less)

-- nothing was done at a node whose lock has only fresh hands
covered : (first : Sight) (x : ℕ) (ls : List ℕ) → total (hand_at_lane x) (map (fresh first) ls) ≡ times x ls
covered first x [] = refl
covered first x (l ∷ ls) = let e = covered first x ls in omega (arith, e)

hands_fresh : (first last : Sight) (ls : List ℕ) → first.faults ≤ last.faults → AllHands first.seen [] last.flight last.faults (map (fresh first) ls)
hands_fresh first last [] later = tt
hands_fresh first last (l ∷ ls) later = (
  record {
    front = [];
    rest = [];
    seen_is = refl;
    log_is = refl;
    made_is = refl;
    own = refl;
    below = later;
    stuck = λ r e. absurd (let z : None ≡ Some r = e in cc);
  },
  hands_fresh first last ls later,
)

pub still_ran : (first last : Sight) (ls : List ℕ) → ((x : ℕ) → times x ls ≤ 1) → IsStillSight first last
    → NodeRan first ls (map (fresh first) ls) last
still_ran first last ls apart still = record {
  apart = apart;
  done = record {
    log = [];
    list = still.seen;
    drawn = tt;
    cover = λ x. covered first x ls;
    hands = hands_fresh first last ls still.later;
    flight = elim still.flight [ inl e ↦ inl e | inr e ↦ inr (inl (e, refl)) ];
  };
  same = still.same;
}

-- a lane that was not run
pub unrun : (K : Shape) (logs shards : ℕ → Sight) (log_hands shard_hands : ℕ → List Hand) (lane : ℕ) (x y : LaneOf)
    → IsLaneSettled K lane (logs (home_of K lane)) shards → IsHand (fresh (logs (home_of K lane)) lane) (log_hands (home_of K lane))
    → ((s : ℕ) → s < K.shards → IsHand (fresh (shards s) lane) (shard_hands s))
    → ((s : ℕ) → K.shards ≤ s → shards s ≡ no_sight) → y.txs ≡ x.txs → HasStoppedForMemory y → LaneRan K logs shards log_hands shard_hands lane x y
unrun K logs shards log_hands shard_hands lane x y settled at_home at_shards past txs stopped = record {
  log = started lane (logs (home_of K lane));
  seen = λ s. started lane (shards s);
  log' = started lane (logs (home_of K lane));
  seen' = λ s. started lane (shards s);
  settled = settled_like K lane (logs (home_of K lane)) (started lane (logs (home_of K lane))) shards (λ s. started lane (shards s)) refl refl
      (λ s. refl) settled;
  at_log = record { now = fresh (logs (home_of K lane)) lane; among = at_home; of_lane = refl; was = refl; is = refl; later = omega arith };
  at_shard = λ s lt. record { now = fresh (shards s) lane; among = at_shards s lt; of_lane = refl; was = refl; is = refl; later = omega arith };
  beyond = λ s le. (ap (λ (v : Sight). v.seen) (past s le), refl, ap (λ (v : Sight). v.seen) (past s le));
  txs = txs;
  ended = inr (no_memory, (λ k t. inl (refl, refl, refl)), ((λ none. let z : None ≡ Some no_memory = sym none ∙ stopped in cc), λ old. stopped));
}

-- lanes with the same transactions
pub same_txs : (xs ys : List LaneOf) (n : ℕ) (x y : LaneOf) → map (λ (z : LaneOf). z.txs) ys ≡ map (λ (z : LaneOf). z.txs) xs
    → slice_get xs n ≡ Some x → slice_get ys n ≡ Some y → y.txs ≡ x.txs
same_txs [] ys n x y e f h = absurd (let z : None ≡ Some x = f in cc)
same_txs (v ∷ xs) [] n x y e f h = absurd (let z : None ≡ Some y = h in cc)
same_txs (v ∷ xs) (w ∷ ys) zero x y e f h =
    let a : v ≡ x = let z : Some v ≡ Some x = f in cc in
    let b : w ≡ y = let z : Some w ≡ Some y = h in cc in
    let c : w.txs ≡ v.txs = let z : w.txs ∷ map (λ (u : LaneOf). u.txs) ys ≡ v.txs ∷ map (λ (u : LaneOf). u.txs) xs = e in cc in
    sym (ap (λ (z : LaneOf). z.txs) b) ∙ (c ∙ ap (λ (z : LaneOf). z.txs) a)
same_txs (v ∷ xs) (w ∷ ys) (suc n) x y e f h =
    let c : map (λ (u : LaneOf). u.txs) ys ≡ map (λ (u : LaneOf). u.txs) xs =
    let z : w.txs ∷ map (λ (u : LaneOf). u.txs) ys ≡ v.txs ∷ map (λ (u : LaneOf). u.txs) xs = e in cc in
    same_txs xs ys n x y c f h
