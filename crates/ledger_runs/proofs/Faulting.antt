-- The cause of a lane's fault stays while other lanes go on.
use Rattle.std.proofs.Common.{◌≡◌, ◌≢◌, inl, inr, true, ℕ, suc, ◌+◌, ◌<◌, ◌≤◌, le_trans, List, refl, sym, ap, ◌∙◌, subst, arith}
use Rattle.std.specs.Prelude.{is_some}
use Rattle.cbdc_model.specs.Records.{Shape, Batch, Compact, Record, record_of}
use Rattle.cbdc_model.specs.Slots.{slot}
use Rattle.cbdc_model.specs.Ranges.{home_of, shard_node}
use Rattle.cbdc_model.specs.Lanes.{IsEnd}
use Rattle.cbdc_model.specs.Sights.{HasRisen}
use Rattle.ledger_laws.proofs.Cuts.{end_self, end_trans}
use Rattle.run_laws.specs.Faults.{awaited, HasHeard, IsAsked, asks_prepare, asks_log, asks_shard}
use Rattle.lane_driver.specs.declared.fault.LaneFault.{LaneFault}
use Rattle.lane_driver.specs.declared.fault.LaneFaultKind.{LaneFaultKind}
use Rattle.lane_driver.specs.declared.fault.LaneFaultKind.TheVariants.{DiskFault as DiskStopped, Full as NoRoom, ClockEnd as NoStamp}
use Rattle.lane_driver.specs.declared.fault.LaneFaultKind.TheVariants.{Memory as NoMemory}
use Rattle.ledger_runs.specs.Turning.{IsLaneOf}
use Rattle.ledger_runs.specs.Faults.{GrowBy, TookLanes, TakesInOrder, IsWanted, wants_prepare, wants_lock, HasNoDiskFor, LacksLock, IsBeforeLocks}
use Rattle.ledger_runs.specs.Faults.{IsCauseOf, IsLaneCause, IsSomeCauseOf, IsRunCause, HaveFailed, MayHoldBytes, LaneRests}
use Rattle.ledger_runs.proofs.Others.{slot_same, record_same}

-- ---- what a lane wants, while another goes on

pub wanted_stays : (lane other : ℕ) → other ≢ lane → (J X : ℕ → List Record) → GrowBy other J X → (K : Shape) (next due : List Compact → Type 0)
    → ((txs : List Compact) → next txs → due txs)
    → (node : ℕ) (front : List Record) (r : Record) → IsWanted K lane next J node front r → IsWanted K lane due X node front r
wanted_stays lane other apart J X grown K next due on node front r (wants_prepare txs is at idle e) =
    wants_prepare txs (on txs is) at (ap (λ s. s.phase) (slot_same lane other apart J X grown (home_of K lane)) ∙ idle) e
wanted_stays lane other apart J X grown K next due on node front r (wants_lock b t txs s is at concerned phase stands have behind e) =
    wants_lock b t txs s is at concerned (ap (λ s. s.phase) (slot_same lane other apart J X grown (home_of K lane)) ∙ phase)
    (record_same lane other apart J X grown 6 (home_of K lane) b is ∙ stands)
    (λ k lt c. ap is_some (record_same lane other apart J X grown 2 (shard_node K k) b is) ∙ have k lt c)
    (subst (λ s. s.number < b.number) (sym (slot_same lane other apart J X grown node)) behind) e

-- what a lane has heard, while another goes on
heard_stays : (lane other : ℕ) → other ≢ lane → (J X : ℕ → List Record) → GrowBy other J X → (K : Shape) (b : Batch) (txs : List Compact) (n : ℕ)
    → HasHeard K lane J b txs n → HasHeard K lane X b txs n
heard_stays lane other apart J X grown K b txs n h = record {
  of_lane = h.of_lane;
  number = ap (λ s. s.number) same ∙ h.number;
  busy = λ i. h.busy (sym (ap (λ s. s.phase) same) ∙ i);
  stamp = h.stamp;
  prepare = record_same lane other apart J X grown 6 (home_of K lane) b h.of_lane ∙ h.prepare;
  heard = λ k lt c. subst (λ s. is_some (record_of (awaited s.phase) (X (shard_node K k)) b) ≡ true) (sym same)
      (ap is_some (record_same lane other apart J X grown (awaited (slot (J (home_of K lane)) lane).phase) (shard_node K k) b h.of_lane)
      ∙ h.heard k lt c);
}
  where
    same : slot (X (home_of K lane)) lane ≡ slot (J (home_of K lane)) lane
    same = slot_same lane other apart J X grown (home_of K lane)

-- whom a lane asks, while another goes on
pub asked_stays : (lane other : ℕ) → other ≢ lane → (J X : ℕ → List Record) → GrowBy other J X → (K : Shape) (next due : List Compact → Type 0)
    → ((txs : List Compact) → next txs → due txs)
    → (node : ℕ) → IsAsked K lane next J node → IsAsked K lane due X node
asked_stays lane other apart J X grown K next due on node (asks_prepare txs is at idle) =
    asks_prepare txs (on txs is) at (ap (λ s. s.phase) (slot_same lane other apart J X grown (home_of K lane)) ∙ idle)
asked_stays lane other apart J X grown K next due on node (asks_log b txs at heard) =
    asks_log b txs at (heard_stays lane other apart J X grown K b txs K.shards heard)
asked_stays lane other apart J X grown K next due on node (asks_shard b txs s at concerned heard) =
    asks_shard b txs s at concerned (heard_stays lane other apart J X grown K b txs s heard)

-- a batch that lacks a Lock lacks it while another goes on
lacks_stays : (lane other : ℕ) → other ≢ lane → (J X : ℕ → List Record) → GrowBy other J X → (K : Shape) → LacksLock K lane J → LacksLock K lane X
lacks_stays lane other apart J X grown K h = record {
  batch = h.batch;
  of_lane = h.of_lane;
  stamp = h.stamp;
  txs = h.txs;
  phase = ap (λ s. s.phase) (slot_same lane other apart J X grown (home_of K lane)) ∙ h.phase;
  prepare = record_same lane other apart J X grown 6 (home_of K lane) h.batch h.of_lane ∙ h.prepare;
  shard = h.shard;
  concerned = h.concerned;
  lacks = subst (λ s. s.number < h.batch.number) (sym (slot_same lane other apart J X grown (shard_node K h.shard))) h.lacks;
}

pub before_locks_stay : (lane other : ℕ) → other ≢ lane → (J X : ℕ → List Record) → GrowBy other J X → (K : Shape) → IsBeforeLocks K lane J
    → IsBeforeLocks K lane X
before_locks_stay lane other apart J X grown K (inl idle) = inl (ap (λ s. s.phase) (slot_same lane other apart J X grown (home_of K lane)) ∙ idle)
before_locks_stay lane other apart J X grown K (inr lacks) = inr (lacks_stays lane other apart J X grown K lacks)

-- ---- a cause by later journals, or by an earlier entry

module _ (K : Shape) (lane : ℕ) (next due : List Compact → Type 0) (E F J X : ℕ → List Record) (failed fails : ℕ → Type 0)
    (holds held : ℕ → ℕ → Type 0)
    (before : (n : ℕ) → IsEnd (F n) (E n)) (grows : (n : ℕ) → IsEnd (J n) (X n)) (slot_on : (n : ℕ) → slot (X n) lane ≡ slot (J n) lane)
    (wanted_on : (node : ℕ) (front : List Record) (r : Record) → IsWanted K lane next J node front r → IsWanted K lane due X node front r)
    (asked_on : (node : ℕ) → IsAsked K lane next J node → IsAsked K lane due X node) (before_on : IsBeforeLocks K lane J → IsBeforeLocks K lane X)
    (failed_on : (n : ℕ) → failed n → fails n) (held_on : (n c : ℕ) → holds n c → held n c) where
  pub cause_moves : (node : ℕ) (kind : LaneFaultKind) → IsCauseOf K lane next E J failed holds node kind
      → IsCauseOf K lane due F X fails held node kind
  cause_moves node DiskStopped h = record { inside = h.inside; asked = asked_on node h.asked; did = failed_on node h.did }
  cause_moves node (NoRoom used need capacity) h = record {
    front = h.front;
    since = end_trans (F node) (E node) h.front (before node) h.since;
    within = end_trans h.front (J node) (X node) h.within (grows node);
    still = h.still ∙ sym (slot_on node);
    wanted = h.wanted;
    is_wanted = wanted_on node h.front h.wanted h.is_wanted;
    early = h.early;
    capacity_is = held_on node capacity h.capacity_is;
    used_is = h.used_is;
    need_is = h.need_is;
    above = h.above;
  }
  cause_moves node (NoStamp stamp) h = record {
    front = h.front;
    since = end_trans (F node) (E node) h.front (before node) h.since;
    within = end_trans h.front (J node) (X node) h.within (grows node);
    still = h.still ∙ sym (slot_on node);
    wanted = h.wanted;
    is_wanted = wanted_on node h.front h.wanted h.is_wanted;
    stamp_is = h.stamp_is;
    above = h.above;
  }
  cause_moves node NoMemory h = before_on h

wanted_by : (K : Shape) (lane : ℕ) (next due : List Compact → Type 0) (X : ℕ → List Record) → ((txs : List Compact) → next txs → due txs)
    → (node : ℕ) (front : List Record) (r : Record)
    → IsWanted K lane next X node front r → IsWanted K lane due X node front r
wanted_by K lane next due X on node front r (wants_prepare txs is at idle e) = wants_prepare txs (on txs is) at idle e
wanted_by K lane next due X on node front r (wants_lock b t txs s is at concerned phase stands have behind e) =
    wants_lock b t txs s is at concerned phase stands have behind e

asked_by : (K : Shape) (lane : ℕ) (next due : List Compact → Type 0) (X : ℕ → List Record) → ((txs : List Compact) → next txs → due txs) → (node : ℕ)
    → IsAsked K lane next X node → IsAsked K lane due X node
asked_by K lane next due X on node (asks_prepare txs is at idle) = asks_prepare txs (on txs is) at idle
asked_by K lane next due X on node (asks_log b txs at heard) = asks_log b txs at heard
asked_by K lane next due X on node (asks_shard b txs s at concerned heard) = asks_shard b txs s at concerned heard

-- a disk that has failed has failed later too
pub risen_later : (opened faults opens later : ℕ → ℕ) → ((n : ℕ) → opens n ≡ opened n) → ((n : ℕ) → faults n ≤ later n) → (n : ℕ)
    → HaveFailed opened faults n → HaveFailed opens later n
risen_later opened faults opens later same le n risen = subst (λ o. HasRisen o (later n)) (sym (same n)) (le_trans risen (le n))

pub holds_later : (capacity now : ℕ → ℕ) → ((n : ℕ) → now n ≡ capacity n) → (n c : ℕ) → MayHoldBytes capacity n c → MayHoldBytes now n c
holds_later capacity now same n c is = is ∙ sym (same n)

-- from an earlier entry
pub cause_since : (K : Shape) (lane : ℕ) (next due : List Compact → Type 0) (E F X : ℕ → List Record) (failed : ℕ → Type 0) (holds : ℕ → ℕ → Type 0)
    → ((n : ℕ) → IsEnd (F n) (E n))
    → ((txs : List Compact) → next txs → due txs) → (e : LaneFault) → IsLaneCause K lane next E X failed holds e
    → IsLaneCause K lane due F X failed holds e
cause_since K lane next due E F X failed holds before on e h =
    cause_moves K lane next due E F X X failed failed holds holds before (λ n. end_self (X n)) (λ n. refl) (wanted_by K lane next due X on)
    (asked_by K lane next due X on) (λ short. short) (λ n did. did) (λ n c is. is) e.node e.fault h

-- a fault of a lane is one of the run
pub cause_any : (K : Shape) (lane : ℕ) (next : ℕ → List Compact → Type 0) (E X : ℕ → List Record) (failed : ℕ → Type 0) (holds : ℕ → ℕ → Type 0)
    → IsLaneOf K lane
    → (e : LaneFault) → IsLaneCause K lane (next lane) E X failed holds e → IsRunCause K next E X failed holds e
cause_any K lane next E X failed holds inside e h = go e.fault h
  where
    go : (kind : LaneFaultKind) → IsCauseOf K lane (next lane) E X failed holds e.node kind → IsSomeCauseOf K next E X failed holds e.node kind
    go DiskStopped cause = (lane, inside, cause)
    go (NoRoom used need capacity) cause = (lane, inside, cause)
    go (NoStamp stamp) cause = (lane, inside, cause)
    go NoMemory cause = tt

-- a run's fault, from an earlier entry and by later counts
pub run_moves : (K : Shape) (next due : ℕ → List Compact → Type 0) (E F X : ℕ → List Record) (failed fails : ℕ → Type 0)
    (holds held : ℕ → ℕ → Type 0) → ((n : ℕ) → IsEnd (F n) (E n))
    → ((lane : ℕ) (txs : List Compact) → IsLaneOf K lane → next lane txs → due lane txs) → ((n : ℕ) → failed n → fails n)
    → ((n c : ℕ) → holds n c → held n c)
    → (e : LaneFault) → IsRunCause K next E X failed holds e → IsRunCause K due F X fails held e
run_moves K next due E F X failed fails holds held before on failed_on held_on e h = go e.fault h
  where
    moves : (lane : ℕ) → IsLaneOf K lane → (kind : LaneFaultKind) → IsCauseOf K lane (next lane) E X failed holds e.node kind
        → IsCauseOf K lane (due lane) F X fails held e.node kind
    moves lane inside = cause_moves K lane (next lane) (due lane) E F X X failed fails holds held before (λ n. end_self (X n)) (λ n. refl)
        (wanted_by K lane (next lane) (due lane) X (λ txs n. on lane txs inside n))
        (asked_by K lane (next lane) (due lane) X (λ txs n. on lane txs inside n)) (λ short. short) failed_on held_on e.node

    go : (kind : LaneFaultKind) → IsSomeCauseOf K next E X failed holds e.node kind → IsSomeCauseOf K due F X fails held e.node kind
    go DiskStopped (lane, inside, cause) = (lane, inside, moves lane inside DiskStopped cause)
    go (NoRoom used need capacity) (lane, inside, cause) = (lane, inside, moves lane inside (NoRoom used need capacity) cause)
    go (NoStamp stamp) (lane, inside, cause) = (lane, inside, moves lane inside (NoStamp stamp) cause)
    go NoMemory cause = tt

-- a lane that has a fault with its cause rests
pub rests_by : (K : Shape) (lane : ℕ) (next : List Compact → Type 0) (E X : ℕ → List Record) (failed : ℕ → Type 0) (holds : ℕ → ℕ → Type 0)
    (e : LaneFault) → IsLaneCause K lane next E X failed holds e → LaneRests K lane X failed
rests_by K lane next E X failed holds e cause = go e.fault cause
  where
    wants : (node : ℕ) (front : List Record) (r : Record) → IsWanted K lane next X node front r → IsBeforeLocks K lane X
    wants node front r (wants_prepare txs is at idle e) = inl idle
    wants node front r (wants_lock b t txs s is at concerned phase stands have behind e) =
        inr (record {
          batch = b;
          of_lane = is;
          stamp = t;
          txs = txs;
          phase = phase;
          prepare = stands;
          shard = s;
          concerned = concerned;
          lacks = subst (λ n. (slot (X n) lane).number < b.number) at behind;
        })

    asks : (h : HasNoDiskFor K lane next X failed e.node) → IsAsked K lane next X e.node → LaneRests K lane X failed
    asks h (asks_prepare txs is at idle) = inl (inl idle)
    asks h (asks_log b txs at heard) = inr (e.node, record { inside = h.inside; asked = asks_log b txs at heard; did = h.did })
    asks h (asks_shard b txs s at concerned heard) =
        inr (e.node, record { inside = h.inside; asked = asks_shard b txs s at concerned heard; did = h.did })

    go : (kind : LaneFaultKind) → IsCauseOf K lane next E X failed holds e.node kind → LaneRests K lane X failed
    go DiskStopped h = asks h h.asked
    go (NoRoom used need capacity) h = inl (wants e.node h.front h.wanted h.is_wanted)
    go (NoStamp stamp) h = inl (wants e.node h.front h.wanted h.is_wanted)
    go NoMemory h = inl h

pub grown_end : (lane : ℕ) (I J : ℕ → List Record) → GrowBy lane I J → (n : ℕ) → IsEnd (I n) (J n)
grown_end lane I J grown n = ((grown n).0, (grown n).1)

-- lanes that were taken up, and one more
pub none_taken : (K : Shape) (E : ℕ → List Record) → TakesInOrder K E E
none_taken K E = (0, omega arith, λ n. refl)

pub one_more : (lane : ℕ) (E J L : ℕ → List Record) → TookLanes lane E J → GrowBy lane J L → TookLanes (lane + 1) E L
one_more lane E J L took grown = subst (λ n. TookLanes n E L) (let e : suc lane ≡ lane + 1 = omega arith in e) (J, took, grown)

-- ---- the lanes of a wave
