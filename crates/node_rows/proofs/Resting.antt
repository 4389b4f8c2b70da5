-- A lane that rests at its coordinator and at all shards is settled there.
use Rattle.std.proofs.Common.{◌≡◌, ℕ, zero, suc, ◌+◌, ◌*◌, ◌<◌, ◌≤◌, ◌==◌, Bool, true, false, ◌&&◌, if◌then◌else◌, List, [], ◌∷◌, length, None, refl}
use Rattle.std.proofs.Common.{sym, ap, subst, arith}
use Rattle.std.specs.Prelude.{All, get_or}
use Rattle.std.proofs.lemmas.List.Elements.{All-nil, All-head, All-tail}
use Rattle.cbdc_model.specs.Records.{Shape, Batch, Record, same_batch, kind_of, is_of, record_of, last_stamp, Genesis, Lock, Finish, Forget, Start}
use Rattle.cbdc_model.specs.Records.{Prepare, Commit, Discard, Done, Upgrade, Carry, CarryStart, Seal}
use Rattle.cbdc_model.specs.Ranges.{home_of}
use Rattle.cbdc_model.specs.Slots.{slot, slot_stamp, Idle}
use Rattle.cbdc_model.specs.Sights.{Sight}
use Rattle.lane_laws.specs.Batches.{Settled}
use Rattle.lane_driver.specs.Told.{IsLane, AreShardsOf}
use Rattle.lane_driver.specs.Stops.{IsLaneSettled}
use Rattle.node_journal.specs.Nodes.{NodeOf, sight}
use Rattle.node_ports.specs.Nodes.{sight_at}
use Rattle.node_rows.specs.Resting.{number_of_lane, AllRest, LogRests, MayRunOver}

-- ---- records of batches up to a number

another : (c b : Batch) (lane k : ℕ) → (if c.lane == lane then c.number else 0) ≤ k → b.lane ≡ lane → k < b.number → same_batch c b ≡ false
another c b lane k low same high = grind (arith, low, same, high)

not_of : (r : Record) (b : Batch) (lane k : ℕ) → number_of_lane lane r ≤ k → b.lane ≡ lane → k < b.number → is_of b r ≡ false
not_of (Genesis header hs) b lane k low same high = refl
not_of (Start header) b lane k low same high = refl
not_of (Lock stamp c es) b lane k low same high = another c b lane k low same high
not_of (Finish stamp c ds) b lane k low same high = another c b lane k low same high
not_of (Forget stamp c) b lane k low same high = another c b lane k low same high
not_of (Prepare stamp c txs) b lane k low same high = another c b lane k low same high
not_of (Commit stamp c os) b lane k low same high = another c b lane k low same high
not_of (Discard stamp c) b lane k low same high = another c b lane k low same high
not_of (Done stamp c) b lane k low same high = another c b lane k low same high
not_of (Upgrade stamp batch) b lane k low same high = refl
not_of (Carry stamp header source hs numbers) b lane k low same high = refl
not_of (CarryStart stamp header source numbers) b lane k low same high = refl
not_of (Seal stamp to shards) b lane k low same high = refl

never : (a : Bool) → (a && false) ≡ false
never true = refl
never false = refl

none_later : (kind lane k : ℕ) (J : List Record) (b : Batch) → All (λ r. number_of_lane lane r ≤ k) J → b.lane ≡ lane → k < b.number
    → record_of kind J b ≡ None
none_later kind lane k [] b all same high = refl
none_later kind lane k (r ∷ J) b all same high =
    rw (not_of r b lane k (All-head (λ x. number_of_lane lane x ≤ k) r J all) same high)
    (rw (never (kind_of r == kind)) (none_later kind lane k J b (All-tail (λ x. number_of_lane lane x ≤ k) r J all) same high))

-- ---- a list of nodes, by their places

log_at : {D : Type 0} (logs : List (NodeOf D)) (n : ℕ) (l : NodeOf D) → n < length logs → l ≡ get_or logs n l → sight_at sight logs n ≡ sight l
log_at [] n l inside e = absurd (omega (arith, inside))
log_at (x ∷ xs) zero l inside e = ap sight (sym e)
log_at (x ∷ xs) (suc n) l inside e = log_at xs n l (omega (arith, inside)) e

record Rested (lane k stamp : ℕ) (I : Sight) : Type 0 where
  pub idle : (slot I.seen lane).phase ≡ Idle
  pub number : (slot I.seen lane).number ≤ k
  pub stamp_is : slot_stamp I.seen lane ≤ stamp
  pub numbers : All (λ r. number_of_lane lane r ≤ k) I.seen

module _ {D : Type 0} (K : Shape) (lane k stamp : ℕ) where
  rested : (nodes : List (NodeOf D)) (n s : ℕ) → AllRest K lane k stamp n nodes → Rested lane k stamp (sight_at sight nodes s)
  rested [] n s all = record { idle = refl; number = omega arith; stamp_is = omega arith; numbers = All-nil (λ r. number_of_lane lane r ≤ k) }
  rested (x ∷ xs) n zero all = record { idle = all.0.idle; number = all.0.number; stamp_is = all.0.stamp_is; numbers = all.0.numbers }
  rested (x ∷ xs) n (suc s) all = rested xs (suc n) s all.1

  placed : (nodes : List (NodeOf D)) (n s : ℕ) → AllRest K lane k stamp n nodes → s < length nodes
      → ((sight_at sight nodes s).header.shape ≡ K) × ((sight_at sight nodes s).header.node ≡ K.coordinators + (n + s))
  placed [] n s all low = absurd (omega (arith, low))
  placed (x ∷ xs) n zero all low = (all.0.shape, omega (arith, all.0.node))
  placed (x ∷ xs) n (suc s) all low = let p = placed xs (suc n) s all.1 (omega (arith, low)) in (p.0, omega (arith, p.1))

-- ---- the nodes of a ledger

module _ {D : Type 0} (K : Shape) (lane k : ℕ) (l : NodeOf D) (nodes : List (NodeOf D))
    (log : LogRests K lane k l) (rest : AllRest K lane k (last_stamp l.journal) 0 nodes) where
  are_shards : length nodes ≡ K.shards → AreShardsOf K (sight_at sight nodes)
  are_shards as_many s low = let p = placed K lane k (last_stamp l.journal) nodes 0 s rest (omega (arith, low, as_many)) in (p.0, omega (arith, p.1))

  settled : Settled K lane k (sight l) (sight_at sight nodes)
  settled = record {
    home = log.home;
    shape = log.shape;
    number = ap (λ s. s.number) log.idle;
    idle = ap (λ s. s.phase) log.idle;
    shard_idle = λ s. (at s).idle;
    shard_number = λ s. (at s).number;
    shard_stamp = λ s. (at s).stamp_is;
    fresh_log = λ kind b same high. none_later kind lane k l.journal b log.numbers same high;
    fresh_shard = λ s kind b same high. none_later kind lane k (sight_at sight nodes s).seen b (at s).numbers same high;
  }
    where
      at : (s : ℕ) → Rested lane k (last_stamp l.journal) (sight_at sight nodes s)
      at s = rested K lane k (last_stamp l.journal) nodes 0 s rest

-- where the coordinator's log stands at its place
pub rests : {D : Type 0} (K : Shape) (lane k at : ℕ) (l : NodeOf D) (logs nodes : List (NodeOf D))
    → at < length logs → l ≡ get_or logs at l → LogRests K lane k l → length nodes ≡ K.shards → AllRest K lane k (last_stamp l.journal) 0 nodes
    → MayRunOver K lane at logs nodes
rests K lane k at l logs nodes inside stands log as_many rest = record {
  lane_is = subst (λ (I : Sight). IsLane I.header lane) here
      (subst (λ (H : Shape). (lane < H.coordinators * H.lanes) × (l.header.node ≡ home_of H lane)) (sym log.shape) (log.inside, log.node));
  shape = subst (λ (I : Sight). I.header.shape ≡ K) here log.shape;
  idle = subst (λ (I : Sight). (slot I.seen lane).phase ≡ Idle) here (ap (λ s. s.phase) log.idle);
  as_many = as_many;
  ledger = are_shards K lane k l nodes log rest as_many;
  settled = subst (λ (I : Sight). IsLaneSettled K lane I (sight_at sight nodes)) here (k, settled K lane k l nodes log rest);
}
  where
    here : sight l ≡ sight_at sight logs at
    here = sym (log_at logs at l inside stands)
