-- Which calls of a batch can want memory.
use Rattle.std.proofs.Common.{◌≡◌, ◌≢◌, ℕ, Bool, true, false, List, map, Option, Result, Err, sym, ◌∙◌, ap, refl, subst}
use Rattle.cbdc_types.specs.declared.calls.NodeFault.{NodeFault}
use Rattle.cbdc_types.specs.declared.calls.LockCall.{LockCall}
use Rattle.cbdc_types.specs.declared.calls.NodeFault.TheVariants.{Broken, Refused as Refuses, ClockEnd, Full, DiskFault, Memory}
use Rattle.cbdc_model.specs.Records.{Shape, Batch, Entry, Record}
use Rattle.cbdc_model.specs.Due.{Due}
use Rattle.cbdc_model.specs.Sights.{Sight, MeetsFault, Told}
use Rattle.lane_laws.specs.Calls.{lock_call_of}
use Rattle.lane_laws.specs.Answers.{LockAnswer, StoppedAt}
use Rattle.lane_laws.proofs.ByShard.{every_any, first_at}
use Rattle.lane_driver.specs.declared.fault.LaneFault.{LaneFault}
use Rattle.lane_driver.specs.declared.fault.Stop.{Stop}
use Rattle.lane_driver.specs.declared.fault.LaneFaultKind.TheVariants.{DiskFault as DiskStopped, Full as NoRoom, ClockEnd as NoStamp}
use Rattle.lane_driver.specs.declared.fault.LaneFaultKind.TheVariants.{Memory as NoMemory}
use Rattle.lane_driver.specs.Stops.{IsLaneFaultOf, IsStoppedAt}
use Rattle.lane_driver.specs.Causes.{IsDecideCause}
use Rattle.lane_driver.specs.Wanting.{IsLockWant}
use Rattle.lane_driver.proofs.Turning.{turn_stopped}

-- a call that takes no memory wants none
pub told_free : {A : Type 0} {alone : Bool} {lane : ℕ} {due : Option ℕ → List Record → Due A} {old new : Sight} {f : NodeFault}
    → Told alone lane false due old new (Err f) → f ≢ Memory
told_free {due = due} {old} {new} t e =
    let m = subst (λ f. MeetsFault false (due t.broken t.found) old new t.found f) e t.meets in
    let z : false ≡ true = m.0 in cc

-- nor does a phase of such calls
pub phase_free : {C A : Type 0} (K : Shape) (told : ℕ × C → Sight → Sight → Result A NodeFault → Type 0) (cs : List (ℕ × C)) (I J : ℕ → Sight)
    (e : Stop)
    → ((c : ℕ × C) (old new : Sight) (f : NodeFault) → told c old new (Err f) → f ≢ Memory) → IsStoppedAt K told cs I J e → e.fault ≢ Memory
phase_free {C = C} K told cs I J e free (s, f, at, stop) is =
    let c = first_at told (λ (c : ℕ × C). Unit {0}) I J s f cs stop.asked.answers stop.asked.each (every_any (λ (c : ℕ × C). Unit {0}) (λ c. tt) cs)
    stop.first in
    free c.0 (I s) (J s) f c.3 (sym (ap (λ (x : Stop). x.fault) at) ∙ is)

-- nor does a decide
pub decide_free : (f : NodeFault) (now : Sight) → IsDecideCause f now → f ≢ Memory
decide_free f now is e = subst (λ f. IsDecideCause f now) e is

-- a phase of Locks that wants memory
pub lock_want : (K : Shape) (a a' : Bool) (b : Batch) (cause : ℕ) (parts : List (ℕ × List Entry)) (cs : List (ℕ × LockCall)) (log : Sight)
    (I J : ℕ → Sight) (e : Stop) → a ≡ a' → cs ≡ map (lock_call_of b cause) parts
    → IsStoppedAt K (LockAnswer a) cs I J e → e.fault ≡ Memory → IsLockWant K a' b cause parts log log I J e.node
lock_want K a a' b cause parts cs log I J e same is (s, f, at, stop) want = record {
  shard = s;
  stopped = subst (λ f. StoppedAt (LockAnswer a') (map (lock_call_of b cause) parts) I J s f) (sym (ap (λ (x : Stop). x.fault) at) ∙ want)
      (turn_stopped LockAnswer a a' cs (map (lock_call_of b cause) parts) I J s f same is stop);
  log_same = refl;
  node_is = ap (λ (x : Stop). x.node) at;
}

-- the lane's fault is that memory ran out where the node's is
pub fault_want : (e : LaneFault) (n : ℕ) (f : NodeFault) → IsLaneFaultOf e n f → e.fault ≡ NoMemory → f ≡ Memory
fault_want e n (Broken since) is w = let z : DiskStopped ≡ NoMemory = sym (ap (λ (x : LaneFault). x.fault) is) ∙ w in cc
fault_want e n (Refuses why) is w = absurd is
fault_want e n (ClockEnd stamp) is w = let z : NoStamp stamp ≡ NoMemory = sym (ap (λ (x : LaneFault). x.fault) is) ∙ w in cc
fault_want e n (Full used need capacity) is w = let z : NoRoom used need capacity ≡ NoMemory = sym (ap (λ (x : LaneFault). x.fault) is) ∙ w in cc
fault_want e n DiskFault is w = let z : DiskStopped ≡ NoMemory = sym (ap (λ (x : LaneFault). x.fault) is) ∙ w in cc
fault_want e n Memory is w = refl

-- and at the same node
pub fault_node : (e : LaneFault) (n : ℕ) (f : NodeFault) → IsLaneFaultOf e n f → e.node ≡ n
fault_node e n (Broken since) is = ap (λ (x : LaneFault). x.node) is
fault_node e n (Refuses why) is = absurd is
fault_node e n (ClockEnd stamp) is = ap (λ (x : LaneFault). x.node) is
fault_node e n (Full used need capacity) is = ap (λ (x : LaneFault). x.node) is
fault_node e n DiskFault is = ap (λ (x : LaneFault). x.node) is
fault_node e n Memory is = ap (λ (x : LaneFault). x.node) is
