-- What was told of some calls is told of the same calls, whichever of the two ports says that it is alone.
use Rattle.std.proofs.Common.{◌≡◌, ℕ, Bool, false, List, Result, Ok, Err, map, refl, sym, subst}
use Rattle.cbdc_types.specs.declared.calls.LockCall.{LockCall}
use Rattle.cbdc_types.specs.declared.calls.FinishCall.{FinishCall}
use Rattle.cbdc_types.specs.declared.calls.ForgetCall.{ForgetCall}
use Rattle.cbdc_types.specs.declared.calls.NodeFault.{NodeFault}
use Rattle.cbdc_types.specs.declared.batch.ShardReplies.{ShardReplies}
use Rattle.cbdc_model.specs.Records.{Shape, Batch, Entry, Outcome, outcomes_of}
use Rattle.cbdc_model.specs.Ranges.{home_of, shard_node}
use Rattle.cbdc_model.specs.Due.{open_batch, discard_due, done_due}
use Rattle.cbdc_model.specs.Sights.{Sight, Told}
use Rattle.lane_laws.specs.Calls.{lock_call_of, finish_call_of, forget_call_of}
use Rattle.lane_laws.specs.Answers.{DecideAnswer, LockAnswer, FinishAnswer, ForgetAnswer, AskedTimes, Locked, Stamped, StoppedAt}
use Rattle.lane_laws.specs.Traces.{ToldCommitted, DiscardedStopped, CommittedStopped, PreparedStopped, at_forget, at_done, at_finish, at_discard}
use Rattle.lane_laws.specs.Traces.{behind_discard, at_lock, at_decide, behind_commit}
use Rattle.lane_driver.specs.declared.fault.Stop.{Stop}
use Rattle.lane_driver.specs.Stops.{IsStopOf, IsStoppedAt}

pub turn_stamped : {C : Type 0} (T : Bool → ℕ × C → Sight → Sight → Result ℕ NodeFault → Type 0) (a a' : Bool) (cs cs' : List (ℕ × C))
    (I J : ℕ → Sight) (m : ℕ) → a ≡ a' → cs ≡ cs'
    → Stamped (T a) cs I J m → Stamped (T a') cs' I J m
turn_stamped T a a' cs cs' I J m e f h = subst (λ x. Stamped (T x) cs' I J m) e (subst (λ ds. Stamped (T a) ds I J m) f h)

pub turn_locked : (a a' : Bool) (cs cs' : List (ℕ × LockCall)) (I J : ℕ → Sight) (rs : List ShardReplies) → a ≡ a' → cs ≡ cs' → Locked a cs I J rs
    → Locked a' cs' I J rs
turn_locked a a' cs cs' I J rs e f h = subst (λ x. Locked x cs' I J rs) e (subst (λ ds. Locked a ds I J rs) f h)

pub turn_times : {C A : Type 0} (T : Bool → ℕ × C → Sight → Sight → A → Type 0) (a a' : Bool) (cs cs' : List (ℕ × C)) (n : ℕ) (I J : ℕ → Sight)
    → a ≡ a' → cs ≡ cs' → AskedTimes (T a) cs n I J → AskedTimes (T a') cs' n I J
turn_times T a a' cs cs' n I J e f h = subst (λ x. AskedTimes (T x) cs' n I J) e (subst (λ ds. AskedTimes (T a) ds n I J) f h)

pub turn_stopped : {C A : Type 0} (T : Bool → ℕ × C → Sight → Sight → Result A NodeFault → Type 0) (a a' : Bool) (cs cs' : List (ℕ × C))
    (I J : ℕ → Sight) (s : ℕ) (f : NodeFault) → a ≡ a' → cs ≡ cs'
    → StoppedAt (T a) cs I J s f → StoppedAt (T a') cs' I J s f
turn_stopped T a a' cs cs' I J s f e g h = subst (λ x. StoppedAt (T x) cs' I J s f) e (subst (λ ds. StoppedAt (T a) ds I J s f) g h)

-- what is so at a stop's node and fault is so at the stop
stop_here : (T : ℕ → NodeFault → Type 0) (e : Stop) (n : ℕ) (f : NodeFault) → IsStopOf e n f → T n f → T e.node e.fault
stop_here T e n f at told = subst (λ (x : Stop). T x.node x.fault) (sym at) told

-- the ends of a discarded batch that stops
pub forget_stops : (K : Shape) (a a' : Bool) (b : Batch) (cause n : ℕ) (locks : List (ℕ × LockCall)) (cs : List (ℕ × ForgetCall)) (log : Sight)
    (I J : ℕ → Sight) (e : Stop) → a ≡ a' → cs ≡ map (forget_call_of b cause) locks
    → IsStoppedAt K (ForgetAnswer a) cs I J e → DiscardedStopped K a' b cause n locks log log I J e.node e.fault
forget_stops K a a' b cause n locks cs log I J e same is (s, f, at, stop) =
    stop_here (DiscardedStopped K a' b cause n locks log log I J) e (shard_node K s) f at
    (at_forget s (turn_stopped ForgetAnswer a a' cs (map (forget_call_of b cause) locks) I J s f same is stop) refl refl)

pub done_stops : (K : Shape) (a a' : Bool) (b : Batch) (cause n m : ℕ) (locks : List (ℕ × LockCall)) (cs cs2 : List (ℕ × ForgetCall))
    (log log' : Sight) (I M J : ℕ → Sight) (node : ℕ) (f : NodeFault) → a ≡ a'
    → cs ≡ map (forget_call_of b cause) locks → cs2 ≡ map (forget_call_of b cause) locks → node ≡ home_of K b.lane
    → Stamped (ForgetAnswer a) cs I M m → AskedTimes (ForgetAnswer a) cs2 n M J
    → Told a' b.lane false (done_due b.lane m) log log' (Err f) → DiscardedStopped K a' b cause n locks log log' I J node f
done_stops K a a' b cause n m locks cs cs2 log log' I M J node f same is is2 at phase again told =
    at_done m M (turn_stamped ForgetAnswer a a' cs (map (forget_call_of b cause) locks) I M m same is phase)
    (turn_times ForgetAnswer a a' cs2 (map (forget_call_of b cause) locks) n M J same is2 again) told at

-- those of a committed one
pub finish_stops : (K : Shape) (a a' : Bool) (b : Batch) (cause : ℕ) (os : List Outcome) (n : ℕ) (locks : List (ℕ × LockCall))
    (cs : List (ℕ × FinishCall)) (log : Sight) (I J : ℕ → Sight) (e : Stop) → a ≡ a' → cs ≡ map (finish_call_of b cause os) locks
    → IsStoppedAt K (FinishAnswer a) cs I J e → CommittedStopped K a' b cause os n locks log log I J e.node e.fault
finish_stops K a a' b cause os n locks cs log I J e same is (s, f, at, stop) =
    stop_here (CommittedStopped K a' b cause os n locks log log I J) e (shard_node K s) f at
    (at_finish s (turn_stopped FinishAnswer a a' cs (map (finish_call_of b cause os) locks) I J s f same is stop) refl refl)

module _ (K : Shape) (a a' : Bool) (b : Batch) (cause : ℕ) (os : List Outcome) (n m : ℕ) (locks : List (ℕ × LockCall))
    (cs cs2 : List (ℕ × FinishCall)) (log log1 : Sight) (I M X : ℕ → Sight) (same : a ≡ a')
    (is : cs ≡ map (finish_call_of b cause os) locks) (is2 : cs2 ≡ map (finish_call_of b cause os) locks) (phase : Stamped (FinishAnswer a) cs I M m)
    (again : AskedTimes (FinishAnswer a) cs2 n M X) where
  pub discard_stops : (node : ℕ) (f : NodeFault) → node ≡ home_of K b.lane → Told a' b.lane false (discard_due b.lane m) log log1 (Err f)
      → CommittedStopped K a' b cause os n locks log log1 I X node f
  discard_stops node f at told =
      at_discard m M (turn_stamped FinishAnswer a a' cs (map (finish_call_of b cause os) locks) I M m same is phase)
      (turn_times FinishAnswer a a' cs2 (map (finish_call_of b cause os) locks) n M X same is2 again) told at

  pub later_stops : (td : ℕ) (log' : Sight) (J : ℕ → Sight) (node : ℕ) (f : NodeFault) → Told a' b.lane false (discard_due b.lane m) log log1 (Ok td)
      → DiscardedStopped K a' b td n locks log1 log' X J node f → CommittedStopped K a' b cause os n locks log log' I J node f
  later_stops td log' J node f told stop =
      behind_discard m M (turn_stamped FinishAnswer a a' cs (map (finish_call_of b cause os) locks) I M m same is phase) X
      (turn_times FinishAnswer a a' cs2 (map (finish_call_of b cause os) locks) n M X same is2 again) log1 td told stop

-- those of a prepared one
pub lock_stops : (K : Shape) (a a' : Bool) (b : Batch) (cause n : ℕ) (parts : List (ℕ × List Entry)) (cs : List (ℕ × LockCall)) (log : Sight)
    (I J : ℕ → Sight) (e : Stop) → a ≡ a' → cs ≡ map (lock_call_of b cause) parts
    → IsStoppedAt K (LockAnswer a) cs I J e → PreparedStopped K a' b cause n parts log log I J e.node e.fault
lock_stops K a a' b cause n parts cs log I J e same is (s, f, at, stop) =
    stop_here (PreparedStopped K a' b cause n parts log log I J) e (shard_node K s) f at
    (at_lock s (turn_stopped LockAnswer a a' cs (map (lock_call_of b cause) parts) I J s f same is stop) refl refl)

module _ (K : Shape) (a a' : Bool) (b : Batch) (cause n : ℕ) (rs : List ShardReplies) (parts : List (ℕ × List Entry)) (cs cs2 : List (ℕ × LockCall))
    (log log1 : Sight) (I M X : ℕ → Sight) (same : a ≡ a')
    (is : cs ≡ map (lock_call_of b cause) parts) (is2 : cs2 ≡ map (lock_call_of b cause) parts) (phase : Locked a cs I M rs)
    (again : AskedTimes (LockAnswer a) cs2 n M X) where
  pub decide_stops : (node : ℕ) (f : NodeFault) → node ≡ home_of K b.lane → DecideAnswer a' b.lane rs log log1 (Err f)
      → PreparedStopped K a' b cause n parts log log1 I X node f
  decide_stops node f at told =
      at_decide rs M (turn_locked a a' cs (map (lock_call_of b cause) parts) I M rs same is phase)
      (turn_times LockAnswer a a' cs2 (map (lock_call_of b cause) parts) n M X same is2 again) told at

  pub commit_stops : (tc : ℕ) (os : List Outcome) (log' : Sight) (J : ℕ → Sight) (node : ℕ) (f : NodeFault) (cs3 : List (ℕ × LockCall))
      → cs3 ≡ map (lock_call_of b cause) parts → DecideAnswer a' b.lane rs log log1 (Ok tc)
      → os ≡ outcomes_of log1.seen (open_batch log1.seen b.lane) → CommittedStopped K a' b tc os n cs3 log1 log' X J node f
      → PreparedStopped K a' b cause n parts log log' I J node f
  commit_stops tc os log' J node f cs3 is3 told os_is stop =
      behind_commit rs M (turn_locked a a' cs (map (lock_call_of b cause) parts) I M rs same is phase) X
      (turn_times LockAnswer a a' cs2 (map (lock_call_of b cause) parts) n M X same is2 again) log1 tc told os os_is
      (subst (λ ds. CommittedStopped K a' b tc os n ds log1 log' X J node f) is3 stop)

pub turn_committed : (a : Bool) (b : Batch) (cause : ℕ) (os os' : List Outcome) (n : ℕ) (cs cs' : List (ℕ × LockCall)) (log log' : Sight)
    (I J : ℕ → Sight) → os ≡ os' → cs ≡ cs'
    → ToldCommitted a b cause os n cs log log' I J → ToldCommitted a b cause os' n cs' log log' I J
turn_committed a b cause os os' n cs cs' log log' I J e f h =
    subst (λ qs. ToldCommitted a b cause qs n cs' log log' I J) e (subst (λ ds. ToldCommitted a b cause os n ds log log' I J) f h)
