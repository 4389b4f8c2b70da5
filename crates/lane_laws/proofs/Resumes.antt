-- A batch that is resumed, from what was told of its calls.
use Rattle.std.proofs.Common.{◌≡◌, inr, ℕ, Bool, List, [], ◌∷◌, ◌==◌, true, refl, sym, ap, ◌∙◌, arith}
use Rattle.cbdc_types.specs.declared.calls.LockCall.{LockCall}
use Rattle.cbdc_types.specs.declared.calls.NodeFault.{NodeFault}
use Rattle.cbdc_model.specs.Records.{Shape, Batch, Compact, Entry, Outcome, Record, Done}
use Rattle.cbdc_model.specs.Slots.{Phase, slot, Idle, InPrepare, InCommit, InDiscard}
use Rattle.cbdc_model.specs.Sights.{Sight}
use Rattle.lane_laws.specs.Calls.{AreParts, AreLocks}
use Rattle.lane_laws.specs.Batches.{own}
use Rattle.lane_laws.specs.Traces.{ToldDiscarded, ToldCommitted, ToldPrepared, DiscardedStopped, CommittedStopped, PreparedStopped}
use Rattle.lane_laws.specs.Resuming.{IsOpenAt, IsPreparedAt, IsCommittedAt, IsDiscardedAt, IsTakenUp, IsLeft}
use Rattle.lane_laws.proofs.Own.{slot_own}
use Rattle.lane_laws.proofs.Views.{Moved}
use Rattle.lane_laws.proofs.LogCalls.{Open}
use Rattle.lane_laws.proofs.Runs.{discarded_run, committed_run, prepared_run}
use Rattle.lane_laws.proofs.Stops.{discarded_stopped, committed_stopped, prepared_stopped}

done_slot : (lane number e : ℕ) (L X : List Record) → own lane L ≡ Done e (record { lane = lane; number = number }) ∷ X
    → slot L lane ≡ record { number = number; phase = Idle }
done_slot lane number e L X h = slot_own lane L ∙ ap (λ K. slot K lane) h ∙ (let z : (lane == lane) ≡ true = same lane in rw z)
  where
    same : (n : ℕ) → (n == n) ≡ true
    same n = grind arith

module _ (K : Shape) (alone : Bool) (b : Batch) (txs : List Compact) (t : ℕ) (log log' : Sight) (I J : ℕ → Sight) where
  taken : (e : ℕ) (X : List Record) → Moved K [] alone b.lane log I log' J → own b.lane log'.seen ≡ Done e b ∷ X → IsTakenUp K alone b log I log' J
  taken e X m h =
      let s = done_slot b.lane b.number e log'.seen X h in
      record { made = m.made; log_same = m.log_same; shard_same = m.shard_same; number = ap (λ q. q.number) s; idle = ap (λ q. q.phase) s }

  opening : {p : Phase} → (p ≡ Idle → ⊥) → IsOpenAt p K b txs t log I → Open K b.lane b.number txs log t
  opening never o = record { prepare = o.prepare; open_number = o.number; busy = λ h. never (sym o.phase ∙ h); shape = o.shape }

  in_prepare : InPrepare ≡ Idle → ⊥
  in_prepare h = let z : InPrepare ≡ Idle = h in cc

  in_commit : InCommit ≡ Idle → ⊥
  in_commit h = let z : InCommit ≡ Idle = h in cc

  in_discard : InDiscard ≡ Idle → ⊥
  in_discard h = let z : InDiscard ≡ Idle = h in cc

  pub takes_discarded : (u td n : ℕ) (locks : List (ℕ × LockCall)) → IsDiscardedAt K b txs t td log I → AreLocks K txs b u locks
      → ToldDiscarded alone b td n locks log log' I J → IsTakenUp K alone b log I log' J
  takes_discarded u td n locks d are told =
      let r = discarded_run K [] alone b.lane b.number d.is_open.home txs log log' I J t u td n locks (opening in_discard d.is_open) d.discard
      (λ s c. d.is_open.others s 4 (inr (inr refl)) c) d.forgot are told in
      taken told.ended (own b.lane log.seen) r.moved r.step.own_is

  pub takes_committed : (u tc : ℕ) (os : List Outcome) (n : ℕ) (locks : List (ℕ × LockCall)) → IsCommittedAt K b txs t tc os log I
      → AreLocks K txs b u locks → ToldCommitted alone b tc os n locks log log' I J → IsTakenUp K alone b log I log' J
  takes_committed u tc os n locks d are told =
      let r = committed_run K [] alone b.lane b.number d.is_open.home txs log log' I J t u tc os n locks (opening in_commit d.is_open) d.commit
      d.locks (λ s kind h c. d.is_open.others s kind (inr h) c) are told in
      taken r.ended _ r.moved r.log_own

  pub takes_prepared : (n : ℕ) (parts : List (ℕ × List Entry)) (os : List Outcome) → IsPreparedAt K b txs t log I → AreParts K txs parts
      → ToldPrepared alone b t n parts log log' I J os → IsTakenUp K alone b log I log' J
  takes_prepared n parts os d are told =
      let r = prepared_run K [] alone b.lane b.number d.is_open.home txs log log' I J t n parts os (opening in_prepare d.is_open) d.is_open.others
      are told in
      taken r.rest.ended _ r.moved r.rest.log_own

  pub leaves_discarded : (u td n : ℕ) (locks : List (ℕ × LockCall)) (node : ℕ) (f : NodeFault) → IsDiscardedAt K b txs t td log I
      → AreLocks K txs b u locks → DiscardedStopped K alone b td n locks log log' I J node f
      → IsLeft K alone b log I log' J node f
  leaves_discarded u td n locks node f d are stop =
      let r = discarded_stopped K [] alone b.lane b.number d.is_open.home txs log log' I J t u td n locks node f (opening in_discard d.is_open)
      d.discard d.is_open.phase (λ s c. d.is_open.others s 4 (inr (inr refl)) c) d.forgetting d.forgot are stop in
      record { made = r.fell.made; flown = r.fell.flown; told = r.told; txs = txs; fault = r.fault; granted = r.granted }

  pub leaves_committed : (u tc : ℕ) (os : List Outcome) (n : ℕ) (locks : List (ℕ × LockCall)) (node : ℕ) (f : NodeFault)
      → IsCommittedAt K b txs t tc os log I → AreLocks K txs b u locks
      → CommittedStopped K alone b tc os n locks log log' I J node f → IsLeft K alone b log I log' J node f
  leaves_committed u tc os n locks node f d are stop =
      let r = committed_stopped K [] alone b.lane b.number d.is_open.home txs log log' I J t u tc os n locks node f (opening in_commit d.is_open)
      d.commit d.is_open.phase d.locks d.finishing (λ s kind h c. d.is_open.others s kind (inr h) c) are stop in
      record { made = r.fell.made; flown = r.fell.flown; told = r.told; txs = txs; fault = r.fault; granted = r.granted }

  pub leaves_prepared : (n : ℕ) (parts : List (ℕ × List Entry)) (node : ℕ) (f : NodeFault) → IsPreparedAt K b txs t log I → AreParts K txs parts
      → PreparedStopped K alone b t n parts log log' I J node f
      → IsLeft K alone b log I log' J node f
  leaves_prepared n parts node f d are stop =
      let r = prepared_stopped K [] alone b.lane b.number d.is_open.home txs log log' I J t n parts node f (opening in_prepare d.is_open)
      d.is_open.phase d.is_open.others d.locking are stop in
      record { made = r.fell.made; flown = r.fell.flown; told = r.told; txs = txs; fault = r.fault; granted = r.granted }
