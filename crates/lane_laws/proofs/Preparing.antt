-- Prepare: a new batch of an idle lane.
use Rattle.std.proofs.Common.{◌≡◌, ◌⊎◌, inl, inr, ℕ, suc, ◌+◌, ◌<◌, max, Bool, true, false, ◌==◌, nat_lt, if◌then◌else◌, List, [], ◌∷◌, None, Result}
use Rattle.std.proofs.Common.{Ok, Err, refl, sym, ap, ◌∙◌, subst, arith}
use Rattle.std.specs.Prelude.{Contains}
use Rattle.cbdc_types.specs.declared.calls.NodeFault.{NodeFault}
use Rattle.cbdc_types.specs.declared.calls.NodeFault.TheVariants.{Broken, ClockEnd, Full}
use Rattle.cbdc_model.specs.Records.{Batch, Compact, Record, Shape, last_stamp, Prepare}
use Rattle.cbdc_model.specs.Slots.{slot}
use Rattle.cbdc_model.specs.Ranges.{home_of}
use Rattle.cbdc_model.specs.Next.{next_stamp}
use Rattle.cbdc_model.specs.Due.{Due, Answers, Writes, if_early, if_room, last_early, used_of, new_batch, prepare_record, prepare_due}
use Rattle.cbdc_model.specs.Room.{need_of}
use Rattle.cbdc_model.specs.Sights.{Sight, Told}
use Rattle.ledger_laws.proofs.Finds.{replaced_at}
use Rattle.lane_laws.specs.Batches.{view}
use Rattle.lane_laws.specs.Faults.{IsAnswered}
use Rattle.lane_laws.proofs.Own.{finds_slot}
use Rattle.lane_laws.proofs.Steps.{StepAt}
use Rattle.lane_laws.proofs.Views.{Moved, Fell, view_home, log_moved, log_fell}
use Rattle.lane_laws.proofs.Dues.{err, ok, past, past_ok, writes_same}
use Rattle.lane_laws.proofs.Tellings.{Wrote, Stood, told_ok, told_err, answered}
use Rattle.lane_laws.proofs.Asked.{call_step}
use Rattle.lane_laws.proofs.LogCalls.{LogStep, LogFailed, wrote_step, stopped_same}

two : (w : Batch × ℕ) (f g : NodeFault) (r : Record) (s : ℕ) → (f ≡ Broken s → ⊥) → (g ≡ Broken s → ⊥) → (x y : Bool)
    → (if x then Answers (Err f) else (if y then Answers (Err g) else Writes w r)) ≡ Answers (Err (Broken s)) → ⊥
two w f g r s a b true y e = a (let z : err {A = Batch × ℕ} f ≡ err (Broken s) = e in cc)
two w f g r s a b false true e = b (let z : err {A = Batch × ℕ} g ≡ err (Broken s) = e in cc)
two w f g r s a b false false e = let z : Writes w r ≡ err (Broken s) = e in cc

module _ (K : Shape) (capacity lane : ℕ) (txs : List Compact) where
  abbrev room : List Record → Due (Batch × ℕ)
  room L = if_room (used_of L) (need_of K L (prepare_record L lane txs)) capacity
      (Writes (new_batch L lane, next_stamp L 0) (prepare_record L lane txs))

  abbrev pub by : List Record → Due (Batch × ℕ)
  by L = if_early last_early (next_stamp L 0) (room L)

  short : List Record → NodeFault
  short L = Full (used_of L) (need_of K L (prepare_record L lane txs)) capacity

  prepared : (L : List Record) (a : Batch × ℕ) (r : Record) → by L ≡ Writes a r
      → (a ≡ (new_batch L lane, next_stamp L 0)) × (r ≡ prepare_record L lane txs)
  prepared L a r e = writes_same (new_batch L lane, next_stamp L 0) a (prepare_record L lane txs) r
      (past (nat_lt capacity (used_of L + need_of K L (prepare_record L lane txs)))
      (Err (Full (used_of L) (need_of K L (prepare_record L lane txs)) capacity))
      (Writes (new_batch L lane, next_stamp L 0) (prepare_record L lane txs)) a r
      (past (nat_lt last_early (next_stamp L 0)) (Err (ClockEnd (next_stamp L 0))) (room L) a r e))

  not_stored : (L : List Record) (a : Batch × ℕ) → by L ≡ Answers (Ok a) → ⊥
  not_stored L a e =
      let z : Writes (new_batch L lane, next_stamp L 0) (prepare_record L lane txs) ≡ ok a
      = past_ok (nat_lt capacity (used_of L + need_of K L (prepare_record L lane txs)))
      (Full (used_of L) (need_of K L (prepare_record L lane txs)) capacity)
      (Writes (new_batch L lane, next_stamp L 0) (prepare_record L lane txs)) a
      (past_ok (nat_lt last_early (next_stamp L 0)) (ClockEnd (next_stamp L 0)) (room L) a e) in cc

  unbroken : (L : List Record) (s : ℕ) → by L ≡ Answers (Err (Broken s)) → ⊥
  unbroken L s e = two (new_batch L lane, next_stamp L 0) (ClockEnd (next_stamp L 0))
      (Full (used_of L) (need_of K L (prepare_record L lane txs)) capacity) (prepare_record L lane txs) s
      (λ h. cc) (λ h. cc) (nat_lt last_early (next_stamp L 0)) (nat_lt capacity (used_of L + need_of K L (prepare_record L lane txs))) e

contains_one : (txs : List Compact) → Contains (txs ∷ []) txs
contains_one txs = (0, omega arith, refl)

same_number : (n : ℕ) → (n == n) ≡ true
same_number n = grind arith

-- the batch that comes next
abbrev pub batch_of : ℕ → ℕ → Batch
batch_of lane k = record { lane = lane; number = suc k }

module _ (K : Shape) (alone : Bool) (lane k : ℕ) (home : home_of K lane < K.coordinators) (txs : List Compact) (log log' : Sight)
    (shards : ℕ → Sight) (number_is : (slot log.seen lane).number ≡ k) where
  step : (fails : Bool) (answer : Result (Batch × ℕ) NodeFault) → ((fails ≡ true) ⊎ ((x : Batch × ℕ) × (answer ≡ Ok x)))
      → Told alone lane true (prepare_due log.header.shape log.capacity lane txs) log log' answer
      → StepAt K (txs ∷ []) alone lane fails (view K lane log shards) (home_of K lane) log.flight log'.flight log'.seen
  step fails answer good told = call_step K (txs ∷ []) alone lane fails true (view K lane log shards) (home_of K lane) log log'
      (by log.header.shape log.capacity lane txs) (λ L. prepare_record L lane txs)
      (view_home K lane home log shards (home_of K lane) refl) (unbroken log.header.shape log.capacity lane txs)
      (λ L a r e. (prepared log.header.shape log.capacity lane txs L a r e).1)
      (λ found f. (
        same_number lane,
        contains_one txs,
        sym (λ i. suc (max (last_stamp (replaced_at (view K lane log shards) (home_of K lane) found (home_of K lane) refl i)) 0)),
      ))
      answer good told

  pub prepare_ok : (b : Batch) (t : ℕ) → Told alone lane true (prepare_due log.header.shape log.capacity lane txs) log log' (Ok (b, t))
      → (b ≡ batch_of lane k) × Moved K (txs ∷ []) alone lane log shards log' shards × LogStep lane log log' (Prepare t (batch_of lane k) txs)
  prepare_ok b t told = go (told_ok alone lane true (by log.header.shape log.capacity lane txs) log log' (b, t) told)
    where
      go : Stood alone lane (by log.header.shape log.capacity lane txs) log log' (b, t)
          ⊎ Wrote alone lane (by log.header.shape log.capacity lane txs) log log' (b, t)
          → (b ≡ batch_of lane k) × Moved K (txs ∷ []) alone lane log shards log' shards × LogStep lane log log' (Prepare t (batch_of lane k) txs)
      go (inl s) = absurd (not_stored log.header.shape log.capacity lane txs s.found (b, t) s.answers)
      go (inr w) =
          let e = prepared log.header.shape log.capacity lane txs w.found (b, t) w.what w.writes in
          let n : new_batch w.found lane ≡ batch_of lane k =
          ap (λ n. batch_of lane n) (ap (λ q. q.number) (finds_slot alone lane log.seen w.found w.finds) ∙ number_is) in
          let stamp : t ≡ next_stamp w.found 0 = ap (λ p. p.1) e.0 in (
            ap (λ p. p.0) e.0 ∙ n,
            log_moved K lane home (txs ∷ []) alone log log' shards (step false (Ok (b, t)) (inr ((b, t), refl)) told),
            wrote_step alone lane (by log.header.shape log.capacity lane txs) log log' (b, t) (Prepare t (batch_of lane k) txs) 0 w
                (e.1 ∙ (λ i. Prepare (sym stamp i) (n i) txs)) (same_number lane) stamp,
          )

  pub prepare_err : (f : NodeFault) → Told alone lane true (prepare_due log.header.shape log.capacity lane txs) log log' (Err f)
      → Fell K (txs ∷ []) alone lane log shards log' shards × LogFailed lane log log' f
      × IsAnswered true (prepare_due log'.header.shape log'.capacity lane txs None log'.seen) log' f
  prepare_err f told =
      let s = told_err alone lane true (by log.header.shape log.capacity lane txs) log log' f (unbroken log.header.shape log.capacity lane txs) told
      in (
        log_fell K lane home (txs ∷ []) alone true log log' shards (step true (Err f) (inl refl) told),
        stopped_same alone lane true (by log.header.shape log.capacity lane txs) log log' f s,
        subst (λ h. IsAnswered true (prepare_due h.shape log'.capacity lane txs None log'.seen) log' f) (sym s.node.header)
            (subst (λ m. IsAnswered true (prepare_due log.header.shape m lane txs None log'.seen) log' f) (sym s.node.capacity)
            (answered alone lane true (by log.header.shape log.capacity lane txs) log log' f s)),
      )
