-- Where the Locks that are still to come at each shard fit below 2^62, they do so behind each of them.
use Rattle.std.proofs.Common.{◌≡◌, ℕ, zero, suc, ◌+◌, ◌*◌, ◌^◌, ◌<◌, ◌≤◌, max, Bool, true, false, ◌==◌, if◌then◌else◌, List, refl, sym, ap, ◌∙◌}
use Rattle.std.proofs.Common.{subst, arith}
use Rattle.cbdc_model.specs.Records.{Shape, Compact, Record, record_of, stamp_in, last_stamp}
use Rattle.cbdc_model.specs.Ranges.{shard_node}
use Rattle.cbdc_model.specs.Due.{open_batch}
use Rattle.cbdc_model.specs.History.{Minted}
use Rattle.cbdc_model.specs.World.{World, journals}
use Rattle.ledger_laws.proofs.Rows.{at, away, at_node}
use Rattle.run_laws.specs.LocksDue.{lacks_lock, locks_due, lock_cause, before_lock, LocksFit, IsStuck}
use Rattle.run_laws.proofs.OneLock.{LockStep, same_home, fewer, one_less, other_shard}

-- counts of lanes
module _ (K : Shape) (I J : ℕ → List Record) (s : ℕ) where
  due_le : (n : ℕ) → ((lane : ℕ) → lane < n → lacks_lock K J s lane ≡ true → lacks_lock K I s lane ≡ true) → locks_due K J s n ≤ locks_due K I s n
  due_le zero h = omega arith
  due_le (suc n) h =
      let rest : locks_due K J s n ≤ locks_due K I s n = due_le n (λ lane lt. h lane (omega arith)) in
      one_le (lacks_lock K J s n) (lacks_lock K I s n) (locks_due K J s n) (locks_due K I s n) (h n (omega arith)) rest
    where
      one_le : (a b : Bool) (m k : ℕ) → (a ≡ true → b ≡ true) → m ≤ k → (if a then 1 else 0) + m ≤ (if b then 1 else 0) + k
      one_le true true m k h le = omega arith
      one_le true false m k h le = absurd (let z : false ≡ true = h refl in cc)
      one_le false true m k h le = omega arith
      one_le false false m k h le = omega arith

  due_less : (one n : ℕ) → one < n → ((lane : ℕ) → lane < n → lacks_lock K J s lane ≡ true → lacks_lock K I s lane ≡ true)
      → lacks_lock K I s one ≡ true → lacks_lock K J s one ≡ false
      → suc (locks_due K J s n) ≤ locks_due K I s n
  due_less one zero lt h i j = absurd (omega arith)
  due_less one (suc n) lt h i j = elim (at_node n one) [
    | at e ↦ here (due_le n (λ lane lt. h lane (omega arith))) (subst (λ l. lacks_lock K I s l ≡ true) (sym e) i)
        (subst (λ l. lacks_lock K J s l ≡ false) (sym e) j)
    | away a ↦ later (lacks_lock K J s n) (lacks_lock K I s n) (locks_due K J s n) (locks_due K I s n) (h n (omega arith))
        (due_less one n (below n one lt a) (λ lane lt. h lane (omega arith)) i j)
  ]
    where
      below : (n one : ℕ) → one < suc n → (n == one) ≡ false → one < n
      below n one lt e = grind arith

      one_more : (a b : Bool) (m k : ℕ) → m ≤ k → b ≡ true → a ≡ false → suc ((if a then 1 else 0) + m) ≤ (if b then 1 else 0) + k
      one_more true b m k le i j = absurd (let z : true ≡ false = j in cc)
      one_more false true m k le i j = omega arith
      one_more false false m k le i j = absurd (let z : false ≡ true = i in cc)

      here : locks_due K J s n ≤ locks_due K I s n → lacks_lock K I s n ≡ true → lacks_lock K J s n ≡ false
          → suc ((if lacks_lock K J s n then 1 else 0) + locks_due K J s n) ≤ (if lacks_lock K I s n then 1 else 0) + locks_due K I s n
      here le i j = one_more (lacks_lock K J s n) (lacks_lock K I s n) (locks_due K J s n) (locks_due K I s n) le i j

      later : (a b : Bool) (m k : ℕ) → (a ≡ true → b ≡ true) → suc m ≤ k → suc ((if a then 1 else 0) + m) ≤ (if b then 1 else 0) + k
      later true true m k h le = omega arith
      later true false m k h le = absurd (let z : false ≡ true = h refl in cc)
      later false true m k h le = omega arith
      later false false m k h le = omega arith

  -- one that lacks its Lock counts
  due_some : (one n : ℕ) → one < n → lacks_lock K J s one ≡ true → 0 < locks_due K J s n
  due_some one zero lt j = absurd (omega arith)
  due_some one (suc n) lt j = elim (at_node n one) [
    | at e ↦ here (lacks_lock K J s n) (locks_due K J s n) (subst (λ l. lacks_lock K J s l ≡ true) (sym e) j)
    | away a ↦ later (lacks_lock K J s n) (locks_due K J s n) (due_some one n (below n one lt a) j)
  ]
    where
      below : (n one : ℕ) → one < suc n → (n == one) ≡ false → one < n
      below n one lt e = grind arith

      here : (a : Bool) (m : ℕ) → a ≡ true → 0 < (if a then 1 else 0) + m
      here true m j = omega arith
      here false m j = absurd (let z : false ≡ true = j in cc)

      later : (a : Bool) (m : ℕ) → 0 < m → 0 < (if a then 1 else 0) + m
      later true m lt = omega arith
      later false m lt = omega arith

module _ (K : Shape) (minting : Minted) (P : Compact → Type 0) (shards : 0 < K.shards) (lanes : 0 < K.lanes) where
  abbrev all_lanes : ℕ
  all_lanes = K.coordinators * K.lanes

  -- over numbers: behind one of the Locks, for another one
  behind : (last one other due due' new : ℕ) → new ≡ suc (max last one) → max last one + due ≤ 2 ^ 62 → max last other + due ≤ 2 ^ 62
      → suc due' ≤ due → max new other + due' ≤ 2 ^ 62
  behind last one other due due' new e h g le = omega arith

  elsewhere : (before before' due due' : ℕ) → before' ≡ before → before + due ≤ 2 ^ 62 → due' ≤ due → before' + due' ≤ 2 ^ 62
  elsewhere before before' due due' e h le = omega arith

  pub fits_stay : (v u : World) (s lane : ℕ) → s < K.shards → lane < K.coordinators * K.lanes → lacks_lock K (journals v) s lane ≡ true
      → LockStep K minting P shards lanes v u s lane → LocksFit K (journals v) → LocksFit K (journals u)
  fits_stay v u s lane ls ll lacks step fit t other lt lo h = elim (at_node s t) [
    | at e ↦ subst (λ k. lacks_lock K (journals u) k other ≡ true
        → before_lock K (journals u) k other + locks_due K (journals u) k all_lanes ≤ 2 ^ 62) e at_same h
    | away a ↦ elsewhere (before_lock K (journals v) t other) (before_lock K (journals u) t other) (locks_due K (journals v) t all_lanes)
        (locks_due K (journals u) t all_lanes)
        (same_before a) (fit t other lt lo (fewer K minting P shards lanes v u s lane ll step t other lo h))
        (due_le K (journals v) (journals u) t all_lanes (λ l m. fewer K minting P shards lanes v u s lane ll step t l m))
  ]
    where
      same_cause : lock_cause K (journals u) other ≡ lock_cause K (journals v) other
      same_cause = ap (λ home. stamp_in (record_of 6 home (open_batch home other))) (same_home K minting P shards lanes v u s lane ll step other lo)

      same_before : (s == t) ≡ false → before_lock K (journals u) t other ≡ before_lock K (journals v) t other
      same_before a = ap (λ c. max (last_stamp (journals u (shard_node K t))) c) same_cause
          ∙ ap (λ own. max (last_stamp own) (lock_cause K (journals v) other)) (step.elsewhere (shard_node K t) (other_shard K.coordinators s t a))

      at_same : lacks_lock K (journals u) s other ≡ true → before_lock K (journals u) s other + locks_due K (journals u) s all_lanes ≤ 2 ^ 62
      at_same h =
          let before : before_lock K (journals u) s other ≡ max (last_stamp (journals u (shard_node K s))) (lock_cause K (journals v) other)
          = ap (λ c. max (last_stamp (journals u (shard_node K s))) c) same_cause in
          subst (λ b. b + locks_due K (journals u) s all_lanes ≤ 2 ^ 62) (sym before)
          (behind (last_stamp (journals v (shard_node K s))) (lock_cause K (journals v) lane) (lock_cause K (journals v) other)
          (locks_due K (journals v) s all_lanes) (locks_due K (journals u) s all_lanes)
          (last_stamp (journals u (shard_node K s))) (ap last_stamp step.here ∙ step.stamp) (fit s lane ls ll lacks)
          (fit s other ls lo (fewer K minting P shards lanes v u s lane ll step s other lo h))
          (due_less K (journals v) (journals u) s lane all_lanes ll (λ l m. fewer K minting P shards lanes v u s lane ll step s l m) lacks
          (one_less K minting P shards lanes v u s lane ll step)))

  -- so none is stuck
  pub fits_not_stuck : (w : World) → LocksFit K (journals w) → IsStuck K (journals w) → ⊥
  fits_not_stuck w fit stuck =
      let h = fit stuck.shard stuck.lane stuck.of_shape.0 stuck.of_shape.1 stuck.lacks in
      let some : 0 < locks_due K (journals w) stuck.shard all_lanes =
      due_some K (journals w) (journals w) stuck.shard stuck.lane all_lanes stuck.of_shape.1 stuck.lacks in
      let n = stuck.needs in
      omega arith
