-- In one journal each batch of a lane is locked, finished and forgotten, or prepared and committed, once, in order of its number.
use Rattle.std.proofs.Common.{◌≡◌, ℕ, ◌+◌, ◌≤◌, true, false, ◌==◌, if◌then◌else◌, List, [], ◌∷◌, refl, subst, arith}
use Rattle.cbdc_model.specs.Records.{Shape, Batch, same_batch, Compact, Record, Genesis, Lock, Finish, Forget, Start, Prepare, Commit, Discard, Done}
use Rattle.cbdc_model.specs.Records.{Upgrade, Carry, CarryStart, Seal}
use Rattle.cbdc_model.specs.Slots.{Phase, slot, Idle, InLock, InFinish, InPrepare, InCommit, InDiscard}
use Rattle.ledger_laws.proofs.Next.{Next, has_lock, has_finish, has_prepare, has_commit}
pub use Rattle.ledger_laws.proofs.ByKind.{same_batch_is, same_batch_self}

pub record JournalOk (past : List Record) : Type 0 where
  pub lock_below : (b : Batch) → has_lock past b ≡ true → b.number ≤ (slot past b.lane).number
  pub finish_below : (b : Batch) → has_finish past b ≡ true → b.number ≤ (slot past b.lane).number
  pub prepare_below : (b : Batch) → has_prepare past b ≡ true → b.number ≤ (slot past b.lane).number
  pub locked : (b : Batch) → (slot past b.lane).phase ≡ InLock → (slot past b.lane).number ≡ b.number
      → (has_lock past b ≡ true) × (has_finish past b ≡ false)
  pub prepared : (b : Batch) → (slot past b.lane).phase ≡ InPrepare → (slot past b.lane).number ≡ b.number
      → (has_prepare past b ≡ true) × (has_commit past b ≡ false)
  pub commit_prepared : (b : Batch) → has_commit past b ≡ true → has_prepare past b ≡ true

pub other_batch : (a b : Batch) → same_batch a b ≡ false → a ≡ b → ⊥
other_batch a b h e = grind (arith, same_batch_self b)

prepare_is_below : (stamp : ℕ) (c b : Batch) (txs : List Compact) (past : List Record)
    → (has_prepare past b ≡ true → b.number ≤ (slot past b.lane).number)
    → c.number ≡ (slot past c.lane).number + 1 → has_prepare (Prepare stamp c txs ∷ past) b ≡ true
    → b.number ≤ (slot (Prepare stamp c txs ∷ past) b.lane).number
prepare_is_below stamp c b txs past old number h = grind (arith, old)

-- each record that is next keeps it
module _ (K : Shape) (node : ℕ) (past : List Record) (ok : JournalOk past) where
  prepare_below_next : (r : Record) → Next K node past r → (b : Batch) → has_prepare (r ∷ past) b ≡ true → b.number ≤ (slot (r ∷ past) b.lane).number
  prepare_below_next (Genesis header hs) next b h = absurd next
  prepare_below_next (Carry stamp header source hs numbers) next b h = absurd next
  prepare_below_next (Start header) next b h = absurd next
  prepare_below_next (CarryStart stamp header source numbers) next b h = absurd next
  prepare_below_next (Prepare stamp c txs) next b h = prepare_is_below stamp c b txs past (ok.prepare_below b) next.4 h
  prepare_below_next other next b h = grind (arith, ok.prepare_below b)

  pub next_ok : (r : Record) → Next K node past r → JournalOk (r ∷ past)
  next_ok (Genesis header hs) next = absurd next
  next_ok (Carry stamp header source hs numbers) next = absurd next
  next_ok (Start header) next = absurd next
  next_ok (CarryStart stamp header source numbers) next = absurd next
  next_ok other next = record {
    lock_below = λ b h. grind (arith, ok.lock_below b);
    finish_below = λ b h. grind (arith, ok.finish_below b);
    prepare_below = prepare_below_next other next;
    locked = λ b p n. grind (arith, ok.locked b, ok.finish_below b);
    prepared = λ b p n. grind (arith, ok.prepared b, ok.prepare_below b, ok.commit_prepared b);
    commit_prepared = λ b h. grind (arith, ok.commit_prepared b, ok.prepared b);
  }

-- a lane's number never falls
number_up : (past : List Record) (c : Batch) (l : ℕ) (p : Phase) → (slot past c.lane).number ≤ c.number
    → (slot past l).number ≤ (if c.lane == l then record { number = c.number; phase = p } else slot past l).number
number_up past c l p le = elim (c.lane == l) as (λ v. (c.lane == l) ≡ v
    → (slot past l).number ≤ (if v then record { number = c.number; phase = p } else slot past l).number) [
      | true ↦ λ e. (let same_lane : c.lane ≡ l = grind (arith, e) in subst (λ k. (slot past k).number ≤ c.number) same_lane le)
      | false ↦ λ e. omega arith
    ] refl

pub number_rises : (K : Shape) (node : ℕ) (past : List Record) (r : Record) → Next K node past r → (l : ℕ)
    → (slot past l).number ≤ (slot (r ∷ past) l).number
number_rises K node past (Genesis header hs) next l = absurd next
number_rises K node past (Start header) next l = absurd next
number_rises K node past (Lock stamp c es) next l = number_up past c l InLock (omega (arith, next.3))
number_rises K node past (Finish stamp c ds) next l = number_up past c l InFinish (omega (arith, next.3))
number_rises K node past (Forget stamp c) next l = number_up past c l Idle (omega (arith, next.3))
number_rises K node past (Prepare stamp c txs) next l = number_up past c l InPrepare (omega (arith, next.4))
number_rises K node past (Commit stamp c os) next l = number_up past c l InCommit (omega (arith, next.4))
number_rises K node past (Discard stamp c) next l = number_up past c l InDiscard (omega (arith, next.4))
number_rises K node past (Done stamp c) next l = number_up past c l Idle (omega (arith, next.4))
number_rises K node past (Carry stamp header source hs numbers) next l = absurd next
number_rises K node past (CarryStart stamp header source numbers) next l = absurd next
number_rises K node past (Upgrade stamp batch) next l = omega arith
number_rises K node past (Seal stamp to shards) next l = omega arith

pub no_records_ok : JournalOk []
no_records_ok = record {
  lock_below = λ b h. cc;
  finish_below = λ b h. cc;
  prepare_below = λ b h. cc;
  locked = λ b p n. cc;
  prepared = λ b p n. cc;
  commit_prepared = λ b h. cc;
}
