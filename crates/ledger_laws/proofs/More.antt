-- More of what one journal keeps: each kind of record of a batch comes once.
use Rattle.std.proofs.Common.{◌≡◌, ℕ, ◌+◌, ◌<◌, ◌≤◌, Bool, true, false, ◌==◌, cond, List, ◌∷◌, length, Some, is_some, refl, subst, arith}
use Rattle.cbdc_model.specs.Records.{Shape, Batch, same_batch, Compact, Outcome, Answered, entries_in, Record, record_of, Genesis, Lock, Finish}
use Rattle.cbdc_model.specs.Records.{Forget, Start, Prepare, Commit, Discard, Done, lock_of, Carry, CarryStart}
use Rattle.cbdc_model.specs.Slots.{slot, InLock, InFinish, InPrepare, InCommit, InDiscard}
use Rattle.ledger_laws.proofs.Next.{Next, has_lock, has_commit, has_forget, has_discard}
use Rattle.ledger_laws.proofs.Slots.{JournalOk, number_rises}
use Rattle.ledger_laws.proofs.View.{same, other, same_or_not}

abbrev pub has_done : List Record → Batch → Bool
has_done past b = is_some (record_of 9 past b)

pub record MoreOk (past : List Record) : Type 0 where
  pub forget_below : (b : Batch) → has_forget past b ≡ true → b.number ≤ (slot past b.lane).number
  pub commit_below : (b : Batch) → has_commit past b ≡ true → b.number ≤ (slot past b.lane).number
  pub discard_below : (b : Batch) → has_discard past b ≡ true → b.number ≤ (slot past b.lane).number
  pub done_below : (b : Batch) → has_done past b ≡ true → b.number ≤ (slot past b.lane).number
  pub in_lock : (b : Batch) → (slot past b.lane).phase ≡ InLock → (slot past b.lane).number ≡ b.number → has_forget past b ≡ false
  pub in_finish : (b : Batch) → (slot past b.lane).phase ≡ InFinish → (slot past b.lane).number ≡ b.number
      → (has_lock past b ≡ true) × (has_forget past b ≡ false)
  pub in_prepare : (b : Batch) → (slot past b.lane).phase ≡ InPrepare → (slot past b.lane).number ≡ b.number
      → (has_discard past b ≡ false) × (has_done past b ≡ false)
  pub in_commit : (b : Batch) → (slot past b.lane).phase ≡ InCommit → (slot past b.lane).number ≡ b.number
      → (has_discard past b ≡ false) × (has_done past b ≡ false)
  pub in_discard : (b : Batch) → (slot past b.lane).phase ≡ InDiscard → (slot past b.lane).number ≡ b.number → has_done past b ≡ false
  pub lock_some : (b : Batch) → has_lock past b ≡ true → 0 < length (lock_of past b)

pub other_lane : (c b : Batch) → same_batch c b ≡ false → (c.lane == b.lane) ≡ true → c.number ≡ b.number → ⊥
other_lane c b o e n = grind arith

-- a batch that is being prepared has no later record
abbrev Prepares : List Record → Batch → Type 0
Prepares past b = (slot past b.lane).phase ≡ InPrepare → (slot past b.lane).number ≡ b.number
    → (has_discard past b ≡ false) × (has_done past b ≡ false)

new_prepare : (stamp : ℕ) (c b : Batch) (txs : List Compact) (past : List Record) → Prepares past b
    → (has_discard past b ≡ true → b.number ≤ (slot past b.lane).number)
    → (has_done past b ≡ true → b.number ≤ (slot past b.lane).number) → c.number ≡ (slot past c.lane).number + 1
    → Prepares (Prepare stamp c txs ∷ past) b
new_prepare stamp c b txs past old discard done number p n = grind (arith, old, discard, done)

commit_is_below : (stamp : ℕ) (c b : Batch) (os : List Outcome) (past : List Record)
    → (has_commit past b ≡ true → b.number ≤ (slot past b.lane).number) → (slot past c.lane).number ≡ c.number
    → has_commit (Commit stamp c os ∷ past) b ≡ true → b.number ≤ (slot (Commit stamp c os ∷ past) b.lane).number
commit_is_below stamp c b os past old number h = grind (arith, old)

discard_is_below : (stamp : ℕ) (c b : Batch) (past : List Record) → (has_discard past b ≡ true → b.number ≤ (slot past b.lane).number)
    → (slot past c.lane).number ≡ c.number
    → has_discard (Discard stamp c ∷ past) b ≡ true → b.number ≤ (slot (Discard stamp c ∷ past) b.lane).number
discard_is_below stamp c b past old number h = grind (arith, old)

done_is_below : (stamp : ℕ) (c b : Batch) (past : List Record) → (has_done past b ≡ true → b.number ≤ (slot past b.lane).number)
    → (slot past c.lane).number ≡ c.number
    → has_done (Done stamp c ∷ past) b ≡ true → b.number ≤ (slot (Done stamp c ∷ past) b.lane).number
done_is_below stamp c b past old number h = grind (arith, old)

-- a batch that is locked has no Forget, one that is discarded no Done
abbrev Locks : List Record → Batch → Type 0
Locks past b = (slot past b.lane).phase ≡ InLock → (slot past b.lane).number ≡ b.number → has_forget past b ≡ false

abbrev Discards : List Record → Batch → Type 0
Discards past b = (slot past b.lane).phase ≡ InDiscard → (slot past b.lane).number ≡ b.number → has_done past b ≡ false

new_lock : (stamp : ℕ) (c b : Batch) (es : List Answered) (past : List Record) → Locks past b
    → (has_forget past b ≡ true → b.number ≤ (slot past b.lane).number)
    → (slot past c.lane).number < c.number → Locks (Lock stamp c es ∷ past) b
new_lock stamp c b es past old forget number p n = grind (arith, old, forget)

new_discard : (stamp : ℕ) (c b : Batch) (past : List Record) → Discards past b → has_done past c ≡ false → Discards (Discard stamp c ∷ past) b
new_discard stamp c b past old undone p n = elim (same_or_not c b) [
  | same e ↦ subst (λ d. has_done past d ≡ false) e undone
  | other o ↦ elim (c.lane == b.lane) as (λ v. (c.lane == b.lane) ≡ v → has_done past b ≡ false) [
    | true ↦ λ e. absurd (other_lane c b o e (rw e at n))
    | false ↦ λ e. old (rw e at p) (rw e at n)
  ] refl
]

lock_is_some : (stamp : ℕ) (c b : Batch) (es : List Answered) (past : List Record) → (has_lock past b ≡ true → 0 < length (lock_of past b))
    → 0 < length es
    → has_lock (Lock stamp c es ∷ past) b ≡ true → 0 < length (lock_of (Lock stamp c es ∷ past) b)
lock_is_some stamp c b es past old some h = elim (same_batch c b) as (λ v. is_some (cond v (Some (Lock stamp c es)) (record_of 2 past b)) ≡ true
    → 0 < length (entries_in (cond v (Some (Lock stamp c es)) (record_of 2 past b)))) [ true ↦ λ h. some | false ↦ λ h. old h ] h

forget_is_below : (stamp : ℕ) (c b : Batch) (past : List Record) → (has_forget past b ≡ true → b.number ≤ (slot past b.lane).number)
    → (slot past c.lane).number ≡ c.number
    → has_forget (Forget stamp c ∷ past) b ≡ true → b.number ≤ (slot (Forget stamp c ∷ past) b.lane).number
forget_is_below stamp c b past old number h = grind (arith, old)

module _ (K : Shape) (node : ℕ) (past : List Record) (ok : JournalOk past) (more : MoreOk past) where
  commit_below_next : (r : Record) → Next K node past r → (b : Batch) → has_commit (r ∷ past) b ≡ true → b.number ≤ (slot (r ∷ past) b.lane).number
  commit_below_next (Genesis header hs) next b h = absurd next
  commit_below_next (Carry stamp header source hs numbers) next b h = absurd next
  commit_below_next (Start header) next b h = absurd next
  commit_below_next (CarryStart stamp header source numbers) next b h = absurd next
  commit_below_next (Commit stamp c os) next b h = commit_is_below stamp c b os past (more.commit_below b) next.4 h
  commit_below_next another next b h = omega (arith, more.commit_below b h, number_rises K node past another next b.lane)

  discard_below_next : (r : Record) → Next K node past r → (b : Batch) → has_discard (r ∷ past) b ≡ true → b.number ≤ (slot (r ∷ past) b.lane).number
  discard_below_next (Genesis header hs) next b h = absurd next
  discard_below_next (Carry stamp header source hs numbers) next b h = absurd next
  discard_below_next (Start header) next b h = absurd next
  discard_below_next (CarryStart stamp header source numbers) next b h = absurd next
  discard_below_next (Discard stamp c) next b h = discard_is_below stamp c b past (more.discard_below b) next.4 h
  discard_below_next another next b h = omega (arith, more.discard_below b h, number_rises K node past another next b.lane)

  done_below_next : (r : Record) → Next K node past r → (b : Batch) → has_done (r ∷ past) b ≡ true → b.number ≤ (slot (r ∷ past) b.lane).number
  done_below_next (Genesis header hs) next b h = absurd next
  done_below_next (Carry stamp header source hs numbers) next b h = absurd next
  done_below_next (Start header) next b h = absurd next
  done_below_next (CarryStart stamp header source numbers) next b h = absurd next
  done_below_next (Done stamp c) next b h = done_is_below stamp c b past (more.done_below b) next.4 h
  done_below_next another next b h = omega (arith, more.done_below b h, number_rises K node past another next b.lane)

  in_lock_next : (r : Record) → Next K node past r → (b : Batch) → Locks (r ∷ past) b
  in_lock_next (Genesis header hs) next b p n = absurd next
  in_lock_next (Carry stamp header source hs numbers) next b p n = absurd next
  in_lock_next (Start header) next b p n = absurd next
  in_lock_next (CarryStart stamp header source numbers) next b p n = absurd next
  in_lock_next (Lock stamp c es) next b p n = new_lock stamp c b es past (more.in_lock b) (more.forget_below b) next.3 p n
  in_lock_next another next b p n = grind (arith, more.in_lock b, more.forget_below b)

  in_discard_next : (r : Record) → Next K node past r → (b : Batch) → Discards (r ∷ past) b
  in_discard_next (Genesis header hs) next b p n = absurd next
  in_discard_next (Carry stamp header source hs numbers) next b p n = absurd next
  in_discard_next (Start header) next b p n = absurd next
  in_discard_next (CarryStart stamp header source numbers) next b p n = absurd next
  in_discard_next (Discard stamp c) next b p n = new_discard stamp c b past (more.in_discard b) (more.in_commit c next.3 next.4).1 p n
  in_discard_next another next b p n = grind (arith, more.in_discard b, more.in_commit b)

  lock_some_next : (r : Record) → Next K node past r → (b : Batch) → has_lock (r ∷ past) b ≡ true → 0 < length (lock_of (r ∷ past) b)
  lock_some_next (Genesis header hs) next b h = absurd next
  lock_some_next (Carry stamp header source hs numbers) next b h = absurd next
  lock_some_next (Start header) next b h = absurd next
  lock_some_next (CarryStart stamp header source numbers) next b h = absurd next
  lock_some_next (Lock stamp c es) next b h = lock_is_some stamp c b es past (more.lock_some b) next.5 h
  lock_some_next another next b h = more.lock_some b h

  forget_below_next : (r : Record) → Next K node past r → (b : Batch) → has_forget (r ∷ past) b ≡ true → b.number ≤ (slot (r ∷ past) b.lane).number
  forget_below_next (Genesis header hs) next b h = absurd next
  forget_below_next (Carry stamp header source hs numbers) next b h = absurd next
  forget_below_next (Start header) next b h = absurd next
  forget_below_next (CarryStart stamp header source numbers) next b h = absurd next
  forget_below_next (Forget stamp c) next b h = forget_is_below stamp c b past (more.forget_below b) next.3 h
  forget_below_next another next b h = grind (arith, more.forget_below b)

  in_prepare_next : (r : Record) → Next K node past r → (b : Batch) → Prepares (r ∷ past) b
  in_prepare_next (Genesis header hs) next b p n = absurd next
  in_prepare_next (Carry stamp header source hs numbers) next b p n = absurd next
  in_prepare_next (Start header) next b p n = absurd next
  in_prepare_next (CarryStart stamp header source numbers) next b p n = absurd next
  in_prepare_next (Prepare stamp c txs) next b p n =
      new_prepare stamp c b txs past (more.in_prepare b) (more.discard_below b) (more.done_below b) next.4 p n
  in_prepare_next another next b p n = grind (arith, more.in_prepare b, more.discard_below b, more.done_below b)

  finish_in_finish : (stamp : ℕ) (c : Batch) (ds : List Bool) → Next K node past (Finish stamp c ds) → (b : Batch)
      → (slot (Finish stamp c ds ∷ past) b.lane).phase ≡ InFinish → (slot (Finish stamp c ds ∷ past) b.lane).number ≡ b.number
      → (has_lock past b ≡ true) × (has_forget past b ≡ false)
  finish_in_finish stamp c ds next b p n = elim (same_or_not c b) [
    | same e ↦ subst (λ d. (has_lock past d ≡ true) × (has_forget past d ≡ false)) e ((ok.locked c next.2 next.3).0, more.in_lock c next.2 next.3)
    | other o ↦ elim (c.lane == b.lane) as (λ v. (c.lane == b.lane) ≡ v → (has_lock past b ≡ true) × (has_forget past b ≡ false)) [
      | true ↦ λ e. absurd (other_lane c b o e (rw e at n))
      | false ↦ λ e. more.in_finish b (rw e at p) (rw e at n)
    ] refl
  ]

  in_finish_next : (r : Record) → Next K node past r → (b : Batch) → (slot (r ∷ past) b.lane).phase ≡ InFinish
      → (slot (r ∷ past) b.lane).number ≡ b.number
      → (has_lock (r ∷ past) b ≡ true) × (has_forget (r ∷ past) b ≡ false)
  in_finish_next (Genesis header hs) next b p n = absurd next
  in_finish_next (Carry stamp header source hs numbers) next b p n = absurd next
  in_finish_next (Start header) next b p n = absurd next
  in_finish_next (CarryStart stamp header source numbers) next b p n = absurd next
  in_finish_next (Finish stamp c ds) next b p n = finish_in_finish stamp c ds next b p n
  in_finish_next another next b p n = grind (arith, more.in_finish b, ok.locked b, more.in_lock b)

  commit_in_commit : (stamp : ℕ) (c : Batch) (os : List Outcome) → Next K node past (Commit stamp c os) → (b : Batch)
      → (slot (Commit stamp c os ∷ past) b.lane).phase ≡ InCommit → (slot (Commit stamp c os ∷ past) b.lane).number ≡ b.number
      → (has_discard past b ≡ false) × (has_done past b ≡ false)
  commit_in_commit stamp c os next b p n = elim (same_or_not c b) [
    | same e ↦ subst (λ d. (has_discard past d ≡ false) × (has_done past d ≡ false)) e (more.in_prepare c next.3 next.4)
    | other o ↦ elim (c.lane == b.lane) as (λ v. (c.lane == b.lane) ≡ v → (has_discard past b ≡ false) × (has_done past b ≡ false)) [
      | true ↦ λ e. absurd (other_lane c b o e (rw e at n))
      | false ↦ λ e. more.in_commit b (rw e at p) (rw e at n)
    ] refl
  ]

  in_commit_next : (r : Record) → Next K node past r → (b : Batch) → (slot (r ∷ past) b.lane).phase ≡ InCommit
      → (slot (r ∷ past) b.lane).number ≡ b.number
      → (has_discard (r ∷ past) b ≡ false) × (has_done (r ∷ past) b ≡ false)
  in_commit_next (Genesis header hs) next b p n = absurd next
  in_commit_next (Carry stamp header source hs numbers) next b p n = absurd next
  in_commit_next (Start header) next b p n = absurd next
  in_commit_next (CarryStart stamp header source numbers) next b p n = absurd next
  in_commit_next (Commit stamp c os) next b p n = commit_in_commit stamp c os next b p n
  in_commit_next another next b p n = grind (arith, more.in_commit b, more.in_prepare b)

  pub next_more : (r : Record) → Next K node past r → MoreOk (r ∷ past)
  next_more (Genesis header hs) next = absurd next
  next_more (Carry stamp header source hs numbers) next = absurd next
  next_more (Start header) next = absurd next
  next_more (CarryStart stamp header source numbers) next = absurd next
  next_more another next = record {
    forget_below = forget_below_next another next;
    commit_below = commit_below_next another next;
    discard_below = discard_below_next another next;
    done_below = done_below_next another next;
    in_lock = in_lock_next another next;
    in_finish = in_finish_next another next;
    in_prepare = in_prepare_next another next;
    in_commit = in_commit_next another next;
    in_discard = in_discard_next another next;
    lock_some = lock_some_next another next;
  }
