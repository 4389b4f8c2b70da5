-- In one journal a lane's earlier batches are done, and a batch that is forgotten was finished.
use Rattle.std.proofs.Common.{◌≡◌, ℕ, ◌<◌, ◌≤◌, Bool, true, false, ◌==◌, cond, List, ◌∷◌, Some, is_some, refl, sym, ◌∙◌, subst, arith}
use Rattle.cbdc_model.specs.Records.{Shape, Batch, same_batch, Compact, Outcome, Record, record_of, Genesis, Lock, Finish, Forget, Start, Prepare}
use Rattle.cbdc_model.specs.Records.{Commit, Discard, Done, Upgrade, Carry, CarryStart, Seal}
use Rattle.cbdc_model.specs.Slots.{slot, Idle, InFinish, InCommit, InDiscard}
use Rattle.ledger_laws.proofs.Next.{Next, has_finish, has_prepare, has_commit, has_forget}
use Rattle.ledger_laws.proofs.Slots.{JournalOk, same_batch_self}
use Rattle.ledger_laws.proofs.More.{MoreOk, has_done, other_lane}
use Rattle.ledger_laws.proofs.View.{same, other, same_or_not}
use Rattle.ledger_laws.proofs.Lookups.{true_false}

pub record DoneOk (K : Shape) (node : ℕ) (past : List Record) : Type 0 where
  pub pure : (b : Batch) → K.coordinators ≤ node → has_prepare past b ≡ false
  pub past_done : (b : Batch) → has_prepare past b ≡ true → b.number < (slot past b.lane).number → has_done past b ≡ true
  pub idle_done : (b : Batch) → has_prepare past b ≡ true → (slot past b.lane).phase ≡ Idle → has_done past b ≡ true
  pub finish_here : (b : Batch) → (slot past b.lane).phase ≡ InFinish → (slot past b.lane).number ≡ b.number → has_finish past b ≡ true
  pub forgot : (b : Batch) → has_forget past b ≡ true → has_finish past b ≡ true

at_lane : {A : Type 0} (f : ℕ → A) (a b : ℕ) (c : A) → (a == b) ≡ true → f a ≡ c → f b ≡ c
at_lane f a b c e h = let same_lane : a ≡ b = grind (arith, e) in subst (λ n. f n ≡ c) same_lane h

more_done : (stamp : ℕ) (c : Batch) (past : List Record) (b : Batch) → has_done past b ≡ true → has_done (Done stamp c ∷ past) b ≡ true
more_done stamp c past b h = elim (same_batch c b) as (λ t. is_some (cond t (Some (Done stamp c)) (record_of 9 past b)) ≡ true)
    [ true ↦ refl | false ↦ h ]

own_finish : (stamp : ℕ) (c : Batch) (ds : List Bool) (past : List Record) → has_finish (Finish stamp c ds ∷ past) c ≡ true
own_finish stamp c ds past = rw (same_batch_self c) refl

more_finish : (stamp : ℕ) (c : Batch) (ds : List Bool) (past : List Record) (b : Batch) → has_finish past b ≡ true
    → has_finish (Finish stamp c ds ∷ past) b ≡ true
more_finish stamp c ds past b h = elim (same_batch c b) as (λ t. is_some (cond t (Some (Finish stamp c ds)) (record_of 3 past b)) ≡ true)
    [ true ↦ refl | false ↦ h ]

-- a batch that is finished has its Finish
abbrev Finishes : List Record → Batch → Type 0
Finishes past b = (slot past b.lane).phase ≡ InFinish → (slot past b.lane).number ≡ b.number → has_finish past b ≡ true

new_finish : (stamp : ℕ) (c b : Batch) (ds : List Bool) (past : List Record) → Finishes past b → Finishes (Finish stamp c ds ∷ past) b
new_finish stamp c b ds past old p e = elim (same_or_not c b) [
  | same s ↦ subst (λ d. has_finish (Finish stamp c ds ∷ past) d ≡ true) s (own_finish stamp c ds past)
  | other o ↦ elim (c.lane == b.lane) as (λ v. (c.lane == b.lane) ≡ v → has_finish (Finish stamp c ds ∷ past) b ≡ true) [
    | true ↦ λ l. absurd (other_lane c b o l (rw l at e))
    | false ↦ λ l. more_finish stamp c ds past b (old (rw l at p) (rw l at e))
  ] refl
]

own_done : (stamp : ℕ) (c : Batch) (past : List Record) → has_done (Done stamp c ∷ past) c ≡ true
own_done stamp c past = rw (same_batch_self c) refl

own_commit : (stamp : ℕ) (c : Batch) (os : List Outcome) (past : List Record) → has_commit (Commit stamp c os ∷ past) c ≡ true
own_commit stamp c os past = rw (same_batch_self c) refl

strictly : (a b : ℕ) → b ≤ a → (a ≡ b → ⊥) → b < a
strictly a b le apart = grind (arith, apart)

module _ (K : Shape) (node : ℕ) (past : List Record) (ok : JournalOk past) (more : MoreOk past) (dones : DoneOk K node past) where
  prepare_past : (stamp : ℕ) (c : Batch) (txs : List Compact) → Next K node past (Prepare stamp c txs) → (b : Batch)
      → has_prepare (Prepare stamp c txs ∷ past) b ≡ true → b.number < (slot (Prepare stamp c txs ∷ past) b.lane).number → has_done past b ≡ true
  prepare_past stamp c txs next b h l = elim (same_or_not c b) [
    | same e ↦ absurd (itself c b e l)
    | other o ↦
        let old : has_prepare past b ≡ true = rw o at h in
        elim (c.lane == b.lane) as (λ v. (c.lane == b.lane) ≡ v → has_done past b ≡ true) [
          | true ↦ λ e. dones.idle_done b old (at_lane (λ n. (slot past n).phase) c.lane b.lane Idle e next.3)
          | false ↦ λ e. dones.past_done b old (rw e at l)
        ] refl
  ]
    where
      itself : (c b : Batch) → c ≡ b → b.number < (slot (Prepare stamp c txs ∷ past) b.lane).number → ⊥
      itself c b e l = let l' : c.number < (slot (Prepare stamp c txs ∷ past) c.lane).number =
          subst (λ d. d.number < (slot (Prepare stamp c txs ∷ past) d.lane).number) (sym e) l in grind arith

  commit_past : (stamp : ℕ) (c : Batch) (os : List Outcome) → Next K node past (Commit stamp c os) → (b : Batch) → has_prepare past b ≡ true
      → b.number < (slot (Commit stamp c os ∷ past) b.lane).number → has_done past b ≡ true
  commit_past stamp c os next b h l = elim (c.lane == b.lane) as (λ v. (c.lane == b.lane) ≡ v → has_done past b ≡ true) [
    | true ↦ λ e. dones.past_done b h (
        let k : (slot past b.lane).number ≡ c.number = at_lane (λ n. (slot past n).number) c.lane b.lane c.number e next.4 in
        let l' : b.number < c.number = rw e at l in omega arith)
    | false ↦ λ e. dones.past_done b h (rw e at l)
  ] refl

  discard_past : (stamp : ℕ) (c : Batch) → Next K node past (Discard stamp c) → (b : Batch) → has_prepare past b ≡ true
      → b.number < (slot (Discard stamp c ∷ past) b.lane).number → has_done past b ≡ true
  discard_past stamp c next b h l = elim (c.lane == b.lane) as (λ v. (c.lane == b.lane) ≡ v → has_done past b ≡ true) [
    | true ↦ λ e. dones.past_done b h (
        let k : (slot past b.lane).number ≡ c.number = at_lane (λ n. (slot past n).number) c.lane b.lane c.number e next.4 in
        let l' : b.number < c.number = rw e at l in omega arith)
    | false ↦ λ e. dones.past_done b h (rw e at l)
  ] refl

  done_past : (stamp : ℕ) (c : Batch) → Next K node past (Done stamp c) → (b : Batch) → has_prepare past b ≡ true
      → b.number < (slot (Done stamp c ∷ past) b.lane).number → has_done past b ≡ true
  done_past stamp c next b h l = elim (c.lane == b.lane) as (λ v. (c.lane == b.lane) ≡ v → has_done past b ≡ true) [
    | true ↦ λ e. dones.past_done b h (
        let k : (slot past b.lane).number ≡ c.number = at_lane (λ n. (slot past n).number) c.lane b.lane c.number e next.4 in
        let l' : b.number < c.number = rw e at l in omega arith)
    | false ↦ λ e. dones.past_done b h (rw e at l)
  ] refl

  done_idle : (stamp : ℕ) (c : Batch) → Next K node past (Done stamp c) → (b : Batch) → has_prepare past b ≡ true
      → (slot (Done stamp c ∷ past) b.lane).phase ≡ Idle → has_done (Done stamp c ∷ past) b ≡ true
  done_idle stamp c next b h p = elim (same_or_not c b) [
    | same e ↦ subst (λ d. has_done (Done stamp c ∷ past) d ≡ true) e (own_done stamp c past)
    | other o ↦ elim (c.lane == b.lane) as (λ v. (c.lane == b.lane) ≡ v → has_done (Done stamp c ∷ past) b ≡ true) [
      | true ↦ λ e. more_done stamp c past b (dones.past_done b h (
          let k : (slot past b.lane).number ≡ c.number = at_lane (λ n. (slot past n).number) c.lane b.lane c.number e next.4 in
          strictly (slot past b.lane).number b.number (ok.prepare_below b h) (λ q. other_lane c b o e (sym k ∙ q))))
      | false ↦ λ e. more_done stamp c past b (dones.idle_done b h (rw e at p))
    ] refl
  ]

  past_done_next : (r : Record) → Next K node past r → (b : Batch) → has_prepare (r ∷ past) b ≡ true → b.number < (slot (r ∷ past) b.lane).number
      → has_done (r ∷ past) b ≡ true
  past_done_next (Genesis header hs) next b h l = absurd next
  past_done_next (Start header) next b h l = absurd next
  past_done_next (Prepare stamp c txs) next b h l = prepare_past stamp c txs next b h l
  past_done_next (Commit stamp c os) next b h l = commit_past stamp c os next b h l
  past_done_next (Discard stamp c) next b h l = discard_past stamp c next b h l
  past_done_next (Done stamp c) next b h l = more_done stamp c past b (done_past stamp c next b h l)
  past_done_next (Carry stamp header source hs numbers) next b h l = absurd next
  past_done_next (CarryStart stamp header source numbers) next b h l = absurd next
  past_done_next (Upgrade stamp batch) next b h l = dones.past_done b h l
  past_done_next (Seal stamp to shards) next b h l = dones.past_done b h l
  past_done_next another next b h l = absurd (true_false _ h (dones.pure b next.1.0))

  idle_done_next : (r : Record) → Next K node past r → (b : Batch) → has_prepare (r ∷ past) b ≡ true → (slot (r ∷ past) b.lane).phase ≡ Idle
      → has_done (r ∷ past) b ≡ true
  idle_done_next (Genesis header hs) next b h p = absurd next
  idle_done_next (Carry stamp header source hs numbers) next b h p = absurd next
  idle_done_next (Start header) next b h p = absurd next
  idle_done_next (CarryStart stamp header source numbers) next b h p = absurd next
  idle_done_next (Lock stamp c es) next b h p = absurd (true_false _ h (dones.pure b next.1.0))
  idle_done_next (Finish stamp c ds) next b h p = absurd (true_false _ h (dones.pure b next.1.0))
  idle_done_next (Forget stamp c) next b h p = absurd (true_false _ h (dones.pure b next.1.0))
  idle_done_next (Done stamp c) next b h p = done_idle stamp c next b h p
  idle_done_next another next b h p = grind (arith, dones.idle_done b, dones.past_done b, ok.prepare_below b)

  finish_here_next : (r : Record) → Next K node past r → (b : Batch) → Finishes (r ∷ past) b
  finish_here_next (Genesis header hs) next b p e = absurd next
  finish_here_next (Carry stamp header source hs numbers) next b p e = absurd next
  finish_here_next (Start header) next b p e = absurd next
  finish_here_next (CarryStart stamp header source numbers) next b p e = absurd next
  finish_here_next (Finish stamp c ds) next b p e = new_finish stamp c b ds past (dones.finish_here b) p e
  finish_here_next another next b p e = grind (arith, dones.finish_here b)

  forgot_next : (r : Record) → Next K node past r → (b : Batch) → has_forget (r ∷ past) b ≡ true → has_finish (r ∷ past) b ≡ true
  forgot_next (Genesis header hs) next b h = absurd next
  forgot_next (Carry stamp header source hs numbers) next b h = absurd next
  forgot_next (Start header) next b h = absurd next
  forgot_next (CarryStart stamp header source numbers) next b h = absurd next
  forgot_next (Finish stamp c ds) next b h = more_finish stamp c ds past b (dones.forgot b h)
  forgot_next (Forget stamp c) next b h = elim (same_or_not c b) [
    | same e ↦ subst (λ d. has_finish past d ≡ true) e (dones.finish_here c next.2 next.3)
    | other o ↦ dones.forgot b (rw o at h)
  ]
  forgot_next another next b h = dones.forgot b h

  pub next_done : (r : Record) → Next K node past r → DoneOk K node (r ∷ past)
  next_done (Genesis header hs) next = absurd next
  next_done (Carry stamp header source hs numbers) next = absurd next
  next_done (Start header) next = absurd next
  next_done (CarryStart stamp header source numbers) next = absurd next
  next_done another next = record {
    pure = λ b h. grind (arith, dones.pure b);
    past_done = past_done_next another next;
    idle_done = idle_done_next another next;
    finish_here = finish_here_next another next;
    forgot = forgot_next another next;
  }

-- a batch that is committed, discarded or done has its Prepare and its Commit
pub record PhaseOk (past : List Record) : Type 0 where
  pub commit_here : (b : Batch) → (slot past b.lane).phase ≡ InCommit → (slot past b.lane).number ≡ b.number
      → (has_prepare past b ≡ true) × (has_commit past b ≡ true)
  pub discard_here : (b : Batch) → (slot past b.lane).phase ≡ InDiscard → (slot past b.lane).number ≡ b.number
      → (has_prepare past b ≡ true) × (has_commit past b ≡ true)
  pub done_prepared : (b : Batch) → has_done past b ≡ true → (has_prepare past b ≡ true) × (has_commit past b ≡ true)

pub data Which (c b : Batch) : Type 0 where
  itself : c ≡ b → Which c b
  sibling : same_batch c b ≡ false → (c.lane == b.lane) ≡ true → (c.number ≡ b.number → ⊥) → Which c b
  stranger : same_batch c b ≡ false → (c.lane == b.lane) ≡ false → Which c b

pub which : (c b : Batch) → Which c b
which c b = elim (same_or_not c b) [
  | same e ↦ itself e
  | other o ↦ elim (c.lane == b.lane) as (λ v. (c.lane == b.lane) ≡ v → Which c b) [
    | true ↦ λ e. sibling o e (other_lane c b o e)
    | false ↦ λ e. stranger o e
  ] refl
]

module _ (K : Shape) (node : ℕ) (past : List Record) (ok : JournalOk past) (phases : PhaseOk past) where
  abbrev Both : Batch → Type 0
  Both b = (has_prepare past b ≡ true) × (has_commit past b ≡ true)

  commit_commit_here : (stamp : ℕ) (c : Batch) (os : List Outcome) → Next K node past (Commit stamp c os) → (b : Batch)
      → (slot (Commit stamp c os ∷ past) b.lane).phase ≡ InCommit → (slot (Commit stamp c os ∷ past) b.lane).number ≡ b.number
      → (has_prepare (Commit stamp c os ∷ past) b ≡ true) × (has_commit (Commit stamp c os ∷ past) b ≡ true)
  commit_commit_here stamp c os next b p n = elim (which c b) [
    | itself e ↦ subst (λ d. (has_prepare (Commit stamp c os ∷ past) d ≡ true) × (has_commit (Commit stamp c os ∷ past) d ≡ true)) e
        ((ok.prepared c next.3 next.4).0, own_commit stamp c os past)
    | sibling o l u ↦ absurd (u (rw l at n))
    | stranger o l ↦ let h : Both b = phases.commit_here b (rw l at p) (rw l at n) in (h.0, rw o h.1)
  ]

  discard_discard_here : (stamp : ℕ) (c : Batch) → Next K node past (Discard stamp c) → (b : Batch)
      → (slot (Discard stamp c ∷ past) b.lane).phase ≡ InDiscard → (slot (Discard stamp c ∷ past) b.lane).number ≡ b.number → Both b
  discard_discard_here stamp c next b p n = elim (which c b) [
    | itself e ↦ subst Both e (phases.commit_here c next.3 next.4)
    | sibling o l u ↦ absurd (u (rw l at n))
    | stranger o l ↦ phases.discard_here b (rw l at p) (rw l at n)
  ]

  done_done_prepared : (stamp : ℕ) (c : Batch) → Next K node past (Done stamp c) → (b : Batch) → has_done (Done stamp c ∷ past) b ≡ true → Both b
  done_done_prepared stamp c next b h = elim (same_or_not c b) [
    | same e ↦ subst Both e (phases.discard_here c next.3 next.4)
    | other o ↦ phases.done_prepared b (rw o at h)
  ]

  commit_here_next : (r : Record) → Next K node past r → (b : Batch) → (slot (r ∷ past) b.lane).phase ≡ InCommit
      → (slot (r ∷ past) b.lane).number ≡ b.number
      → (has_prepare (r ∷ past) b ≡ true) × (has_commit (r ∷ past) b ≡ true)
  commit_here_next (Genesis header hs) next b p n = absurd next
  commit_here_next (Carry stamp header source hs numbers) next b p n = absurd next
  commit_here_next (Start header) next b p n = absurd next
  commit_here_next (CarryStart stamp header source numbers) next b p n = absurd next
  commit_here_next (Commit stamp c os) next b p n = commit_commit_here stamp c os next b p n
  commit_here_next another next b p n = grind (arith, phases.commit_here b)

  discard_here_next : (r : Record) → Next K node past r → (b : Batch) → (slot (r ∷ past) b.lane).phase ≡ InDiscard
      → (slot (r ∷ past) b.lane).number ≡ b.number
      → (has_prepare (r ∷ past) b ≡ true) × (has_commit (r ∷ past) b ≡ true)
  discard_here_next (Genesis header hs) next b p n = absurd next
  discard_here_next (Carry stamp header source hs numbers) next b p n = absurd next
  discard_here_next (Start header) next b p n = absurd next
  discard_here_next (CarryStart stamp header source numbers) next b p n = absurd next
  discard_here_next (Discard stamp c) next b p n = discard_discard_here stamp c next b p n
  discard_here_next another next b p n = grind (arith, phases.discard_here b)

  done_prepared_next : (r : Record) → Next K node past r → (b : Batch) → has_done (r ∷ past) b ≡ true
      → (has_prepare (r ∷ past) b ≡ true) × (has_commit (r ∷ past) b ≡ true)
  done_prepared_next (Genesis header hs) next b h = absurd next
  done_prepared_next (Carry stamp header source hs numbers) next b h = absurd next
  done_prepared_next (Start header) next b h = absurd next
  done_prepared_next (CarryStart stamp header source numbers) next b h = absurd next
  done_prepared_next (Done stamp c) next b h = done_done_prepared stamp c next b h
  done_prepared_next another next b h = grind (arith, phases.done_prepared b)

  pub next_phase : (r : Record) → Next K node past r → PhaseOk (r ∷ past)
  next_phase r next = record {
    commit_here = commit_here_next r next;
    discard_here = discard_here_next r next;
    done_prepared = done_prepared_next r next;
  }
