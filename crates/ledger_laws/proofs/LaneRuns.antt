-- One lane's open batch is brought to its Done, phase by phase.
use Rattle.std.proofs.Common.{◌≡◌, ◌⊎◌, inl, inr, ℕ, zero, suc, ◌+◌, ◌*◌, ◌^◌, ◌<◌, ◌≤◌, ◌/◌, true, false, ◌&&◌, ◌==◌, List, ◌∷◌, Some, is_some, refl}
use Rattle.std.proofs.Common.{sym, ap, ◌∙◌, subst, arith}
use Rattle.cbdc_model.specs.Records.{Shape, Batch, same_batch, Compact, Outcome, Record, record_of, kind_of, is_of, txs_in, txs_of, last_stamp}
use Rattle.cbdc_model.specs.Records.{Prepare, Commit, Discard, Done}
use Rattle.cbdc_model.specs.Slots.{slot, Idle, InPrepare, InCommit, InDiscard}
use Rattle.cbdc_model.specs.Ranges.{shard_node, part, is_no_part, Concerned}
use Rattle.cbdc_model.specs.Causes.{AllHave}
use Rattle.cbdc_model.specs.History.{Minted}
use Rattle.cbdc_model.specs.World.{World, journals}
use Rattle.ledger_laws.proofs.Rows.{at, away, at_node}
use Rattle.ledger_laws.proofs.Lookups.{true_false, number_self}
use Rattle.ledger_laws.proofs.Moves.{split_test}
use Rattle.ledger_laws.proofs.Found.{found_new}
use Rattle.ledger_laws.proofs.Resuming.{Writes, lock_writes, commit_writes, finish_writes, discard_writes, forget_writes, done_writes}
use Rattle.ledger_laws.proofs.Writing.{AllLocked, Open, Goes, Written, write, stay, go_on, weaken, raise}

below : (n s : ℕ) → s < suc n → (n == s) ≡ false → s < n
below n s lt e = grind arith

apart : (m n s : ℕ) → (m + n == m + s) ≡ false → (n == s) ≡ false
apart m n s e = grind arith

not_home : (c n h : ℕ) → h < c → (c + n == h) ≡ false
not_home c n h lt = grind arith

-- a coordinator's journal in which the Prepare of the lane's last batch stands
pub record Prepared (b : Batch) (txs : List Compact) (H : List Record) : Type 0 where
  pub cause : ℕ
  pub stands : record_of 6 H b ≡ Some (Prepare cause b txs)
  pub number : (slot H b.lane).number ≡ b.number

pub record Committed (b : Batch) (H : List Record) : Type 0 where
  pub stamp : ℕ
  pub outcomes : List Outcome
  pub stands : record_of 7 H b ≡ Some (Commit stamp b outcomes)

pub record Discarded (b : Batch) (H : List Record) : Type 0 where
  pub stamp : ℕ
  pub stands : record_of 8 H b ≡ Some (Discard stamp b)

-- what a record that was written leaves of it
module _ (b : Batch) (txs : List Compact) (H : List Record) (p : Prepared b txs H) where
  after_commit : (r : Record) → ((kind_of r == 7) && is_of b r) ≡ true
      → Prepared b txs (r ∷ H) × Committed b (r ∷ H) × ((slot (r ∷ H) b.lane).phase ≡ InCommit)
  after_commit (Commit stamp c os) t =
      subst (λ d. Prepared b txs (Commit stamp d os ∷ H) × Committed b (Commit stamp d os ∷ H)
      × ((slot (Commit stamp d os ∷ H) b.lane).phase ≡ InCommit)) (sym (split_test 7 7 c b t).1) (
        record { cause = p.cause; stands = p.stands; number = rw (number_self b.lane) },
        record { stamp = stamp; outcomes = os; stands = found_new 7 (Commit stamp b os) H b (itself b) },
        rw (number_self b.lane),
      )
    where
      itself : (b : Batch) → ((7 == 7) && same_batch b b) ≡ true
      itself b = grind arith
  after_commit other t = absurd (let z : false ≡ true = t in cc)

  after_discard : (r : Record) → ((kind_of r == 8) && is_of b r) ≡ true
      → Prepared b txs (r ∷ H) × Discarded b (r ∷ H) × ((slot (r ∷ H) b.lane).phase ≡ InDiscard)
  after_discard (Discard stamp c) t =
      subst (λ d. Prepared b txs (Discard stamp d ∷ H) × Discarded b (Discard stamp d ∷ H) × ((slot (Discard stamp d ∷ H) b.lane).phase ≡ InDiscard))
      (sym (split_test 8 8 c b t).1) (
        record { cause = p.cause; stands = p.stands; number = rw (number_self b.lane) },
        record { stamp = stamp; stands = found_new 8 (Discard stamp b) H b (itself b) },
        rw (number_self b.lane),
      )
    where
      itself : (b : Batch) → ((8 == 8) && same_batch b b) ≡ true
      itself b = grind arith
  after_discard other t = absurd (let z : false ≡ true = t in cc)

  after_done : (r : Record) → ((kind_of r == 9) && is_of b r) ≡ true → (slot (r ∷ H) b.lane).phase ≡ Idle
  after_done (Done stamp c) t = subst (λ d. (slot (Done stamp d ∷ H) b.lane).phase ≡ Idle) (sym (split_test 9 9 c b t).1) (rw (number_self b.lane))
  after_done other t = absurd (let z : false ≡ true = t in cc)

module _ (K : Shape) (minting : Minted) (P : Compact → Type 0) (shards : 0 < K.shards) (b : Batch) (txs : List Compact)
    (home : b.lane / K.lanes < K.coordinators) where
  abbrev At : World → List Record → Type 0
  At w H = journals w (b.lane / K.lanes) ≡ H

  -- the shards below n that the batch concerns have their record of the kind, and the coordinator's journal is as it was
  record Asked (kind : ℕ) (H : List Record) (n : ℕ) (w : World) : Type 0 where
    same : journals w (b.lane / K.lanes) ≡ H
    all : (s : ℕ) → s < n → Concerned K txs s → is_some (record_of kind (journals w (shard_node K s)) b) ≡ true

  -- what a shard may still have to write
  abbrev Due : ℕ → ℕ → List Record → Type 0
  Due limit kind H = (top : ℕ) (w : World) → suc top ≤ limit → Open K minting P shards top w → At w H → (s : ℕ) → Concerned K txs s
      → is_some (record_of kind (journals w (shard_node K s)) b) ≡ false → Writes K minting.id P (journals w) (shard_node K s) b kind top

  ask : (limit kind : ℕ) (H : List Record) → Due limit kind H → (n : ℕ) → n ≤ K.shards → (top : ℕ) (w : World) → top + n ≤ limit
      → Open K minting P shards top w → At w H
      → Goes K minting P shards (top + n) b.lane w (Asked kind H n)
  ask limit kind H due zero le top w room o same =
      stay K minting P shards (top + 0) b.lane w (Asked kind H 0) (raise K minting P shards top (top + 0) w (omega arith) o)
      (record { same = same; all = λ s lt c. absurd (omega arith) })
  ask limit kind H due (suc n) le top w room o same =
      go_on K minting P shards (top + n) (top + suc n) b.lane w (Asked kind H n) (Asked kind H (suc n))
      (ask limit kind H due n (omega arith) top w (omega arith) o same) turn
    where
      idle_turn : (v : World) → Open K minting P shards (top + n) v → Asked kind H n v
          → (Concerned K txs n → is_some (record_of kind (journals v (shard_node K n)) b) ≡ true)
          → Goes K minting P shards (top + suc n) b.lane v (Asked kind H (suc n))
      idle_turn v o q here = stay K minting P shards (top + suc n) b.lane v (Asked kind H (suc n))
          (raise K minting P shards (top + n) (top + suc n) v (omega arith) o)
          (record { same = q.same; all = λ s lt c. by_place s lt c })
        where
          by_place : (s : ℕ) → s < suc n → Concerned K txs s → is_some (record_of kind (journals v (shard_node K s)) b) ≡ true
          by_place s lt c = elim (at_node n s) [
            | at e ↦ subst (λ k. Concerned K txs k → is_some (record_of kind (journals v (shard_node K k)) b) ≡ true) e here c
            | away e ↦ q.all s (below n s lt e) c
          ]

      new_one : (v u : World) → Asked kind H n v → Written K minting P shards v (shard_node K n) kind b u → Asked kind H (suc n) u
      new_one v u q wr = record {
        same = wr.elsewhere (b.lane / K.lanes) (not_home K.coordinators n (b.lane / K.lanes) home) ∙ q.same;
        all = λ s lt c. elim (at_node (shard_node K n) (shard_node K s)) [
          | at e ↦ subst (λ k. is_some (record_of kind (journals u k) b) ≡ true) e
              (subst (λ J. is_some (record_of kind J b) ≡ true) (sym wr.here.1.1)
              (ap is_some (found_new kind wr.here.0 (journals v (shard_node K n)) b wr.here.1.0)))
          | away e ↦ subst (λ J. is_some (record_of kind J b) ≡ true) (sym (wr.elsewhere (shard_node K s) e))
              (q.all s (below n s lt (apart K.coordinators n s e)) c)
        ];
      }

      turn : (v : World) → Open K minting P shards (top + n) v → Asked kind H n v
          → Goes K minting P shards (top + suc n) b.lane v (Asked kind H (suc n))
      turn v o q = elim (is_no_part (part K n 0 txs)) as
          (λ c. is_no_part (part K n 0 txs) ≡ c → Goes K minting P shards (top + suc n) b.lane v (Asked kind H (suc n))) [
            | true ↦ λ e. idle_turn v o q (λ c. absurd (true_false _ e c.1))
            | false ↦ λ e. elim (is_some (record_of kind (journals v (shard_node K n)) b)) as
                (λ h. is_some (record_of kind (journals v (shard_node K n)) b) ≡ h
                → Goes K minting P shards (top + suc n) b.lane v (Asked kind H (suc n))) [
                  | true ↦ λ h. idle_turn v o q (λ c. h)
                  | false ↦ λ h. weaken K minting P shards (suc (top + n)) (top + suc n) b.lane v
                      (Written K minting P shards v (shard_node K n) kind b)
                      (Asked kind H (suc n)) (omega arith)
                      (write K minting P shards (top + n) v (shard_node K n) kind b o (let z = o.size in omega arith)
                      (due (top + n) v (omega arith) o q.same n (omega arith, e) h))
                      (λ u wr. new_one v u q wr)
                ] refl
          ] refl

  -- the lane is idle at its coordinator
  abbrev pub AtRest : World → Type 0
  AtRest w = (slot (journals w (b.lane / K.lanes)) b.lane).phase ≡ Idle

  have_all : (kind : ℕ) (H : List Record) (w : World) → Prepared b txs H → Asked kind H K.shards w → AllHave K (journals w) kind b
  have_all kind H w p q s c = q.all s c.0 (subst (λ ts. Concerned K ts s) (ap (λ J. txs_of J b) q.same ∙ ap txs_in p.stands) c)

  -- what may be written, of the journals of a world
  module _ (H : List Record) (p : Prepared b txs H) (top : ℕ) (w : World) (room : suc top ≤ 2 ^ 62 + 2 ^ 20) (o : Open K minting P shards top w)
      (same : At w H) where
    stands_here : record_of 6 (journals w (b.lane / K.lanes)) b ≡ Some (Prepare p.cause b txs)
    stands_here = ap (λ J. record_of 6 J b) same ∙ p.stands

    number_here : (slot (journals w (b.lane / K.lanes)) b.lane).number ≡ b.number
    number_here = ap (λ J. (slot J b.lane).number) same ∙ p.number

    lock_due : suc top ≤ 2 ^ 62 → (s : ℕ) → Concerned K txs s → is_some (record_of 2 (journals w (shard_node K s)) b) ≡ false
        → Writes K minting.id P (journals w) (shard_node K s) b 2 top
    lock_due = subst (λ J. ((n : ℕ) → last_stamp (J n) ≤ top) → record_of 6 (J (b.lane / K.lanes)) b ≡ Some (Prepare p.cause b txs)
        → (slot (J (b.lane / K.lanes)) b.lane).number ≡ b.number
        → suc top ≤ 2 ^ 62 → (s : ℕ) → Concerned K txs s → is_some (record_of 2 (J (shard_node K s)) b) ≡ false
        → Writes K minting.id P J (shard_node K s) b 2 top)
        (λ i n. o.kept.history n i)
        (λ low e n in_time s c m. lock_writes K minting P shards o.kept.later o.kept.kept top low room b p.cause txs e n in_time s c m) o.low
        stands_here number_here

    commit_due : (slot (journals w (b.lane / K.lanes)) b.lane).phase ≡ InPrepare → AllHave K (journals w) 2 b
        → Writes K minting.id P (journals w) (b.lane / K.lanes) b 7 top
    commit_due = subst (λ J. ((n : ℕ) → last_stamp (J n) ≤ top) → record_of 6 (J (b.lane / K.lanes)) b ≡ Some (Prepare p.cause b txs)
        → (slot (J (b.lane / K.lanes)) b.lane).number ≡ b.number
        → (slot (J (b.lane / K.lanes)) b.lane).phase ≡ InPrepare → AllHave K J 2 b → Writes K minting.id P J (b.lane / K.lanes) b 7 top)
        (λ i n. o.kept.history n i)
        (λ low e n ph h. commit_writes K minting P shards o.kept.later o.kept.kept top low room b p.cause txs e n ph h) o.low stands_here number_here

    finish_due : (c : Committed b H) (s : ℕ) → Concerned K txs s → is_some (record_of 3 (journals w (shard_node K s)) b) ≡ false
        → Writes K minting.id P (journals w) (shard_node K s) b 3 top
    finish_due c = subst (λ J. ((n : ℕ) → last_stamp (J n) ≤ top) → record_of 6 (J (b.lane / K.lanes)) b ≡ Some (Prepare p.cause b txs)
        → (slot (J (b.lane / K.lanes)) b.lane).number ≡ b.number
        → record_of 7 (J (b.lane / K.lanes)) b ≡ Some (Commit c.stamp b c.outcomes)
        → (s : ℕ) → Concerned K txs s → is_some (record_of 3 (J (shard_node K s)) b) ≡ false → Writes K minting.id P J (shard_node K s) b 3 top)
        (λ i n. o.kept.history n i)
        (λ low e n d s t m. finish_writes K minting P shards o.kept.later o.kept.kept top low room b p.cause txs e n c.stamp c.outcomes d s t m)
        o.low stands_here number_here
        (ap (λ J. record_of 7 J b) same ∙ c.stands)

    discard_due : (slot (journals w (b.lane / K.lanes)) b.lane).phase ≡ InCommit → AllHave K (journals w) 3 b
        → Writes K minting.id P (journals w) (b.lane / K.lanes) b 8 top
    discard_due = subst (λ J. ((n : ℕ) → last_stamp (J n) ≤ top) → record_of 6 (J (b.lane / K.lanes)) b ≡ Some (Prepare p.cause b txs)
        → (slot (J (b.lane / K.lanes)) b.lane).number ≡ b.number
        → (slot (J (b.lane / K.lanes)) b.lane).phase ≡ InCommit → AllHave K J 3 b → Writes K minting.id P J (b.lane / K.lanes) b 8 top)
        (λ i n. o.kept.history n i)
        (λ low e n ph h. discard_writes K minting P shards o.kept.later o.kept.kept top low room b p.cause txs e n ph h) o.low stands_here number_here

    forget_due : (d : Discarded b H) (s : ℕ) → Concerned K txs s → is_some (record_of 4 (journals w (shard_node K s)) b) ≡ false
        → Writes K minting.id P (journals w) (shard_node K s) b 4 top
    forget_due d = subst (λ J. ((n : ℕ) → last_stamp (J n) ≤ top) → record_of 6 (J (b.lane / K.lanes)) b ≡ Some (Prepare p.cause b txs)
        → (slot (J (b.lane / K.lanes)) b.lane).number ≡ b.number
        → record_of 8 (J (b.lane / K.lanes)) b ≡ Some (Discard d.stamp b)
        → (s : ℕ) → Concerned K txs s → is_some (record_of 4 (J (shard_node K s)) b) ≡ false → Writes K minting.id P J (shard_node K s) b 4 top)
        (λ i n. o.kept.history n i)
        (λ low e n c s t m. forget_writes K minting P shards o.kept.later o.kept.kept top low room b p.cause txs e n d.stamp c s t m) o.low
        stands_here number_here
        (ap (λ J. record_of 8 J b) same ∙ d.stands)

    done_due : (slot (journals w (b.lane / K.lanes)) b.lane).phase ≡ InDiscard → AllHave K (journals w) 4 b
        → Writes K minting.id P (journals w) (b.lane / K.lanes) b 9 top
    done_due = subst (λ J. ((n : ℕ) → last_stamp (J n) ≤ top) → record_of 6 (J (b.lane / K.lanes)) b ≡ Some (Prepare p.cause b txs)
        → (slot (J (b.lane / K.lanes)) b.lane).number ≡ b.number
        → (slot (J (b.lane / K.lanes)) b.lane).phase ≡ InDiscard → AllHave K J 4 b → Writes K minting.id P J (b.lane / K.lanes) b 9 top)
        (λ i n. o.kept.history n i)
        (λ low e n ph h. done_writes K minting P shards o.kept.later o.kept.kept top low room b p.cause txs e n ph h) o.low stands_here number_here

  -- from each phase on
  from_discard : (H : List Record) → Prepared b txs H → Discarded b H → (slot H b.lane).phase ≡ InDiscard → (top : ℕ) (w : World)
      → suc (top + K.shards) ≤ 2 ^ 62 + 2 ^ 20
      → Open K minting P shards top w → At w H → Goes K minting P shards (suc (top + K.shards)) b.lane w AtRest
  from_discard H p d phase top w room o same =
      go_on K minting P shards (top + K.shards) (suc (top + K.shards)) b.lane w (Asked 4 H K.shards) AtRest
      (ask (2 ^ 62 + 2 ^ 20) 4 H (λ top w room o same s c m. forget_due H p top w room o same d s c m) K.shards (omega arith) top w (omega arith) o
      same)
      (λ v o q.
      weaken K minting P shards (suc (top + K.shards)) (suc (top + K.shards)) b.lane v (Written K minting P shards v (b.lane / K.lanes) 9 b) AtRest
      (omega arith)
      (write K minting P shards (top + K.shards) v (b.lane / K.lanes) 9 b o (let z = o.size in omega arith)
      (done_due H p (top + K.shards) v room o q.same (ap (λ J. (slot J b.lane).phase) q.same ∙ phase) (have_all 4 H v p q)))
      (λ u wr. ap (λ J. (slot J b.lane).phase) (wr.here.1.1 ∙ ap (λ J. wr.here.0 ∷ J) q.same) ∙ after_done b txs H p wr.here.0 wr.here.1.0))

  from_commit : (H : List Record) → Prepared b txs H → Committed b H → (slot H b.lane).phase ≡ InCommit → (top : ℕ) (w : World)
      → suc (suc (top + K.shards) + K.shards) ≤ 2 ^ 62 + 2 ^ 20
      → Open K minting P shards top w → At w H → Goes K minting P shards (suc (suc (top + K.shards) + K.shards)) b.lane w AtRest
  from_commit H p c phase top w room o same =
      go_on K minting P shards (top + K.shards) (suc (suc (top + K.shards) + K.shards)) b.lane w (Asked 3 H K.shards) AtRest
      (ask (2 ^ 62 + 2 ^ 20) 3 H (λ top w room o same s t m. finish_due H p top w room o same c s t m) K.shards (omega arith) top w (omega arith) o
      same)
      (λ v o q.
      go_on K minting P shards (suc (top + K.shards)) (suc (suc (top + K.shards) + K.shards)) b.lane v
      (Written K minting P shards v (b.lane / K.lanes) 8 b) AtRest
      (write K minting P shards (top + K.shards) v (b.lane / K.lanes) 8 b o (let z = o.size in omega arith)
      (discard_due H p (top + K.shards) v (omega arith) o q.same (ap (λ J. (slot J b.lane).phase) q.same ∙ phase) (have_all 3 H v p q)))
      (λ u o wr.
      let f = after_discard b txs H p wr.here.0 wr.here.1.0 in
      from_discard (wr.here.0 ∷ H) f.0 f.1 f.2 (suc (top + K.shards)) u room o (wr.here.1.1 ∙ ap (λ J. wr.here.0 ∷ J) q.same)))

  from_locks : (H : List Record) → Prepared b txs H → (slot H b.lane).phase ≡ InPrepare → (top : ℕ) (w : World)
      → suc (suc (suc top + K.shards) + K.shards) ≤ 2 ^ 62 + 2 ^ 20
      → Open K minting P shards top w → Asked 2 H K.shards w → Goes K minting P shards (suc (suc (suc top + K.shards) + K.shards)) b.lane w AtRest
  from_locks H p phase top w room o q =
      go_on K minting P shards (suc top) (suc (suc (suc top + K.shards) + K.shards)) b.lane w (Written K minting P shards w (b.lane / K.lanes) 7 b)
      AtRest
      (write K minting P shards top w (b.lane / K.lanes) 7 b o (let z = o.size in omega arith)
      (commit_due H p top w (omega arith) o q.same (ap (λ J. (slot J b.lane).phase) q.same ∙ phase) (have_all 2 H w p q)))
      (λ u o wr.
      let f = after_commit b txs H p wr.here.0 wr.here.1.0 in
      from_commit (wr.here.0 ∷ H) f.0 f.1 f.2 (suc top) u room o (wr.here.1.1 ∙ ap (λ J. wr.here.0 ∷ J) q.same))

  abbrev pub most : ℕ → ℕ
  most top = top + (3 * K.shards + 3)

  -- from a Prepare on, where there are early stamps for its Locks, or they all stand
  pub by_prepare : (H : List Record) → Prepared b txs H → (slot H b.lane).phase ≡ InPrepare → (top : ℕ) (w : World) → most top ≤ 2 ^ 62 + 2 ^ 20
      → (most top ≤ 2 ^ 62) ⊎ AllLocked K w → Open K minting P shards top w → At w H → Goes K minting P shards (most top) b.lane w AtRest
  by_prepare H p phase top w room (inl in_time) o same =
      go_on K minting P shards (top + K.shards) (most top) b.lane w (Asked 2 H K.shards) AtRest
      (ask (2 ^ 62) 2 H (λ top w room o same s c m. lock_due H p top w (omega arith) o same room s c m) K.shards (omega arith) top w (omega arith) o
      same)
      (λ v o q. weaken K minting P shards (suc (suc (suc (top + K.shards) + K.shards) + K.shards)) (most top) b.lane v AtRest AtRest (omega arith)
      (from_locks H p phase (top + K.shards) v (omega arith) o q) (λ v q. q))
  by_prepare H p phase top w room (inr locked) o same =
      weaken K minting P shards (suc (suc (suc top + K.shards) + K.shards)) (most top) b.lane w AtRest AtRest (omega arith)
      (from_locks H p phase top w (omega arith) o
      (record { same = same; all = λ s lt c. locked b s (subst (λ ts. Concerned K ts s) (sym (ap (λ J. txs_of J b) same ∙ ap txs_in p.stands)) c) }))
      (λ v q. q)

  pub by_commit : (H : List Record) → Prepared b txs H → Committed b H → (slot H b.lane).phase ≡ InCommit → (top : ℕ) (w : World)
      → most top ≤ 2 ^ 62 + 2 ^ 20
      → Open K minting P shards top w → At w H → Goes K minting P shards (most top) b.lane w AtRest
  by_commit H p c phase top w room o same =
      weaken K minting P shards (suc (suc (top + K.shards) + K.shards)) (most top) b.lane w AtRest AtRest (omega arith)
      (from_commit H p c phase top w (omega arith) o same) (λ v q. q)

  pub by_discard : (H : List Record) → Prepared b txs H → Discarded b H → (slot H b.lane).phase ≡ InDiscard → (top : ℕ) (w : World)
      → most top ≤ 2 ^ 62 + 2 ^ 20
      → Open K minting P shards top w → At w H → Goes K minting P shards (most top) b.lane w AtRest
  by_discard H p d phase top w room o same =
      weaken K minting P shards (suc (top + K.shards)) (most top) b.lane w AtRest AtRest (omega arith)
      (from_discard H p d phase top w (omega arith) o same) (λ v q. q)
