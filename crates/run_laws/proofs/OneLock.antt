-- One Lock that is still to come is written in a world that is up, and what this leaves of the others.
use Rattle.std.proofs.Common.{◌≡◌, ℕ, suc, ◌+◌, ◌*◌, ◌^◌, ◌<◌, ◌≤◌, ◌/◌, max, Bool, true, false, ◌&&◌, not, ◌==◌, cond, List, [], ◌∷◌, ◌++◌, length}
use Rattle.std.proofs.Common.{Some, None, is_some, refl, sym, ap, ◌∙◌, subst, arith}
use Rattle.std.proofs.Math.Nat.{div-lt_iff_lt-mul}
use Rattle.cbdc_model.specs.Records.{Shape, Batch, Compact, Record, Row, journal, record_of, kind_of, is_of, txs_in, txs_of, stamp_of, stamp_in}
use Rattle.cbdc_model.specs.Records.{last_stamp, Lock}
use Rattle.cbdc_model.specs.Due.{open_batch}
use Rattle.cbdc_model.specs.Ranges.{shard_node, home_of, part, is_no_part}
use Rattle.cbdc_model.specs.History.{Minted, first_rows, TxsPass}
use Rattle.cbdc_model.specs.World.{World, Begin, End, node_at, journals, Run}
use Rattle.ledger_laws.proofs.Next.{has_lock, Steady}
use Rattle.ledger_laws.proofs.Rows.{at, away, at_node}
use Rattle.ledger_laws.proofs.Ledger.{after_of}
use Rattle.ledger_laws.proofs.Worlds.{run_keeps}
use Rattle.ledger_laws.proofs.Reaching.{ended, ended_at, ended_away, ended_length, written}
use Rattle.ledger_laws.proofs.Found.{found_new}
use Rattle.run_laws.specs.LocksDue.{lacks_lock_by, lacks_lock, lock_cause, before_lock, IsLock}
use Rattle.ledger_laws.proofs.Openings.{IsQuiet}
use Rattle.run_laws.proofs.LockWrites.{LockFor, HasPrepare, has_prepare, lock_for}

both_false : (a b : Bool) → (not a && not b) ≡ true → (a ≡ false) × (b ≡ false)
both_false true b h = absurd (let z : false ≡ true = h in cc)
both_false false true h = absurd (let z : false ≡ true = h in cc)
both_false false false h = (refl, refl)

pub home_in : (K : Shape) (lane : ℕ) → 0 < K.lanes → lane < K.coordinators * K.lanes → lane / K.lanes < K.coordinators
home_in K lane lanes lt = (div-lt_iff_lt-mul lanes).1 lt

not_home : (c s h : ℕ) → h < c → (c + s == h) ≡ false
not_home c s h lt = grind arith

-- the other shards are other nodes
pub other_shard : (c s t : ℕ) → (s == t) ≡ false → (c + s == c + t) ≡ false
other_shard c s t e = grind arith

not_all_lacking : (a : Bool) → (not a && not true) ≡ false
not_all_lacking true = refl
not_all_lacking false = refl

lacking_less : (a b c : Bool) → (b ≡ true → c ≡ true) → (not a && not c) ≡ true → (not a && not b) ≡ true
lacking_less a b c h l = grind arith

module _ (K : Shape) (minting : Minted) (P : Compact → Type 0) (shards : 0 < K.shards) (lanes : 0 < K.lanes) where
  module _ (later : List Row) (kept : Steady K minting P later) (s lane : ℕ) where
    abbrev J : ℕ → List Record
    J n = journal n (later ++ first_rows K minting)

    abbrev b : Batch
    b = open_batch (J (home_of K lane)) lane

    by_prepare : s < K.shards → is_no_part (part K s 0 (txs_of (J (home_of K lane)) b)) ≡ false → has_lock (J (shard_node K s)) b ≡ false
        → suc (before_lock K J s lane) ≤ 2 ^ 62
        → HasPrepare (J (home_of K lane)) b → LockFor K minting.id J (shard_node K s) b (before_lock K J s lane)
    by_prepare lt some missing in_time p =
        let cause : lock_cause K J lane ≡ p.cause = ap stamp_in p.stands in
        subst (λ c. LockFor K minting.id J (shard_node K s) b (max (last_stamp (J (shard_node K s))) c)) (sym cause)
        (lock_for K minting P shards later kept b p.cause p.txs p.stands refl s
        (lt, subst (λ o. is_no_part (part K s 0 (txs_in o)) ≡ false) p.stands some) missing
        (subst (λ c. suc (max (last_stamp (J (shard_node K s))) c) ≤ 2 ^ 62) cause in_time))

    by_rows : s < K.shards → lacks_lock K J s lane ≡ true → suc (before_lock K J s lane) ≤ 2 ^ 62
        → LockFor K minting.id J (shard_node K s) b (before_lock K J s lane)
    by_rows lt lacks in_time =
        let f : (is_no_part (part K s 0 (txs_of (J (home_of K lane)) b)) ≡ false) × (has_lock (J (shard_node K s)) b ≡ false)
        = both_false (is_no_part (part K s 0 (txs_of (J (home_of K lane)) b))) (has_lock (J (shard_node K s)) b) lacks in
        by_prepare lt f.0 f.1 in_time (has_prepare K (J (home_of K lane)) b s f.0)

  lock_in : (v : World) → IsQuiet K minting P shards v → (s lane : ℕ) → s < K.shards → lacks_lock K (journals v) s lane ≡ true
      → suc (before_lock K (journals v) s lane) ≤ 2 ^ 62
      → LockFor K minting.id (journals v) (shard_node K s) (open_batch (journals v (home_of K lane)) lane) (before_lock K (journals v) s lane)
  lock_in v q s lane lt = subst (λ J. lacks_lock K J s lane ≡ true → suc (before_lock K J s lane) ≤ 2 ^ 62
      → LockFor K minting.id J (shard_node K s) (open_batch (J (home_of K lane)) lane) (before_lock K J s lane)) (λ i n. q.kept.history n i)
      (λ lacks in_time. by_rows q.kept.later q.kept.kept s lane lt lacks in_time)

  -- a Lock was written
  pub record LockStep (v u : World) (s lane : ℕ) : Type 0 where
    pub r : Record
    pub run : Run K minting v (Begin (shard_node K s) r ∷ End (shard_node K s) ∷ []) u
    pub is_lock : IsLock r
    pub is_quiet : IsQuiet K minting P shards u
    pub here : journals u (shard_node K s) ≡ r ∷ journals v (shard_node K s)
    pub elsewhere : (m : ℕ) → (shard_node K s == m) ≡ false → journals u m ≡ journals v m
    pub of_kind : ((kind_of r == 2) && is_of (open_batch (journals v (home_of K lane)) lane) r) ≡ true
    pub stamp : stamp_of r ≡ suc (before_lock K (journals v) s lane)

  pub write_lock : (v : World) → IsQuiet K minting P shards v → (s lane : ℕ) → s < K.shards → lacks_lock K (journals v) s lane ≡ true
      → suc (before_lock K (journals v) s lane) ≤ 2 ^ 62
      → (u : World) × LockStep v u s lane
  write_lock v q s lane lt lacks in_time = by_lock (lock_in v q s lane lt lacks in_time)
    where
      in_v : shard_node K s < length v
      in_v = let z = q.size in omega arith

      by_lock : LockFor K minting.id (journals v) (shard_node K s) (open_batch (journals v (home_of K lane)) lane)
          (before_lock K (journals v) s lane) → (u : World) × LockStep v u s lane
      by_lock l = (
        ended K minting P shards v (shard_node K s) l.r in_v,
        record {
          r = l.r;
          run = run_of;
          is_lock = l.is_lock;
          is_quiet = record {
            kept = run_keeps K minting P shards v (ended K minting P shards v (shard_node K s) l.r in_v)
                (Begin (shard_node K s) l.r ∷ End (shard_node K s) ∷ []) q.kept (passes l.r l.is_lock, (tt, tt)) run_of;
            size = ended_length K minting P shards v (shard_node K s) l.r in_v ∙ q.size;
            up = λ m lt. elim (at_node (shard_node K s) m) [
              | at e ↦ subst (λ k. (node_at (ended K minting P shards v (shard_node K s) l.r in_v) k).up ≡ true) e
                  (ap (λ x. x.up) (ended_at K minting P shards v (shard_node K s) l.r in_v))
              | away e ↦ ap (λ x. x.up) (ended_away K minting P shards v (shard_node K s) l.r in_v m e) ∙ q.up m (shorter m lt)
            ];
            quiet = λ m lt. elim (at_node (shard_node K s) m) [
              | at e ↦ subst (λ k. (node_at (ended K minting P shards v (shard_node K s) l.r in_v) k).flight ≡ None) e
                  (ap (λ x. x.flight) (ended_at K minting P shards v (shard_node K s) l.r in_v))
              | away e ↦ ap (λ x. x.flight) (ended_away K minting P shards v (shard_node K s) l.r in_v m e) ∙ q.quiet m (shorter m lt)
            ];
          };
          here = ap (λ x. x.journal) (ended_at K minting P shards v (shard_node K s) l.r in_v);
          elsewhere = λ m e. ap (λ x. x.journal) (ended_away K minting P shards v (shard_node K s) l.r in_v m e);
          of_kind = l.of_kind;
          stamp = l.stamp;
        },
      )
        where
          passes : (r : Record) → IsLock r → TxsPass P r
          passes (Lock stamp b es) h = tt
          passes other h = absurd h

          run_of : Run K minting v (Begin (shard_node K s) l.r ∷ End (shard_node K s) ∷ []) (ended K minting P shards v (shard_node K s) l.r in_v)
          run_of = written K minting P shards v (shard_node K s) l.r in_v (in_v, q.up (shard_node K s) in_v, q.quiet (shard_node K s) in_v)
              (after_of K minting.id (shard_node K s) (journals v (shard_node K s)) l.r l.next l.grammar) l.caused

          shorter : (m : ℕ) → m < length (ended K minting P shards v (shard_node K s) l.r in_v) → m < length v
          shorter m lt = let k : length (ended K minting P shards v (shard_node K s) l.r in_v) ≡ length v =
              ended_length K minting P shards v (shard_node K s) l.r in_v in omega arith

  module _ (v u : World) (s lane : ℕ) (lt : lane < K.coordinators * K.lanes) (step : LockStep v u s lane) where
    -- coordinators are as they were
    pub same_home : (other : ℕ) → other < K.coordinators * K.lanes → journals u (home_of K other) ≡ journals v (home_of K other)
    same_home other l = step.elsewhere (other / K.lanes) (not_home K.coordinators s (other / K.lanes) (home_in K other lanes l))

    -- no lane lacks a Lock that it did not lack
    pub fewer : (t other : ℕ) → other < K.coordinators * K.lanes → lacks_lock K (journals u) t other ≡ true → lacks_lock K (journals v) t other ≡ true
    fewer t other l h = elim (at_node s t) [
      | away a ↦ ap (λ own. lacks_lock_by K (journals v (home_of K other)) own t other)
          (sym (step.elsewhere (shard_node K t) (other_shard K.coordinators s t a)))
          ∙ ap (λ home. lacks_lock_by K home (journals u (shard_node K t)) t other) (sym (same_home other l)) ∙ h
      | at e ↦ subst (λ k. lacks_lock K (journals u) k other ≡ true → lacks_lock K (journals v) k other ≡ true) e at_same h
    ]
      where
        grown : (b : Batch) → is_some (record_of 2 (journals v (shard_node K s)) b) ≡ true
            → is_some (record_of 2 (journals u (shard_node K s)) b) ≡ true
        grown b f = subst (λ J. is_some (record_of 2 J b) ≡ true) (sym step.here)
            (elim ((kind_of step.r == 2) && is_of b step.r) as
            (λ t. is_some (cond t (Some step.r) (record_of 2 (journals v (shard_node K s)) b)) ≡ true) [ true ↦ refl | false ↦ f ])

        at_same : lacks_lock K (journals u) s other ≡ true → lacks_lock K (journals v) s other ≡ true
        at_same h =
            let g : lacks_lock_by K (journals v (home_of K other)) (journals u (shard_node K s)) s other ≡ true
            = ap (λ home. lacks_lock_by K home (journals u (shard_node K s)) s other) (sym (same_home other l)) ∙ h in
            lacking_less (is_no_part (part K s 0 (txs_of (journals v (home_of K other)) (open_batch (journals v (home_of K other)) other))))
            (is_some (record_of 2 (journals v (shard_node K s)) (open_batch (journals v (home_of K other)) other)))
            (is_some (record_of 2 (journals u (shard_node K s)) (open_batch (journals v (home_of K other)) other)))
            (λ f. grown (open_batch (journals v (home_of K other)) other) f) g

    -- and this one lacks its Lock no more
    pub one_less : lacks_lock K (journals u) s lane ≡ false
    one_less =
        ap (λ home. lacks_lock_by K home (journals u (shard_node K s)) s lane) (same_home lane lt)
        ∙ ap (λ c. not (is_no_part (part K s 0 (txs_of (journals v (home_of K lane)) (open_batch (journals v (home_of K lane)) lane)))) && not c)
        found
        ∙ not_all_lacking (is_no_part (part K s 0 (txs_of (journals v (home_of K lane)) (open_batch (journals v (home_of K lane)) lane))))
      where
        found : is_some (record_of 2 (journals u (shard_node K s)) (open_batch (journals v (home_of K lane)) lane)) ≡ true
        found = ap (λ J. is_some (record_of 2 J (open_batch (journals v (home_of K lane)) lane))) step.here
            ∙ ap is_some (found_new 2 step.r (journals v (shard_node K s)) (open_batch (journals v (home_of K lane)) lane) step.of_kind)
