-- What a Lock and a Finish do to a view where it is only told whether a Lock holds a hash.
use Rattle.std.proofs.Common.{◌≡◌, ◌⊎◌, inl, inr, ℕ, ◌<◌, ◌≤◌, min, Bool, true, false, List, [], ◌∷◌, ◌++◌, refl, sym, ap, ◌∙◌, subst, arith}
use Rattle.cbdc_model.specs.After.{FitsReplies}
use Rattle.cbdc_model.specs.Causes.{IsCaused}
use Rattle.cbdc_model.specs.History.{won_of, all_inputs, first_rows, Minted}
use Rattle.cbdc_model.specs.Outcomes.{won_at, decisions}
use Rattle.cbdc_model.specs.Ranges.{shard_of, shard_node, journal_at, lane_journal}
use Rattle.cbdc_model.specs.Records.{Digest, Shape, Batch, same_batch, Compact, Answered, Record, Row, journal, Lock, Finish, lock_of, outcomes_of}
use Rattle.cbdc_model.specs.Replies.{entries}
use Rattle.cbdc_model.specs.Status.{held_inputs, taken_inputs, returned_inputs}
use Rattle.ledger_laws.proofs.Older.{decisions-decided}
use Rattle.ledger_laws.proofs.Next.{Next, has_lock, has_finish, Steady}
use Rattle.ledger_laws.proofs.Counts.{count}
use Rattle.ledger_laws.proofs.Parts.{decided, count-held}
use Rattle.ledger_laws.proofs.LockStep.{Locks}
use Rattle.ledger_laws.proofs.Steps.{held_now, lock_measured}
use Rattle.ledger_laws.proofs.Rows.{Structure, view, at, away, at_node, head_at, head_away}
use Rattle.ledger_laws.proofs.Lookups.{no_lock}
use Rattle.ledger_laws.proofs.First.{journal_first, all_first}
use Rattle.ledger_laws.proofs.Moves.{none_of, all_structure}
use Rattle.ledger_laws.proofs.Waiting.{taken_is}
use Rattle.audit.proofs.Holders.{OneHolder, answered_one, not_both, capped}

module _ (K : Shape) (P : Compact → Type 0) (past : List Row) (st : Structure K P past) (node stamp : ℕ) (b : Batch) (es : List Answered)
    (next : Next K node (journal node past) (Lock stamp b es)) where
  some_held : (n : ℕ) → 0 < min n 1 → 0 < n
  some_held n h = omega arith

  none_held : (n : ℕ) → min n 1 ≡ 0 → n ≡ 0
  none_held n e = omega arith

  one_held : (n : ℕ) → min n 1 ≤ 1
  one_held n = omega arith

  pub capped_lock : (held : Digest → ℕ) × Locks (capped (view K past)) (capped (view K (record { node = node; what = Lock stamp b es } ∷ past))) b
      held
  capped_lock = (
    held_now K P past st (λ n. min n 1) (omega arith) some_held none_held node stamp b es next (λ x e. one_held _),
    lock_measured K P past st (λ n. min n 1) (omega arith) some_held none_held node stamp b es next (λ x e. one_held _),
  )

-- each Lock that stands has at most one entry that holds a hash
holder_next : (K : Shape) (node : ℕ) (J : List Record) (x : Digest) → ((c : Batch) → OneHolder x (lock_of J c)) → (r : Record) → Next K node J r
    → (c : Batch) → OneHolder x (lock_of (r ∷ J) c)
holder_next K node J x old (Lock stamp b es) next c =
    elim (same_batch b c) as (λ t. same_batch b c ≡ t → OneHolder x (lock_of (Lock stamp b es ∷ J) c)) [
      | true ↦ λ t.
          let e : lock_of (Lock stamp b es ∷ J) c ≡ es = rw t in
          subst (λ l. OneHolder x l) (sym e) (subst (λ l. OneHolder x l) (sym next.4) (answered_one J b [] (entries es) x))
      | false ↦ λ t. let e : lock_of (Lock stamp b es ∷ J) c ≡ lock_of J c = rw t in subst (λ l. OneHolder x l) (sym e) (old c)
    ] refl
holder_next K node J x old other next c = old c

module _ (K : Shape) (minting : Minted) (P : Compact → Type 0) (shards : 0 < K.shards) where
  pub one_holder : (later : List Row) → Steady K minting P later → (x : Digest) (n : ℕ) (c : Batch)
      → OneHolder x (lock_of (journal n (later ++ first_rows K minting)) c)
  one_holder [] kept x n c =
      subst (λ l. OneHolder x l)
      (sym (no_lock (journal n (first_rows K minting)) c
      (none_of 2 (journal n (first_rows K minting)) (journal_first n (first_rows K minting) (all_first K minting P shards)) c))) tt
  one_holder (row ∷ later) kept x n c = elim (at_node row.node n) [
    | away e ↦ subst (λ J. OneHolder x (lock_of J c)) (sym (head_away row (later ++ first_rows K minting) n e)) (one_holder later kept.3 x n c)
    | at e ↦ subst (λ J. OneHolder x (lock_of J c)) (sym (head_at row (later ++ first_rows K minting) n e))
        (holder_next K row.node (journal n (later ++ first_rows K minting)) x (λ d. one_holder later kept.3 x n d) row.what
        (subst (λ m. Next K row.node (journal m (later ++ first_rows K minting)) row.what) e kept.0) c)
  ]

  -- where a Finish comes to a hash that its batch takes, the Lock holds it as often as it is taken
  pub finish_exact : (later : List Row) → Steady K minting P later → (node stamp : ℕ) (b : Batch) (ds : List Bool)
      → Next K node (journal node (later ++ first_rows K minting)) (Finish stamp b ds)
      → IsCaused K (λ n. journal n (later ++ first_rows K minting)) node (Finish stamp b ds) → (x : Digest)
      → 0 < count x (all_inputs (won_of K (later ++ first_rows K minting) b))
      → (count x (held_inputs (lock_of (journal_at K (later ++ first_rows K minting) x) b))
      ≡ count x (all_inputs (won_of K (later ++ first_rows K minting) b)))
      ⊎ (has_finish (journal_at K (record { node = node; what = Finish stamp b ds } ∷ (later ++ first_rows K minting)) x) b
      ≡ has_finish (journal_at K (later ++ first_rows K minting) x) b)
  finish_exact later kept node stamp b ds next caused x n = elim (at_node node (shard_node K (shard_of K x))) [
    | away e ↦ inr (ap (λ J. has_finish J b) (head_away (record { node = node; what = Finish stamp b ds }) (later ++ first_rows K minting)
        (shard_node K (shard_of K x)) e))
    | at e ↦ inl (here e)
  ]
    where
      here : node ≡ shard_node K (shard_of K x)
          → count x (held_inputs (lock_of (journal_at K (later ++ first_rows K minting) x) b))
          ≡ count x (all_inputs (won_of K (later ++ first_rows K minting) b))
      here e =
          let locked : has_lock (journal_at K (later ++ first_rows K minting) x) b ≡ true
          = subst (λ m. has_lock (journal m (later ++ first_rows K minting)) b ≡ true) e
          (((all_structure K minting P shards later kept).journals node).locked b next.2 next.3).0 in
          let fits : FitsReplies (lock_of (journal_at K (later ++ first_rows K minting) x) b) ds =
          subst (λ m. FitsReplies (lock_of (journal m (later ++ first_rows K minting)) b) ds) e next.4 in
          let ds_are : ds ≡ decided (won_at (outcomes_of (lane_journal K (later ++ first_rows K minting) b) b))
          (lock_of (journal_at K (later ++ first_rows K minting) x) b)
          = subst (λ m. ds ≡ decisions (outcomes_of (lane_journal K (later ++ first_rows K minting) b) b)
          (entries (lock_of (journal m (later ++ first_rows K minting)) b))) e caused.1
          ∙ decisions-decided (outcomes_of (lane_journal K (later ++ first_rows K minting) b) b)
          (lock_of (journal_at K (later ++ first_rows K minting) x) b) in
          let taken : count x (taken_inputs (lock_of (journal_at K (later ++ first_rows K minting) x) b) ds)
          ≡ count x (all_inputs (won_of K (later ++ first_rows K minting) b))
          = ap (λ d. count x (taken_inputs (lock_of (journal_at K (later ++ first_rows K minting) x) b) d)) ds_are
          ∙ taken_is K minting P shards later kept x b locked in
          let none : count x (returned_inputs (lock_of (journal_at K (later ++ first_rows K minting) x) b) ds) ≡ 0
          = not_both x (lock_of (journal_at K (later ++ first_rows K minting) x) b) ds (one_holder later kept x (shard_node K (shard_of K x)) b) fits
          (omega arith) in
          omega (arith, count-held x (lock_of (journal_at K (later ++ first_rows K minting) x) b) ds fits)
