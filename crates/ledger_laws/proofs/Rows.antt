-- A history as a view, and how its journals change by a row.
use Rattle.std.proofs.Common.{◌≡◌, ℕ, ◌+◌, ◌/◌, true, false, ◌==◌, if◌then◌else◌, List, [], ◌∷◌, ◌++◌, refl, ap, ◌∙◌, subst, arith, append-nil}
use Rattle.cbdc_model.specs.History.{won_of, committed, newly_won, all_inputs, all_outputs}
use Rattle.cbdc_model.specs.Outcomes.{won_txs}
use Rattle.cbdc_model.specs.Ranges.{shard_of, shard_node, journal_at, lane_journal, part}
use Rattle.cbdc_model.specs.Records.{Digest, Shape, Batch, Compact, Record, Row, journal, Genesis, Finish, lock_of, txs_of, outcomes_of, Carry}
use Rattle.cbdc_model.specs.Replies.{entries}
use Rattle.cbdc_model.specs.Status.{status, held_inputs, made_outputs}
use Rattle.ledger_laws.proofs.Next.{Next, has_lock, has_finish, has_prepare, has_commit, Each}
use Rattle.ledger_laws.proofs.Counts.{count}
use Rattle.ledger_laws.proofs.Slots.{JournalOk, next_ok}
use Rattle.ledger_laws.proofs.View.{View}

-- how often a hash has come to a shard, by Genesis or a Finish
abbrev pub arrived : List Record → Digest → ℕ
arrived [] x = 0
arrived (Genesis header hs ∷ past) x = count x hs + arrived past x
arrived (Carry stamp header source hs numbers ∷ past) x = count x hs + arrived past x
arrived (Finish stamp b ds ∷ past) x = count x (made_outputs (lock_of past b) ds) + arrived past x
arrived (other ∷ past) x = arrived past x

pub takes_of : Shape → List Row → Batch → Digest → ℕ
takes_of K past b x = count x (all_inputs (won_of K past b))

abbrev pub view : Shape → List Row → View
view K past = record {
  status = λ x. status (journal_at K past x) x;
  arrived = λ x. arrived (journal_at K past x) x;
  spent = λ x. count x (all_inputs (committed past));
  made = λ x. count x (all_outputs (committed past));
  takes = λ b x. count x (all_inputs (won_of K past b));
  makes = λ b x. count x (all_outputs (won_of K past b));
  finished = λ b x. has_finish (journal_at K past x) b;
  holds = λ b x. count x (held_inputs (lock_of (journal_at K past x) b));
}

-- what a record leaves alone at the head of a journal, it leaves alone in each journal of the history
pub unchanged : {A : Type 0} (f : List Record → A) (n : ℕ) (row : Row) (past : List Row)
    → f (row.what ∷ journal n past) ≡ f (journal n past) → f (journal n (row ∷ past)) ≡ f (journal n past)
unchanged f n row past h =
    elim (row.node == n) as (λ c. f (if c then row.what ∷ journal n past else journal n past) ≡ f (journal n past)) [
      | true ↦ h
      | false ↦ refl
    ]

pub journals_next : (K : Shape) (past : List Row) → ((n : ℕ) → JournalOk (journal n past)) → (row : Row)
    → Next K row.node (journal row.node past) row.what
    → (n : ℕ) → JournalOk (journal n (row ∷ past))
journals_next K past ok row next n =
    elim (row.node == n) as (λ c. (row.node == n) ≡ c → JournalOk (if c then row.what ∷ journal n past else journal n past)) [
      | true ↦ λ e. let same : row.node ≡ n = grind (arith, e) in
          next_ok K row.node (journal n past) (ok n) row.what (subst (λ m. Next K row.node (journal m past) row.what) same next)
      | false ↦ λ e. ok n
    ] refl

-- of the records of each batch
pub record Structure (K : Shape) (P : Compact → Type 0) (past : List Row) : Type 0 where
  pub journals : (n : ℕ) → JournalOk (journal n past)
  pub lock_prepared : (n : ℕ) (b : Batch) → has_lock (journal n past) b ≡ true → has_prepare (lane_journal K past b) b ≡ true
  pub finish_committed : (n : ℕ) (b : Batch) → has_finish (journal n past) b ≡ true → has_commit (lane_journal K past b) b ≡ true
  pub lock_part : (s : ℕ) (b : Batch) → has_lock (journal (shard_node K s) past) b ≡ true
      → entries (lock_of (journal (shard_node K s) past) b) ≡ part K s 0 (txs_of (lane_journal K past b) b)
  pub proper : (b : Batch) → Each P (txs_of (lane_journal K past b) b)

-- the rows of these kinds leave the view alone
module _ (K : Shape) (past : List Row) (row : Row)
    (same_lock : (J : List Record) (b : Batch) → lock_of (row.what ∷ J) b ≡ lock_of J b)
    (same_finish : (J : List Record) (b : Batch) → has_finish (row.what ∷ J) b ≡ has_finish J b)
    (same_status : (J : List Record) (x : Digest) → status (row.what ∷ J) x ≡ status J x)
    (same_arrived : (J : List Record) (x : Digest) → arrived (row.what ∷ J) x ≡ arrived J x)
    (same_won : (b : Batch) → won_of K (row ∷ past) b ≡ won_of K past b)
    (none_won : newly_won row.what (journal row.node past) ≡ [])
  where
    same_committed : committed (row ∷ past) ≡ committed past
    same_committed = ap (λ ts. committed past ++ ts) none_won ∙ append-nil (committed past)

    pub same_view : view K (row ∷ past) ≡ view K past
    same_view = λ i. record {
      status = λ x. unchanged (λ J. status J x) (shard_node K (shard_of K x)) row past (same_status (journal (shard_node K (shard_of K x)) past) x) i;
      arrived = λ x. unchanged (λ J. arrived J x) (shard_node K (shard_of K x)) row past
          (same_arrived (journal (shard_node K (shard_of K x)) past) x) i;
      spent = λ x. count x (all_inputs (same_committed i));
      made = λ x. count x (all_outputs (same_committed i));
      takes = λ b x. count x (all_inputs (same_won b i));
      makes = λ b x. count x (all_outputs (same_won b i));
      finished = λ b x. unchanged (λ J. has_finish J b) (shard_node K (shard_of K x)) row past
          (same_finish (journal (shard_node K (shard_of K x)) past) b) i;
      holds = λ b x. count x (held_inputs (unchanged (λ J. lock_of J b) (shard_node K (shard_of K x)) row past
          (same_lock (journal (shard_node K (shard_of K x)) past) b) i));
    }

-- and so do those that no question about a journal looks at
pub quiet_view : (K : Shape) (past : List Row) (row : Row) → ((J : List Record) (b : Batch) → lock_of (row.what ∷ J) b ≡ lock_of J b)
    → ((J : List Record) (b : Batch) → has_finish (row.what ∷ J) b ≡ has_finish J b)
    → ((J : List Record) (x : Digest) → status (row.what ∷ J) x ≡ status J x)
    → ((J : List Record) (x : Digest) → arrived (row.what ∷ J) x ≡ arrived J x)
    → ((J : List Record) (b : Batch) → txs_of (row.what ∷ J) b ≡ txs_of J b)
    → ((J : List Record) (b : Batch) → outcomes_of (row.what ∷ J) b ≡ outcomes_of J b) → newly_won row.what (journal row.node past) ≡ []
    → view K (row ∷ past) ≡ view K past
quiet_view K past row locks finishes statuses arrivals txs outs none = same_view K past row locks finishes statuses arrivals
    (λ b i. won_txs (unchanged (λ J. txs_of J b) (b.lane / K.lanes) row past (txs (lane_journal K past b) b) i)
    (unchanged (λ J. outcomes_of J b) (b.lane / K.lanes) row past (outs (lane_journal K past b) b) i)) none

-- whether a row stands in a node's journal
pub data AtNode (m n : ℕ) : Type 0 where
  at : m ≡ n → AtNode m n
  away : (m == n) ≡ false → AtNode m n

pub at_node : (m n : ℕ) → AtNode m n
at_node m n = elim (m == n) as (λ c. (m == n) ≡ c → AtNode m n) [
  | true ↦ λ e. at (let same : m ≡ n = grind (arith, e) in same)
  | false ↦ λ e. away e
] refl

pub head_at : (row : Row) (past : List Row) (n : ℕ) → row.node ≡ n → journal n (row ∷ past) ≡ row.what ∷ journal n past
head_at row past n e = grind arith

pub head_away : (row : Row) (past : List Row) (n : ℕ) → (row.node == n) ≡ false → journal n (row ∷ past) ≡ journal n past
head_away row past n e = rw e

pub journal-append : (n : ℕ) (xs ys : List Row) → journal n (xs ++ ys) ≡ journal n xs ++ journal n ys
journal-append n [] ys = refl
journal-append n (row ∷ xs) ys =
    let ih : journal n (xs ++ ys) ≡ journal n xs ++ journal n ys = journal-append n xs ys in
    elim (row.node == n) as (λ c. (if c then row.what ∷ journal n (xs ++ ys) else journal n (xs ++ ys))
    ≡ (if c then row.what ∷ journal n xs else journal n xs) ++ journal n ys) [
      | true ↦ ap (λ J. row.what ∷ J) ih
      | false ↦ ih
    ]
