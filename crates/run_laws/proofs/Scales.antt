-- Records and what is kept for later ones on one scale: by their bytes, or by their number.
use Rattle.std.proofs.Common.{◌≡◌, ℕ, suc, Bool, ◌+◌, ◌*◌, ◌≤◌, List, [], ◌∷◌, length, refl, ap, arith}
use Rattle.std.specs.List.{sum_by}
use Rattle.cbdc_model.specs.Records.{Batch, Compact, Entry, Reply, Outcome, Answered, Record, Held, Missing, Taken, Won, Lacks, Blocked, Lock, Finish}
use Rattle.cbdc_model.specs.Records.{Forget, Prepare, Commit, Discard, Done}
use Rattle.cbdc_model.specs.Slots.{Phase, Idle, InLock, InFinish, InPrepare, InCommit, InDiscard}
use Rattle.cbdc_model.specs.Replies.{entries}
use Rattle.cbdc_model.specs.Room.{compact_size, answered_size, outcome_size, reply_size, size_of, room_in}
use Rattle.run_laws.specs.Ample.{Coming, largest_answered}
use Rattle.run_laws.proofs.Sums.{total, total_is}

-- the records of a batch that are still to come
abbrev pub prepare_at : ℕ → List Compact → Coming
prepare_at n txs = record { node = n; kind = 6; size = 42 + sum_by compact_size txs }

abbrev pub commit_at : ℕ → ℕ → Coming
commit_at n m = record { node = n; kind = 7; size = 42 + 57 * m }

abbrev pub discard_at : ℕ → Coming
discard_at n = record { node = n; kind = 8; size = 34 }

abbrev pub done_at : ℕ → Coming
done_at n = record { node = n; kind = 9; size = 34 }

abbrev pub lock_at : ℕ → List Entry → Coming
lock_at n es = record { node = n; kind = 2; size = 42 + sum_by largest_answered es }

abbrev pub finish_at : ℕ → ℕ → Coming
finish_at n m = record { node = n; kind = 3; size = 42 + m }

abbrev pub forget_at : ℕ → Coming
forget_at n = record { node = n; kind = 4; size = 34 }

-- what each record takes, what one still to come takes at most, and what is kept in a phase of a lane with so many entries and transactions
pub record Scale : Type 0 where
  pub taken : Record → ℕ
  pub coming : Coming → ℕ
  pub kept : Phase → ℕ → ℕ → ℕ

-- a record takes no more than what was kept for it
pub record Fair (s : Scale) : Type 0 where
  pub idle : (m n : ℕ) → s.kept Idle m n ≡ 0
  pub prepare : (node t m : ℕ) (b : Batch) (txs : List Compact)
      → s.taken (Prepare t b txs) + s.kept InPrepare m (length txs)
      ≤ s.coming (prepare_at node txs) + (s.coming (commit_at node (length txs)) + (s.coming (discard_at node) + s.coming (done_at node)))
  pub prepared : (node m n : ℕ) → s.kept InPrepare m n ≤ s.coming (commit_at node n) + (s.coming (discard_at node) + s.coming (done_at node))
  pub commit : (t m m' n' : ℕ) (b : Batch) (os : List Outcome) → s.taken (Commit t b os) + s.kept InCommit m' n' ≤ s.kept InPrepare m (length os)
  pub committed : (node m n : ℕ) → s.kept InCommit m n ≤ s.coming (discard_at node) + s.coming (done_at node)
  pub discard : (t m n m' n' : ℕ) (b : Batch) → s.taken (Discard t b) + s.kept InDiscard m' n' ≤ s.kept InCommit m n
  pub discarded : (node m n : ℕ) → s.kept InDiscard m n ≤ s.coming (done_at node)
  pub done : (t m n : ℕ) (b : Batch) → s.taken (Done t b) ≤ s.kept InDiscard m n
  pub lock : (node t n : ℕ) (b : Batch) (es : List Answered)
      → s.taken (Lock t b es) + s.kept InLock (length es) n
      ≤ s.coming (lock_at node (entries es)) + (s.coming (finish_at node (length (entries es))) + s.coming (forget_at node))
  pub locked : (node m n : ℕ) → s.kept InLock m n ≤ s.coming (finish_at node m) + s.coming (forget_at node)
  pub finish : (t n m' n' : ℕ) (b : Batch) (ds : List Bool) → s.taken (Finish t b ds) + s.kept InFinish m' n' ≤ s.kept InLock (length ds) n
  pub finished : (node m n : ℕ) → s.kept InFinish m n ≤ s.coming (forget_at node)
  pub forget : (t m n : ℕ) (b : Batch) → s.taken (Forget t b) ≤ s.kept InFinish m n

-- ---- by bytes

outcomes_few : (os : List Outcome) → total outcome_size os ≤ 57 * length os
outcomes_few [] = omega arith
outcomes_few (Won ∷ os) = let rest : total outcome_size os ≤ 57 * length os = outcomes_few os in omega arith
outcomes_few (Lacks shard x ∷ os) = let rest : total outcome_size os ≤ 57 * length os = outcomes_few os in omega arith
outcomes_few (Blocked shard x by ∷ os) = let rest : total outcome_size os ≤ 57 * length os = outcomes_few os in omega arith

reply_few : (r : Reply) → reply_size r ≤ 49
reply_few Held = omega arith
reply_few (Missing x) = omega arith
reply_few (Taken x by) = omega arith

answered_few : (es : List Answered) → total answered_size es ≤ total largest_answered (entries es)
answered_few [] = omega arith
answered_few (a ∷ es) =
    let rest : total answered_size es ≤ total largest_answered (entries es) = answered_few es in
    let reply : reply_size a.reply ≤ 49 = reply_few a.reply in
    omega arith

pub entries_long : (es : List Answered) → length (entries es) ≡ length es
entries_long [] = refl
entries_long (a ∷ es) = ap (λ n. suc n) (entries_long es)

abbrev pub bytes : Scale
bytes = record { taken = size_of; coming = λ c. c.size; kept = room_in }

pub bytes_fair : Fair bytes
bytes_fair = record {
  idle = λ m n. refl;
  prepare = λ node t m b txs. omega arith;
  prepared = λ node m n. omega arith;
  commit = λ t m m' n' b os. omega (arith, outcomes_few os, total_is outcome_size os);
  committed = λ node m n. omega arith;
  discard = λ t m n m' n' b. omega arith;
  discarded = λ node m n. omega arith;
  done = λ t m n b. omega arith;
  lock = λ node t n b es. omega (arith, answered_few es, total_is answered_size es, total_is largest_answered (entries es), entries_long es);
  locked = λ node m n. omega arith;
  finish = λ t n m' n' b ds. omega arith;
  finished = λ node m n. omega arith;
  forget = λ t m n b. omega arith;
}

-- ---- by number

abbrev pub left_in : Phase → ℕ → ℕ → ℕ
left_in Idle m n = 0
left_in InLock m n = 2
left_in InFinish m n = 1
left_in InPrepare m n = 3
left_in InCommit m n = 2
left_in InDiscard m n = 1

abbrev pub ones : Scale
ones = record { taken = λ r. 1; coming = λ c. 1; kept = left_in }

pub ones_fair : Fair ones
ones_fair = record {
  idle = λ m n. refl;
  prepare = λ node t m b txs. omega arith;
  prepared = λ node m n. omega arith;
  commit = λ t m m' n' b os. omega arith;
  committed = λ node m n. omega arith;
  discard = λ t m n m' n' b. omega arith;
  discarded = λ node m n. omega arith;
  done = λ t m n b. omega arith;
  lock = λ node t n b es. omega arith;
  locked = λ node m n. omega arith;
  finish = λ t n m' n' b ds. omega arith;
  finished = λ node m n. omega arith;
  forget = λ t m n b. omega arith;
}
