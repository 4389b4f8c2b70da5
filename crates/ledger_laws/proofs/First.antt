-- The first rows have the invariant.
use Rattle.std.proofs.Common.{◌≡◌, ◌⊎◌, inl, inr, ℕ, zero, suc, ◌+◌, ◌<◌, ◌≤◌, ◌/◌, ◌%◌, nat_lt, length, Bool, true, false, ◌==◌, if◌then◌else◌, List}
use Rattle.std.proofs.Common.{[], ◌∷◌, ◌++◌, refl, sym, ap, ◌∙◌, subst, arith}
pub use Rattle.cbdc_model.specs.After.{IsFirst}
use Rattle.cbdc_model.specs.History.{header_of, won_of, committed, all_inputs, all_outputs, starts, geneses, first_rows, Minted}
use Rattle.cbdc_model.specs.Outcomes.{won_txs}
use Rattle.cbdc_model.specs.Ranges.{shard_of, shard_node, journal_at, lane_journal, on_shard}
use Rattle.cbdc_model.specs.Records.{Digest, Shape, Batch, Compact, Record, Row, journal, Genesis, Start, lock_of, txs_of, outcomes_of, Carry}
use Rattle.cbdc_model.specs.Records.{CarryStart}
use Rattle.cbdc_model.specs.Slots.{Slot, number_at, slot, Idle, InLock, InPrepare}
use Rattle.cbdc_model.specs.Status.{status, has, held_inputs, Unspent, Locked, Absent}
use Rattle.ledger_laws.proofs.Next.{has_lock, has_finish, has_prepare, has_commit, Each}
use Rattle.ledger_laws.proofs.Counts.{count, has-count, not_has-count}
use Rattle.ledger_laws.proofs.Parts.{count-on_shard}
use Rattle.ledger_laws.proofs.View.{Inv}
use Rattle.ledger_laws.proofs.CommitStep.{Apart}
use Rattle.ledger_laws.proofs.Rows.{Structure, view, arrived}
use Rattle.ledger_laws.proofs.Lookups.{shard_of-lt, true_false}

abbrev pub AllFirst : List Record → Type 0
AllFirst [] = Unit {0}
AllFirst (r ∷ J) = IsFirst r × AllFirst J

abbrev pub RowsFirst : List Row → Type 0
RowsFirst [] = Unit {0}
RowsFirst (row ∷ rows) = IsFirst row.what × RowsFirst rows

pub record Nothing (J : List Record) : Type 0 where
  lock : (b : Batch) → has_lock J b ≡ false
  finish : (b : Batch) → has_finish J b ≡ false
  prepare : (b : Batch) → has_prepare J b ≡ false
  commit : (b : Batch) → has_commit J b ≡ false
  locks : (b : Batch) → lock_of J b ≡ []
  txs : (b : Batch) → txs_of J b ≡ []
  outcomes : (b : Batch) → outcomes_of J b ≡ []
  pub phase : (lane : ℕ) → (slot J lane).phase ≡ Idle

phase_if : (c : Bool) (s t : Slot) → s.phase ≡ Idle → t.phase ≡ Idle → (if c then s else t).phase ≡ Idle
phase_if true s t h g = h
phase_if false s t h g = g

pub nothing : (J : List Record) → AllFirst J → Nothing J
nothing [] h = record {
  lock = λ b. refl;
  finish = λ b. refl;
  prepare = λ b. refl;
  commit = λ b. refl;
  locks = λ b. refl;
  txs = λ b. refl;
  outcomes = λ b. refl;
  phase = λ b. refl;
}
nothing (Genesis header hs ∷ J) h =
    let n : Nothing J = nothing J h.1 in
    record {
      lock = n.lock;
      finish = n.finish;
      prepare = n.prepare;
      commit = n.commit;
      locks = n.locks;
      txs = n.txs;
      outcomes = n.outcomes;
      phase = n.phase;
    }
nothing (Start header ∷ J) h =
    let n : Nothing J = nothing J h.1 in
    record {
      lock = n.lock;
      finish = n.finish;
      prepare = n.prepare;
      commit = n.commit;
      locks = n.locks;
      txs = n.txs;
      outcomes = n.outcomes;
      phase = n.phase;
    }
nothing (Carry stamp header source hs numbers ∷ J) h =
    let n : Nothing J = nothing J h.1 in
    record {
      lock = n.lock;
      finish = n.finish;
      prepare = n.prepare;
      commit = n.commit;
      locks = n.locks;
      txs = n.txs;
      outcomes = n.outcomes;
      phase = λ lane. phase_if (nat_lt lane (length numbers)) (record { number = number_at numbers lane; phase = Idle }) (slot J lane) refl
          (n.phase lane);
    }
nothing (CarryStart stamp header source numbers ∷ J) h =
    let n : Nothing J = nothing J h.1 in
    record {
      lock = n.lock;
      finish = n.finish;
      prepare = n.prepare;
      commit = n.commit;
      locks = n.locks;
      txs = n.txs;
      outcomes = n.outcomes;
      phase = λ lane. phase_if (lane / header.shape.lanes == header.node)
          (record { number = number_at numbers (lane % header.shape.lanes); phase = Idle }) (slot J lane) refl (n.phase lane);
    }
nothing (other ∷ J) h = absurd h.0

pub journal_first : (n : ℕ) (rows : List Row) → RowsFirst rows → AllFirst (journal n rows)
journal_first n [] h = tt
journal_first n (row ∷ rows) h = elim (row.node == n) as (λ c. AllFirst (if c then row.what ∷ journal n rows else journal n rows)) [
  | true ↦ (h.0, journal_first n rows h.1)
  | false ↦ journal_first n rows h.1
]

rows_first-append : (xs ys : List Row) → RowsFirst xs → RowsFirst ys → RowsFirst (xs ++ ys)
rows_first-append [] ys h k = k
rows_first-append (x ∷ xs) ys h k = (h.0, rows_first-append xs ys h.1 k)

starts_first : (K : Shape) (minting : Minted) (n : ℕ) → RowsFirst (starts K minting n)
starts_first K minting zero = tt
starts_first K minting (suc n) = (tt, starts_first K minting n)

geneses_first : (K : Shape) (minting : Minted) (m : ℕ) → RowsFirst (geneses K minting m)
geneses_first K minting zero = tt
geneses_first K minting (suc m) = (tt, geneses_first K minting m)

pub no_committed : (rows : List Row) → RowsFirst rows → committed rows ≡ []
no_committed [] h = refl
no_committed (row ∷ rows) h = first_row row rows h.0 (no_committed rows h.1)
  where
    first_row : (row : Row) (rows : List Row) → IsFirst row.what → committed rows ≡ [] → committed (row ∷ rows) ≡ []
    first_row row rows first e = of_record row.node row.what rows first e
      where
        of_record : (node : ℕ) (r : Record) (rows : List Row) → IsFirst r → committed rows ≡ []
            → committed (record { node = node; what = r } ∷ rows) ≡ []
        of_record node (Genesis header hs) rows first e = rw e
        of_record node (Carry stamp header source hs numbers) rows first e = rw e
        of_record node (Start header) rows first e = rw e
        of_record node (CarryStart stamp header source numbers) rows first e = rw e
        of_record node other rows first e = absurd first

-- the journals of the first rows
pub journal_starts : (K : Shape) (minting : Minted) (n m : ℕ) → m ≤ n → journal n (starts K minting m) ≡ []
journal_starts K minting n zero h = refl
journal_starts K minting n (suc m) h = skipped K minting n m (journal_starts K minting n m (omega arith)) h
  where
    skipped : (K : Shape) (minting : Minted) (n m : ℕ) → journal n (starts K minting m) ≡ [] → suc m ≤ n → journal n (starts K minting (suc m)) ≡ []
    skipped K minting n m e h = grind arith

pub journal_past : (K : Shape) (minting : Minted) (s m : ℕ) → m ≤ s
    → journal (shard_node K s) (geneses K minting m ++ starts K minting K.coordinators) ≡ []
journal_past K minting s zero h = journal_starts K minting (shard_node K s) K.coordinators (omega arith)
journal_past K minting s (suc m) h = skipped K minting s m (journal_past K minting s m (omega arith)) h
  where
    skipped : (K : Shape) (minting : Minted) (s m : ℕ) → journal (shard_node K s) (geneses K minting m ++ starts K minting K.coordinators) ≡ []
        → suc m ≤ s
        → journal (shard_node K s) (geneses K minting (suc m) ++ starts K minting K.coordinators) ≡ []
    skipped K minting s m e h = grind arith

pub journal_genesis : (K : Shape) (minting : Minted) (s m : ℕ) → s < m
    → journal (shard_node K s) (geneses K minting m ++ starts K minting K.coordinators)
    ≡ Genesis (header_of K minting.id (shard_node K s)) (on_shard K s minting.hashes) ∷ []
journal_genesis K minting s zero h = absurd (omega arith)
journal_genesis K minting s (suc m) h =
    let cases : (s ≡ m) ⊎ (s < m) = grind arith in
    elim cases [
      | inl e ↦ subst (λ k. journal (shard_node K s) (geneses K minting (suc k) ++ starts K minting K.coordinators)
          ≡ Genesis (header_of K minting.id (shard_node K s)) (on_shard K s minting.hashes) ∷ []) e
          (first K minting s (journal_past K minting s s (omega arith)))
      | inr lt ↦ later K minting s m lt (journal_genesis K minting s m lt)
    ]
  where
    first : (K : Shape) (minting : Minted) (s : ℕ) → journal (shard_node K s) (geneses K minting s ++ starts K minting K.coordinators) ≡ []
        → journal (shard_node K s) (geneses K minting (suc s) ++ starts K minting K.coordinators)
        ≡ Genesis (header_of K minting.id (shard_node K s)) (on_shard K s minting.hashes) ∷ []
    first K minting s e = grind arith

    later : (K : Shape) (minting : Minted) (s m : ℕ) → s < m
        → journal (shard_node K s) (geneses K minting m ++ starts K minting K.coordinators)
        ≡ Genesis (header_of K minting.id (shard_node K s)) (on_shard K s minting.hashes) ∷ []
        → journal (shard_node K s) (geneses K minting (suc m) ++ starts K minting K.coordinators)
        ≡ Genesis (header_of K minting.id (shard_node K s)) (on_shard K s minting.hashes) ∷ []
    later K minting s m lt e = grind arith

module _ (K : Shape) (minting : Minted) (P : Compact → Type 0) (shards : 0 < K.shards) where
  pub all_first : RowsFirst (first_rows K minting)
  all_first = rows_first-append (geneses K minting K.shards) (starts K minting K.coordinators) (geneses_first K minting K.shards)
      (starts_first K minting K.coordinators)

  pub none_at : (n : ℕ) → Nothing (journal n (first_rows K minting))
  none_at n = nothing (journal n (first_rows K minting)) (journal_first n (first_rows K minting) all_first)

  pub first_structure : Structure K P (first_rows K minting)
  first_structure = record {
    journals = λ n. record {
      lock_below = λ b h. absurd (true_false _ h ((none_at n).lock b));
      finish_below = λ b h. absurd (true_false _ h ((none_at n).finish b));
      prepare_below = λ b h. absurd (true_false _ h ((none_at n).prepare b));
      locked = λ b p e. absurd (let q : Idle ≡ InLock = sym ((none_at n).phase b.lane) ∙ p in cc);
      prepared = λ b p e. absurd (let q : Idle ≡ InPrepare = sym ((none_at n).phase b.lane) ∙ p in cc);
      commit_prepared = λ b h. absurd (true_false _ h ((none_at n).commit b));
    };
    lock_prepared = λ n b h. absurd (true_false _ h ((none_at n).lock b));
    finish_committed = λ n b h. absurd (true_false _ h ((none_at n).finish b));
    lock_part = λ s b h. absurd (true_false _ h ((none_at (shard_node K s)).lock b));
    proper = λ b. subst (λ ts. Each P ts) (sym ((none_at (b.lane / K.lanes)).txs b)) tt;
  }

  genesis_at : (x : Digest) → journal_at K (first_rows K minting) x
      ≡ Genesis (header_of K minting.id (shard_node K (shard_of K x))) (on_shard K (shard_of K x) minting.hashes) ∷ []
  genesis_at x = journal_genesis K minting (shard_of K x) K.shards (shard_of-lt K x shards)

  first_arrived : (x : Digest) → arrived (journal_at K (first_rows K minting) x) x ≡ count x minting.hashes
  first_arrived x = ap (λ J. arrived J x) (genesis_at x)
      ∙ (let e : count x (on_shard K (shard_of K x) minting.hashes) + 0 ≡ count x minting.hashes = omega (arith, count-on_shard K x minting.hashes)
      in e)

  module _ (x : Digest) where
    there : List Digest
    there = on_shard K (shard_of K x) minting.hashes

    first_status : status (journal_at K (first_rows K minting) x) x ≡ (if has (on_shard K (shard_of K x) minting.hashes) x then Unspent else Absent)
    first_status = ap (λ J. status J x) (genesis_at x)

    has_it : status (journal_at K (first_rows K minting) x) x ≡ Unspent → 0 < count x minting.hashes
    has_it e = elim (has (on_shard K (shard_of K x) minting.hashes) x) as (λ c. has (on_shard K (shard_of K x) minting.hashes) x ≡ c
        → Unspent ≡ (if c then Unspent else Absent) → 0 < count x minting.hashes) [
          | true ↦ λ h _. omega (arith, has-count x (on_shard K (shard_of K x) minting.hashes) h, count-on_shard K x minting.hashes)
          | false ↦ λ h q. absurd (let r : Unspent ≡ Absent = q in cc)
        ] refl (sym e ∙ first_status)

    has_none : status (journal_at K (first_rows K minting) x) x ≡ Absent → count x minting.hashes ≡ 0
    has_none e = elim (has (on_shard K (shard_of K x) minting.hashes) x) as (λ c. has (on_shard K (shard_of K x) minting.hashes) x ≡ c
        → Absent ≡ (if c then Unspent else Absent) → count x minting.hashes ≡ 0) [
          | true ↦ λ h q. absurd (let r : Absent ≡ Unspent = q in cc)
          | false ↦ λ h _. omega (arith, not_has-count x (on_shard K (shard_of K x) minting.hashes) h, count-on_shard K x minting.hashes)
        ] refl (sym e ∙ first_status)

    not_locked : (b : Batch) → status (journal_at K (first_rows K minting) x) x ≡ Locked b → ⊥
    not_locked b e = elim (has (on_shard K (shard_of K x) minting.hashes) x) as (λ c. Locked b ≡ (if c then Unspent else Absent) → ⊥) [
      | true ↦ λ q. let r : Locked b ≡ Unspent = q in cc
      | false ↦ λ q. let r : Locked b ≡ Absent = q in cc
    ] (sym e ∙ first_status)

  pub first_inv : Apart (λ x. count x minting.hashes) P → Inv (λ x. count x minting.hashes) P (view K (first_rows K minting))
  first_inv apart =
      let none : committed (first_rows K minting) ≡ [] = no_committed (first_rows K minting) all_first in
      let spent : (x : Digest) → count x (all_inputs (committed (first_rows K minting))) ≡ 0 = λ x. ap (λ ts. count x (all_inputs ts)) none in
      let made : (x : Digest) → count x (all_outputs (committed (first_rows K minting))) ≡ 0 = λ x. ap (λ ts. count x (all_outputs ts)) none in
      let won : (b : Batch) → won_of K (first_rows K minting) b ≡ [] =
      λ b. ap (λ ts. won_txs ts (outcomes_of (lane_journal K (first_rows K minting) b) b)) ((none_at (b.lane / K.lanes)).txs b) in
      let holds : (x : Digest) (b : Batch) → count x (held_inputs (lock_of (journal_at K (first_rows K minting) x) b)) ≡ 0
      = λ x b. ap (λ a. count x (held_inputs a)) ((none_at (shard_node K (shard_of K x))).locks b) in
      let makes : (x : Digest) (b : Batch) → count x (all_outputs (won_of K (first_rows K minting) b)) ≡ 0 =
      λ x b. ap (λ ts. count x (all_outputs ts)) (won b) in
      let takes : (x : Digest) (b : Batch) → count x (all_inputs (won_of K (first_rows K minting) b)) ≡ 0 =
      λ x b. ap (λ ts. count x (all_inputs ts)) (won b) in
      record {
        unspent = λ x e. (omega (arith, first_arrived x, has_it x e, apart.genesis_once x), spent x);
        locked = λ x b e. absurd (not_locked x b e);
        absent = λ x e. omega (arith, first_arrived x, has_none x e, spent x);
        held = λ x b h f. absurd (omega (arith, holds x b));
        held_once = λ x b. omega (arith, holds x b);
        spent_le = λ x. omega (arith, spent x);
        arrived_le = λ x. omega (arith, first_arrived x);
        made_once = λ x. omega (arith, made x, apart.genesis_once x);
        takes_le = λ x b. omega (arith, takes x b);
        makes_le = λ x b. omega (arith, makes x b);
        one_maker = λ x b c h k. absurd (omega (arith, makes x b));
        pending = λ x b h f. absurd (omega (arith, makes x b));
        awaited = λ x a m. absurd (omega (arith, first_arrived x, made x));
        respent = λ t x y p h m i. absurd (omega (arith, made x));
      }
