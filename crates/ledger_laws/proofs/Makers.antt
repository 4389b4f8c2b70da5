-- A hash that is Unspent or Locked was minted, or its maker's Commit and Finish there stand.
use Rattle.std.proofs.Common.{◌≡◌, ◌⊎◌, inl, inr, ℕ, ◌<◌, true, false, List, [], ◌∷◌, ◌++◌, refl, sym, ap, subst, arith}
use Rattle.cbdc_model.specs.Causes.{IsCaused}
use Rattle.cbdc_model.specs.History.{first_rows, committed, won_of, all_outputs, Minted}
use Rattle.cbdc_model.specs.Ranges.{journal_at}
use Rattle.cbdc_model.specs.Records.{Digest, Shape, Batch, Compact, Record, Row, journal}
use Rattle.cbdc_model.specs.Status.{Status, status, Unspent, Locked, Absent}
use Rattle.ledger_laws.proofs.Next.{Next, has_finish, Steady}
use Rattle.ledger_laws.proofs.Counts.{count}
use Rattle.ledger_laws.proofs.View.{View, Inv, same, other, same_or_not, none, some, none_or_some}
use Rattle.ledger_laws.proofs.LockStep.{Locks}
use Rattle.ledger_laws.proofs.FinishStep.{Finishes}
use Rattle.ledger_laws.proofs.CommitStep.{Apart, Commits}
use Rattle.ledger_laws.proofs.Rows.{Structure, view}
use Rattle.ledger_laws.proofs.Steps.{view_step, no_change, by_lock, by_commit, by_finish}
use Rattle.ledger_laws.proofs.First.{no_committed, all_first}
use Rattle.ledger_laws.proofs.Theory.{kept_structure, kept_inv}

pub record Maker (v : View) (x : Digest) : Type 0 where
  pub batch : Batch
  pub makes : 0 < v.makes batch x

abbrev pub HasMakers : View → Type 0
HasMakers v = (x : Digest) → 0 < v.made x → Maker v x

lock_makers : {v w : View} {b : Batch} {new : Digest → ℕ} → Locks v w b new → HasMakers v → HasMakers w
lock_makers step has x n =
    let m = has x (let e = step.made x in omega (arith, e)) in
    record { batch = m.batch; makes = let e = step.makes m.batch x in let k = m.makes in omega (arith, e, k) }

finish_makers : {v w : View} {b : Batch} → Finishes v w b → HasMakers v → HasMakers w
finish_makers step has x n =
    let m = has x (let e = step.made x in omega (arith, e)) in
    record { batch = m.batch; makes = let e = step.makes m.batch x in let k = m.makes in omega (arith, e, k) }

commit_makers : {P : Compact → Type 0} {v w : View} {b : Batch} {ts : List Compact} → Commits P v w b ts → HasMakers v → HasMakers w
commit_makers {v = v} {w = w} {b = b} {ts = ts} step has x n = elim (none_or_some (count x (all_outputs ts))) [
  | some k ↦ record { batch = b; makes = omega (arith, step.makes x) }
  | none z ↦ of_old (has x (omega (arith, step.made x)))
]
  where
    of_old : Maker v x → Maker w x
    of_old m = elim (same_or_not b m.batch) [
      | same e ↦ absurd (let k : 0 < v.makes b x = subst (λ d. 0 < v.makes d x) (sym e) m.makes in omega (arith, step.made_none x))
      | other o ↦ record { batch = m.batch; makes = omega (arith, m.makes, step.other_makes m.batch x o) }
    ]

module _ (K : Shape) (minting : Minted) (P : Compact → Type 0) (shards : 0 < K.shards) (apart : Apart (λ x. count x minting.hashes) P) where
  makers_next : (past : List Row) → Structure K P past → HasMakers (view K past)
      → (node : ℕ) (r : Record) → Next K node (journal node past) r → IsCaused K (λ n. journal n past) node r
      → HasMakers (view K (record { node = node; what = r } ∷ past))
  makers_next past st has node r next caused = elim (view_step K P past shards apart st node r next caused) [
    | no_change e ↦ subst HasMakers (sym e) has
    | by_lock b held step ↦ lock_makers step has
    | by_commit b ts step ↦ commit_makers step has
    | by_finish b step ↦ finish_makers step has
  ]

  kept_makers : (later : List Row) → Steady K minting P later → HasMakers (view K (later ++ first_rows K minting))
  kept_makers [] kept = λ x n. absurd (let z : count x (all_outputs (committed (first_rows K minting))) ≡ 0 =
      ap (λ ts. count x (all_outputs ts)) (no_committed (first_rows K minting) (all_first K minting P shards)) in omega arith)
  kept_makers (row ∷ later) kept = makers_next (later ++ first_rows K minting) (kept_structure K minting P shards apart later kept.3)
      (kept_makers later kept.3) row.node row.what kept.0 kept.1

  pub was_made : (later : List Row) → Steady K minting P later → (x : Digest)
      → (status (journal_at K (later ++ first_rows K minting) x) x ≡ Absent → ⊥)
      → (0 < count x minting.hashes) ⊎ ((b : Batch) × (0 < count x (all_outputs (won_of K (later ++ first_rows K minting) b)))
      × (has_finish (journal_at K (later ++ first_rows K minting) x) b ≡ true))
  was_made later kept x there = elim (none_or_some (count x minting.hashes)) [
    | some n ↦ inl n
    | none z ↦ inr (of_maker z)
  ]
    where
      whole : List Row
      whole = later ++ first_rows K minting

      inv : Inv (λ x. count x minting.hashes) P (view K (later ++ first_rows K minting))
      inv = kept_inv K minting P shards apart later kept

      arrived_one : (s : Status) → status (journal_at K (later ++ first_rows K minting) x) x ≡ s
          → (view K (later ++ first_rows K minting)).arrived x ≡ 1
      arrived_one Unspent e = (inv.unspent x e).0
      arrived_one (Locked b) e = (inv.locked x b e).0
      arrived_one Absent e = absurd (there e)

      of_maker : count x minting.hashes ≡ 0 → (b : Batch) × (0 < count x (all_outputs (won_of K (later ++ first_rows K minting) b)))
          × (has_finish (journal_at K (later ++ first_rows K minting) x) b ≡ true)
      of_maker z =
          let one : (view K (later ++ first_rows K minting)).arrived x ≡ 1 =
          arrived_one (status (journal_at K (later ++ first_rows K minting) x) x) refl in
          let m : Maker (view K (later ++ first_rows K minting)) x = kept_makers later kept x (omega (arith, inv.arrived_le x)) in
          (m.batch, m.makes, finished m one)
        where
          finished : (m : Maker (view K (later ++ first_rows K minting)) x) → (view K (later ++ first_rows K minting)).arrived x ≡ 1
              → has_finish (journal_at K (later ++ first_rows K minting) x) m.batch ≡ true
          finished m one = elim (has_finish (journal_at K (later ++ first_rows K minting) x) m.batch) as
              (λ c. has_finish (journal_at K (later ++ first_rows K minting) x) m.batch ≡ c → c ≡ true) [
                | true ↦ λ _. refl
                | false ↦ λ f. absurd (omega (arith, inv.pending x m.batch m.makes f))
              ] refl
