-- Every kept history has the invariant, and what follows for the statuses.
use Rattle.std.proofs.Common.{◌≡◌, ℕ, ◌+◌, ◌-◌, ◌<◌, ◌≤◌, false, List, [], ◌∷◌, ◌++◌, refl, arith}
use Rattle.cbdc_model.specs.History.{first_rows, committed, won_of, all_inputs, all_outputs, Minted}
use Rattle.cbdc_model.specs.Ranges.{journal_at}
use Rattle.cbdc_model.specs.Records.{Digest, Shape, Batch, Compact, Row}
use Rattle.cbdc_model.specs.Status.{status, Unspent, Locked, Absent}
use Rattle.ledger_laws.proofs.Next.{has_finish, Steady}
use Rattle.ledger_laws.proofs.Counts.{count}
use Rattle.ledger_laws.proofs.View.{Inv, Awaited}
use Rattle.ledger_laws.proofs.CommitStep.{Apart}
use Rattle.ledger_laws.proofs.Rows.{Structure, view}
use Rattle.ledger_laws.proofs.Keeps.{keeps}
use Rattle.ledger_laws.proofs.Steps.{inv_next}
use Rattle.ledger_laws.proofs.First.{first_structure, first_inv}

module _ (K : Shape) (minting : Minted) (P : Compact → Type 0) (shards : 0 < K.shards) (apart : Apart (λ x. count x minting.hashes) P) where
  pub kept_structure : (later : List Row) → Steady K minting P later → Structure K P (later ++ first_rows K minting)
  kept_structure [] kept = first_structure K minting P shards
  kept_structure (row ∷ later) kept =
      keeps K P (later ++ first_rows K minting) (kept_structure later kept.3) row.node row.what kept.0 kept.1 kept.2

  pub kept_inv : (later : List Row) → Steady K minting P later → Inv (λ x. count x minting.hashes) P (view K (later ++ first_rows K minting))
  kept_inv [] kept = first_inv K minting P shards apart
  kept_inv (row ∷ later) kept =
      inv_next K P (λ x. count x minting.hashes) (later ++ first_rows K minting) shards apart (kept_structure later kept.3) (kept_inv later kept.3)
      row.node row.what kept.0 kept.1

-- the three kinds of hash of which the book is made
pub data Place (K : Shape) (past : List Row) (x : Digest) : Type 0 where
  unspent : status (journal_at K past x) x ≡ Unspent → Place K past x
  waits : (b : Batch) → status (journal_at K past x) x ≡ Locked b → count x (all_inputs (won_of K past b)) ≡ 0 → Place K past x
  comes : (b : Batch) → 0 < count x (all_outputs (won_of K past b)) → has_finish (journal_at K past x) b ≡ false → Place K past x

abbrev pub in_book : List Digest → List Row → Digest → ℕ
in_book hashes past x = (count x hashes + count x (all_outputs (committed past))) - count x (all_inputs (committed past))

module _ (K : Shape) (minting : Minted) (P : Compact → Type 0) (past : List Row) (inv : Inv (λ x. count x minting.hashes) P (view K past)) where
  pub book_place : (x : Digest) → 0 < in_book minting.hashes past x → Place K past x
  book_place x h = elim (status (journal_at K past x) x) as (λ s. status (journal_at K past x) x ≡ s → Place K past x) [
    | Unspent ↦ λ e. unspent e
    | Locked b ↦ λ e. waits b e (omega (arith, inv.locked x b e, inv.made_once x))
    | Absent ↦ λ e.
        let a : Awaited (view K past) x = inv.awaited x (omega (arith, inv.absent x e, inv.made_once x)) (omega arith) in
        comes a.batch a.makes a.unfinished
  ] refl

  pub place_book : (x : Digest) → Place K past x → in_book minting.hashes past x ≡ 1
  place_book x (unspent e) = omega (arith, inv.unspent x e, inv.arrived_le x, inv.made_once x)
  place_book x (waits b e z) = omega (arith, inv.locked x b e, inv.arrived_le x, inv.made_once x)
  place_book x (comes b m f) = omega (arith, inv.pending x b m f, inv.spent_le x, inv.makes_le x b, inv.made_once x)

  -- no hash is in two of them
  pub unspent-comes : (x : Digest) (b : Batch) → status (journal_at K past x) x ≡ Unspent → 0 < count x (all_outputs (won_of K past b))
      → has_finish (journal_at K past x) b ≡ false → ⊥
  unspent-comes x b e m f = omega (arith, inv.unspent x e, inv.pending x b m f)

  pub locked-comes : (x : Digest) (b c : Batch) → status (journal_at K past x) x ≡ Locked b → 0 < count x (all_outputs (won_of K past c))
      → has_finish (journal_at K past x) c ≡ false → ⊥
  locked-comes x b c e m f = omega (arith, inv.locked x b e, inv.pending x c m f)

  -- no output is made twice, none is spent twice, and what is spent was made
  pub made_once : (x : Digest) → count x minting.hashes + count x (all_outputs (committed past)) ≤ 1
  made_once x = inv.made_once x

  pub spent_once : (x : Digest) → count x (all_inputs (committed past)) ≤ 1
  spent_once x = omega (arith, inv.spent_le x, inv.arrived_le x, inv.made_once x)
