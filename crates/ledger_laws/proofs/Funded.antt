-- Each committed transaction finds its inputs in the book of hashes.
use Rattle.std.proofs.Common.{◌≡◌, ℕ, ◌+◌, ◌-◌, ◌<◌, ◌≤◌, List, [], ◌∷◌, ◌++◌, refl, sym, ap, ◌∙◌, subst, arith, append-nil}
use Rattle.cbdc_model.specs.Causes.{IsCaused}
use Rattle.cbdc_model.specs.History.{first_rows, committed, newly_won, all_inputs, all_outputs, Minted}
use Rattle.cbdc_model.specs.Records.{Digest, Shape, Batch, Compact, Outcome, Record, Row, journal, Genesis, Start, Commit, Carry, CarryStart}
use Rattle.ledger_laws.proofs.Next.{Next, Steady}
use Rattle.ledger_laws.proofs.Counts.{count, count-append}
use Rattle.ledger_laws.proofs.View.{View, Inv, none, some, none_or_some}
use Rattle.ledger_laws.proofs.CommitStep.{Apart, Commits, was_held, takes_once, commit_kept}
use Rattle.ledger_laws.proofs.Rows.{Structure, view}
use Rattle.ledger_laws.proofs.Steps.{newly, commit_changes}
use Rattle.ledger_laws.proofs.First.{no_committed, all_first}
use Rattle.ledger_laws.proofs.Theory.{kept_structure, kept_inv}

-- how often each hash is in the book behind a transaction
abbrev pub behind : (Digest → ℕ) → Compact → Digest → ℕ
behind β t x = (β x - count x t.inputs) + count x t.outputs

abbrev pub Funded : (Digest → ℕ) → List Compact → Type 0
Funded β [] = Unit {0}
Funded β (t ∷ ts) = ((x : Digest) → count x t.inputs ≤ β x) × ((x : Digest) → β x ≤ 1) × ((x : Digest) → behind β t x ≤ 1) × Funded (behind β t) ts

abbrev pub behind_all : (Digest → ℕ) → List Compact → Digest → ℕ
behind_all β [] = β
behind_all β (t ∷ ts) = behind_all (behind β t) ts

pub behind_all-sum : (β : Digest → ℕ) (ts : List Compact) → Funded β ts → (x : Digest)
    → behind_all β ts x + count x (all_inputs ts) ≡ β x + count x (all_outputs ts)
behind_all-sum β [] f x = refl
behind_all-sum β (t ∷ ts) f x =
    omega (arith, behind_all-sum (behind β t) ts f.3 x, f.0 x, count-append x t.inputs (all_inputs ts), count-append x t.outputs (all_outputs ts))

pub funded-append : (β : Digest → ℕ) (ts us : List Compact) → Funded β ts → Funded (behind_all β ts) us → Funded β (ts ++ us)
funded-append β [] us f g = g
funded-append β (t ∷ ts) us f g = (f.0, f.1, f.2, funded-append (behind β t) ts us f.3 g)

pub funded_batch : (β : Digest → ℕ) (ts : List Compact) → ((x : Digest) → count x (all_inputs ts) ≤ β x)
    → ((x : Digest) → β x + count x (all_outputs ts) ≤ 1) → Funded β ts
funded_batch β [] enough room = tt
funded_batch β (t ∷ ts) enough room = (
  λ x. omega (arith, enough x, count-append x t.inputs (all_inputs ts)),
  λ x. omega (arith, room x),
  λ x. omega (arith, enough x, room x, count-append x t.inputs (all_inputs ts), count-append x t.outputs (all_outputs ts)),
  funded_batch (behind β t) ts
      (λ x. omega (arith, enough x, count-append x t.inputs (all_inputs ts)))
      (λ x. omega (arith, enough x, room x, count-append x t.inputs (all_inputs ts), count-append x t.outputs (all_outputs ts))),
)

module _ {genesis : Digest → ℕ} {P : Compact → Type 0} (apart : Apart genesis P) {v w : View} (inv : Inv genesis P v) (b : Batch) (ts : List Compact)
    (step : Commits P v w b ts)
    (β : Digest → ℕ) (book : (x : Digest) → β x + v.spent x ≡ genesis x + v.made x) where
  pub newly_funded : Funded β ts
  newly_funded = funded_batch β ts
      (λ x. elim (none_or_some (count x (all_inputs ts))) [
        | none z ↦ omega arith
        | some n ↦ omega (arith, was_held apart inv b ts step x n, takes_once apart inv b ts step x, inv.arrived_le x, book x)
      ])
      (λ x. omega (arith, book x, step.made x, (commit_kept apart inv b ts step).made_once x))

module _ (K : Shape) (minting : Minted) (P : Compact → Type 0) (shards : 0 < K.shards) (apart : Apart (λ x. count x minting.hashes) P) where
  quiet_funded : (past : List Row) (row : Row) → newly_won row.what (journal row.node past) ≡ []
      → Funded (λ x. count x minting.hashes) (committed past)
      → Funded (λ x. count x minting.hashes) (committed (row ∷ past))
  quiet_funded past row e f = subst (λ ts. Funded (λ x. count x minting.hashes) ts)
      (sym (ap (λ ts. committed past ++ ts) e ∙ append-nil (committed past))) f

  funded_next : (past : List Row) → Structure K P past → Inv (λ x. count x minting.hashes) P (view K past)
      → Funded (λ x. count x minting.hashes) (committed past)
      → (node : ℕ) (r : Record) → Next K node (journal node past) r → IsCaused K (λ n. journal n past) node r
      → Funded (λ x. count x minting.hashes) (committed (record { node = node; what = r } ∷ past))
  funded_next past st inv f node (Genesis header hs) next caused = absurd next
  funded_next past st inv f node (Carry stamp header source hs numbers) next caused = absurd next
  funded_next past st inv f node (Start header) next caused = absurd next
  funded_next past st inv f node (CarryStart stamp header source numbers) next caused = absurd next
  funded_next past st inv f node (Commit stamp b os) next caused =
      funded-append (λ x. count x minting.hashes) (committed past) _ f
      (funded_commit past st inv f node stamp b os next caused)
    where
      funded_commit : (past : List Row) (st : Structure K P past) → Inv (λ x. count x minting.hashes) P (view K past)
          → Funded (λ x. count x minting.hashes) (committed past)
          → (node stamp : ℕ) (b : Batch) (os : List Outcome) (next : Next K node (journal node past) (Commit stamp b os))
          (caused : IsCaused K (λ n. journal n past) node (Commit stamp b os))
          → Funded (behind_all (λ x. count x minting.hashes) (committed past)) (newly_won (Commit stamp b os) (journal node past))
      funded_commit past st inv f node stamp b os next caused =
          newly_funded apart inv b (newly K P past st node stamp b os shards next caused)
          (commit_changes K P past st node stamp b os shards next caused)
          (behind_all (λ x. count x minting.hashes) (committed past)) (λ x. behind_all-sum (λ x. count x minting.hashes) (committed past) f x)
  funded_next past st inv f node other next caused = quiet_funded past (record { node = node; what = other }) refl f

  pub kept_funded : (later : List Row) → Steady K minting P later → Funded (λ x. count x minting.hashes) (committed (later ++ first_rows K minting))
  kept_funded [] kept = subst (λ ts. Funded (λ x. count x minting.hashes) ts)
      (sym (no_committed (first_rows K minting) (all_first K minting P shards))) tt
  kept_funded (row ∷ later) kept =
      funded_next (later ++ first_rows K minting) (kept_structure K minting P shards apart later kept.3)
      (kept_inv K minting P shards apart later kept.3)
      (kept_funded later kept.3) row.node row.what kept.0 kept.1
