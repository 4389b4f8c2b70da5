-- A worked number: a ledger of one coin on one shard and one coordinator with one lane, and a file of one transaction of one input and one
-- output.
use Rattle.std.specs.Prelude.{◌≡◌, ◌↔◌, ℕ, ◌≤◌, true, List, [], ◌∷◌, length}
use Rattle.cbdc_model.specs.Records.{Digest, Shape, Record, journal}
use Rattle.cbdc_model.specs.History.{Minted, first_rows}
use Rattle.cbdc_model.specs.Coins.{FullTx}
use Rattle.run_laws.specs.Ample.{Ample}

-- a shape of one coordinator, one shard and one lane
abbrev pub one_of_each : Shape
one_of_each = record { shards = 1; coordinators = 1; lanes = 1; batch = 16 }

-- its first records
abbrev pub first_journals : Minted → ℕ → List Record
first_journals m n = journal n (first_rows one_of_each m)

-- behind a gate and the Start's 98 bytes, the Prepare takes 154, the Commit at most 99, the Discard and the Done 34 each; behind a gate and
-- the Genesis's 138, the Lock takes at most 211, the Finish 43 and the Forget 34
abbrev pub RowLaw : Type 0
RowLaw = (m : Minted) (h : Digest) (t : FullTx) (capacity : ℕ → ℕ) → m.hashes ≡ h ∷ [] → length t.inputs ≡ 1 → length t.outputs ≡ 1
    → Ample one_of_each (λ t. true) capacity ((t ∷ []) ∷ []) (first_journals m) ↔ (420 ≤ capacity 0) × (427 ≤ capacity 1)
