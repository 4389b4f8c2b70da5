-- How much room a new ledger needs for transactions of at most three coins.
use Rattle.std.specs.Prelude.{ℕ, ◌+◌, ◌*◌, ◌^◌, ◌≤◌, ◌<◌, Bool, List, [], ◌∷◌, length}
use Rattle.cbdc_types.specs.Limits.{IsWithinLimits}
use Rattle.cbdc_model.specs.Records.{Shape, journal}
use Rattle.cbdc_model.specs.Coins.{FullTx}
use Rattle.cbdc_model.specs.History.{Minted, first_rows}
use Rattle.input_files.specs.Contents.{all_txs}
use Rattle.run_laws.specs.Ample.{Ample}

-- each transaction of a file spends and makes together three coins at most
abbrev pub AreSmall : List FullTx → Type 0
AreSmall [] = Unit {0}
AreSmall (t ∷ more) = (length t.inputs + length t.outputs ≤ 3) × AreSmall more

-- each transaction of these files spends and makes together three coins at most
abbrev pub AllSmall : List (List FullTx) → Type 0
AllSmall [] = Unit {0}
AllSmall (file ∷ files) = AreSmall file × AllSmall files

-- behind its first record a coordinator's disk has 353 bytes for each of so many transactions, a shard's has 320
abbrev pub HasNewRoom : Shape → Minted → (ℕ → ℕ) → ℕ → Type 0
HasNewRoom K m capacity count =
    ((n : ℕ) → n < K.coordinators → 99 + 353 * count ≤ capacity n)
    × ((n : ℕ) → K.coordinators ≤ n → n < K.coordinators + K.shards → 107 + 32 * length m.hashes + 320 * count ≤ capacity n)

-- on a new ledger that is room enough, and there are stamps enough
abbrev pub NewRoomLaw : Type 0
NewRoomLaw = (K : Shape) (m : Minted) (sound : FullTx → Bool) (capacity : ℕ → ℕ) (files : List (List FullTx)) → IsWithinLimits K → AllSmall files
    → all_txs files ≤ 2 ^ 54 → HasNewRoom K m capacity (all_txs files)
    → Ample K sound capacity files (λ n. journal n (first_rows K m))
