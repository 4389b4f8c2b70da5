-- What client files and mint files are, as bytes.
use Rattle.std.specs.Prelude.{◌≡◌, ◌↔◌, ℕ, ◌+◌, ◌≤◌, List, length, false, Ok}
use Rattle.std.specs.List.{AllByRecursion}
use Rattle.cbdc_types.specs.declared.tx.Output.{Output}
use Rattle.cbdc_types.specs.declared.tx.FullTx.{FullTx}
use Rattle.byte_fields.specs.Faults.{IsBytes}
use Rattle.byte_spelling.specs.Spelling.{counted, output, transaction, FitsList, FitsOutput, FitsTransaction}
use Rattle.client_files.specs.Files.{clients_in, mint_in}

-- a client file is read just where it is the number of its transactions, then their spellings, and then its end, and they are at most
-- 1,000,000 with those of the files before it
abbrev pub ClientFileLaw : Type 0
ClientFileLaw = (before : ℕ) (bytes : List ℕ) (txs : List FullTx) → IsBytes bytes
    → (clients_in before false bytes ≡ Ok txs) ↔ ((bytes ≡ counted transaction txs) × (before + length txs ≤ 1000000)
    × AllByRecursion FitsTransaction txs)

-- a minted output has a value
abbrev pub FitsMinted : Output → Type 0
FitsMinted o = FitsOutput o × (1 ≤ o.value)

-- a mint file is read just where it is the number of its outputs, then they, each of value at least 1, and then its end
abbrev pub MintFileLaw : Type 0
MintFileLaw = (bytes : List ℕ) (mint : List Output) → IsBytes bytes
    → (mint_in false bytes ≡ Ok mint) ↔ ((bytes ≡ counted output mint) × FitsList 1000000 FitsMinted mint)
