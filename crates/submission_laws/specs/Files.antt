-- The files of a workload, and the journals that its mint begins.
use Rattle.std.specs.Prelude.{ℕ, List, [], ◌∷◌, ◌++◌}
use Rattle.cbdc_model.specs.Records.{Shape, Record, journal}
use Rattle.cbdc_model.specs.Coins.{Output, FullTx}
use Rattle.cbdc_model.specs.History.{first_rows, minted}
use Rattle.sentinel.specs.declared.verifier.Verdict.TheVariants.{Good}
use Rattle.submissions.specs.Checks.{VerdictsOf}
use Rattle.workload.specs.Generator.{mint_of, splits_of, joins_of}

-- the verdicts of a verifier for which every witness is good
abbrev pub all_good : VerdictsOf
all_good id index = Good

-- the client files of a workload, and all their transactions
abbrev pub files_of : ℕ → ℕ → List (List FullTx)
files_of seed n = splits_of seed n ∷ joins_of seed n ∷ []

-- all its transactions in one list
abbrev pub all_submissions : ℕ → ℕ → List FullTx
all_submissions seed n = splits_of seed n ++ (joins_of seed n ++ [])

-- the journals of the ledger that a mint begins: a first record at each node
abbrev pub mint_journals : Shape → List Output → ℕ → List Record
mint_journals K mint node = journal node (first_rows K (minted mint))

-- the journals of the ledger that the workload's mint begins: a first record at each node
abbrev pub made_for : Shape → ℕ → ℕ → ℕ → List Record
made_for K seed n = mint_journals K (mint_of seed n)
