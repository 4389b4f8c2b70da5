-- The history that journals have, as a list of rows.
use Rattle.std.specs.Prelude.{◌≡◌, ℕ, ◌+◌, ◌≤◌, List, []}
use Rattle.cbdc_model.specs.Records.{Shape, Record, Row}
use Rattle.cbdc_model.specs.Coins.{Output}
use Rattle.cbdc_model.specs.History.{minted, history_of}
use Rattle.cbdc_model.specs.World.{IsHistory}

-- no node past a ledger's last one has a journal
abbrev pub AreOnNodes : Shape → (ℕ → List Record) → Type 0
AreOnNodes K J = (n : ℕ) → K.coordinators + K.shards ≤ n → J n ≡ []

-- the rows are all records of these journals by stamp and node, the first ones among them
abbrev pub IsWholeHistory : Shape → List Output → (ℕ → List Record) → List Row → Type 0
IsWholeHistory K mint J rows = (later : List Row) × IsHistory K (minted mint) J later × (rows ≡ history_of K mint later)
