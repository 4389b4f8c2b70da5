-- The journals of a ledger's nodes, and what they begin with.
use Rattle.std.specs.Prelude.{◌≡◌, ℕ, ◌+◌, ◌<◌, ◌≤◌, List, []}
use Rattle.cbdc_model.specs.Records.{Digest, Shape, Record}
use Rattle.cbdc_model.specs.After.{IsJournal}
use Rattle.cbdc_model.specs.History.{Minted, header_of}
use Rattle.cbdc_model.specs.Lanes.{IsEnd, first_of}

-- each node of the ledger has a journal under its own header, and no other node has a record
pub record AreLedgerJournals (K : Shape) (genesis : Digest) (J : ℕ → List Record) : Type 0 where
  pub nodes : (n : ℕ) → n < K.coordinators + K.shards → IsJournal (header_of K genesis n) (J n)
  pub others : (n : ℕ) → K.coordinators + K.shards ≤ n → J n ≡ []

-- each journal begins with the first record that this mint gives its node
abbrev pub BeginAs : Shape → Minted → (ℕ → List Record) → Type 0
BeginAs K m J = (n : ℕ) → IsEnd (first_of K m n) (J n)
