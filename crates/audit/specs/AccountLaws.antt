-- The laws, each as one statement.
use Rattle.std.specs.Prelude.{◌≡◌, ℕ, ◌<◌, List, reverse}
use Rattle.cbdc_model.specs.Records.{Digest, Shape, Compact, Record, Row, journal}
use Rattle.cbdc_model.specs.Coins.{Output, FullTx, genesis_id}
use Rattle.cbdc_model.specs.Clean.{Clean}
use Rattle.cbdc_model.specs.History.{Minted, minted, IsOrdered}
use Rattle.cbdc_model.specs.Lanes.{KeptLists}
use Rattle.cbdc_types.specs.declared.answer.Totals.{Totals}
use Rattle.audit.specs.Walks.{AllCaused}
use Rattle.audit.specs.Verdicts.{IsSoundHistory, journals_of}
use Rattle.audit.specs.Journals.{AreLedgerJournals, BeginAs}
use Rattle.audit.specs.Accounts.{EachSpends, IsAccounted}

-- journals begin with the first records of some mint with the ledger's id
abbrev pub BegunLaw : Type 0
BegunLaw = (K : Shape) (genesis : Digest) (J : ℕ → List Record) → 0 < K.shards → AreLedgerJournals K genesis J
    → (m : Minted) × (m.id ≡ genesis) × BeginAs K m J

-- any transactions may be prepared
abbrev pub AnyForm : Compact → Type 0
AnyForm k = Unit {0}

-- of caused rows each record is after its journal and was caused by beginnings of the journals
abbrev pub CausedListsLaw : Type 0
CausedListsLaw = (K : Shape) (m : Minted) (past : List Row) → AreLedgerJournals K m.id (λ n. journal n past) → BeginAs K m (λ n. journal n past)
    → AllCaused K past
    → KeptLists K m AnyForm (λ n. journal n past)

-- a sound verdict accounts for all money
abbrev pub AccountLaw : Type 0
AccountLaw = (K : Shape) (mint : List Output) (handed : List FullTx) (rows : List Row) (totals : Totals) → 0 < K.shards
    → AreLedgerJournals K (genesis_id mint) (journals_of rows)
    → IsOrdered (reverse rows) → BeginAs K (minted mint) (journals_of rows) → Clean mint handed → EachSpends (reverse rows)
    → IsSoundHistory K mint handed rows totals
    → IsAccounted K mint handed (journals_of rows) totals
