-- What is known of verdicts and of the histories that they are of, each as one statement.
use Rattle.std.specs.Prelude.{◌≡◌, ◌↔◌, ℕ, ◌<◌, List, [], ◌∷◌, ◌++◌, All, length, reverse}
use Rattle.cbdc_model.specs.After.{After}
use Rattle.cbdc_model.specs.Book.{InBook}
use Rattle.cbdc_model.specs.Clean.{Clean}
use Rattle.cbdc_model.specs.Coins.{Output, FullTx}
use Rattle.cbdc_model.specs.History.{Minted, minted, header_of, first_rows, history_of, committed, IsOrdered}
use Rattle.cbdc_model.specs.Records.{Digest, Shape, Record, Row, journal}
use Rattle.cbdc_model.specs.World.{IsHistory, IsUnspent}
use Rattle.cbdc_types.specs.declared.answer.Totals.{Totals}
use Rattle.audit.specs.declared.verdict.Verdict.{Verdict}
use Rattle.audit.specs.Verdicts.{IsSoundHistory, IsVerdict}

-- a history has one verdict
abbrev pub OneVerdictLaw : Type 0
OneVerdictLaw = (K : Shape) (mint : List Output) (handed : List FullTx) (rows : List Row) (v w : Verdict) → IsVerdict K mint handed rows v
    → IsVerdict K mint handed rows w → v ≡ w

-- each row behind the first ones is after those of its journal
abbrev pub AllAfter : Shape → Minted → List Row → Type 0
AllAfter K m [] = Unit {0}
AllAfter K m (row ∷ later) = After (header_of K m.id row.node) (journal row.node (later ++ first_rows K m)) row.what × AllAfter K m later

-- rows in order that have the journals of a ledger are its history
abbrev pub OrderedLaw : Type 0
OrderedLaw = (K : Shape) (mint : List Output) (J : ℕ → List Record) (later rows : List Row) → AllAfter K (minted mint) later
    → IsHistory K (minted mint) J later
    → IsOrdered rows → ((n : ℕ) → journal n rows ≡ J n) → rows ≡ history_of K mint later

-- of a sound history whose first rows are a mint's and whose later ones follow their journals, where no hashes clash and each committed
-- transaction has an input, the unspent hashes are exactly those of the last book
abbrev pub UnspentLaw : Type 0
UnspentLaw = (K : Shape) (mint : List Output) (handed : List FullTx) (later : List Row) (totals : Totals) → 0 < K.shards → Clean mint handed
    → AllAfter K (minted mint) later → All (λ form. 0 < length form.inputs) (committed (history_of K mint later))
    → (sound : IsSoundHistory K mint handed (reverse (history_of K mint later)) totals)
    → (x : Digest) → IsUnspent K (λ n. journal n (history_of K mint later)) x ↔ InBook sound.book x
