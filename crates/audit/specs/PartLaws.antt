-- What the audit of a part says of a kept ledger, as one statement.
use Rattle.std.specs.Prelude.{◌≡◌, ◌<◌, ◌+◌, List, reverse}
use Rattle.std.specs.FinMap.{len}
use Rattle.cbdc_model.specs.Records.{Shape, Row}
use Rattle.cbdc_model.specs.Coins.{Output, FullTx}
use Rattle.cbdc_model.specs.Book.{value, genesis_book}
use Rattle.cbdc_model.specs.Clean.{Clean}
use Rattle.cbdc_model.specs.History.{history_of, IsKept}
use Rattle.ledger_laws.specs.Sets.{Folds}
use Rattle.audit.specs.declared.parts.Part.{Part}
use Rattle.audit.specs.declared.parts.PartVerdict.{PartVerdict}
use Rattle.audit.specs.declared.parts.PartVerdict.TheVariants.{Sound, Unsound}
use Rattle.audit.specs.Parts.{HasSizes, IsPartVerdict}

-- the numbers are those of the book that the committed transactions fold to, whose coins have as many hashes as the three sets together; its value is
-- what was minted
pub record IsPartOf (K : Shape) (mint : List Output) (submissions : List FullTx) (past : List Row) (folds : Folds K mint submissions past)
    (part : Part) : Type 0 where
  pub sizes : HasSizes K past part.unspent part.held part.owed
  pub coins_are : part.unspent + part.held + part.owed ≡ len folds.book
  pub value_is : part.value ≡ value folds.book
  pub minted_is : part.minted ≡ value (genesis_book mint)
  pub kept : part.value ≡ part.minted

-- nothing is wrong, and the numbers are those
abbrev pub IsFoldedPart : (K : Shape) (mint : List Output) (submissions : List FullTx) (past : List Row) → Folds K mint submissions past
    → PartVerdict → Type 0
IsFoldedPart K mint submissions past folds (Sound part) = IsPartOf K mint submissions past folds part
IsFoldedPart K mint submissions past folds (Unsound place kind) = ⊥

-- so it is of every kept history in which no hashes clash
abbrev pub KeptPartLaw : Type 0
KeptPartLaw = (K : Shape) (mint : List Output) (submissions : List FullTx) (later : List Row) → 0 < K.shards → Clean mint submissions
    → IsKept K mint submissions later
    → (folds : Folds K mint submissions (history_of K mint later))
    × ((v : PartVerdict) → IsPartVerdict K mint submissions (reverse (history_of K mint later)) v
    → IsFoldedPart K mint submissions (history_of K mint later) folds v)
