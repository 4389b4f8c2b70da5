-- What an audit finds of a part of a ledger at work: how many hashes each of the three sets has of which its book is made.
use Rattle.std.specs.Prelude.{◌≡◌, ◌↔◌, ℕ, true, List, length, reverse}
use Rattle.cbdc_types.specs.declared.answer.UnsoundKind.TheVariants.{Cause, Unknown, Unfunded, Unfinished}
use Rattle.cbdc_model.specs.Records.{Digest, Shape, Row, journal}
use Rattle.cbdc_model.specs.Coins.{Output, FullTx}
use Rattle.cbdc_model.specs.Book.{Book, value}
use Rattle.cbdc_model.specs.Clean.{value_out}
use Rattle.cbdc_model.specs.Status.{has}
use Rattle.cbdc_model.specs.World.{IsUnspent}
use Rattle.ledger_laws.specs.Sets.{IsWaiting, IsComing}
use Rattle.shard_table.specs.Members.{IsSet}
use Rattle.audit.specs.declared.parts.Part.{Part}
use Rattle.audit.specs.declared.parts.PartVerdict.{PartVerdict}
use Rattle.audit.specs.declared.parts.PartVerdict.TheVariants.{Sound, Unsound}
use Rattle.audit.specs.Verdicts.{Passes, IsFirstUnsound}

-- of so many hashes this is so: they are listed, each once
pub record IsCount (is : Digest → Type 0) (n : ℕ) : Type 0 where
  pub hashes : List Digest
  pub once : IsSet hashes
  pub all : (x : Digest) → (has hashes x ≡ true) ↔ is x
  pub count : n ≡ length hashes

-- behind these rows, the newest of which is the first, so many hashes are Unspent, so many are Locked for an entry that is not committed, and so many
-- are outputs of committed transactions that are not there yet
pub record HasSizes (K : Shape) (past : List Row) (unspent held owed : ℕ) : Type 0 where
  pub unspent_are : IsCount (IsUnspent K (λ n. journal n past)) unspent
  pub held_are : IsCount (IsWaiting K past) held
  pub owed_are : IsCount (IsComing K past) owed

-- nothing is wrong with any row; the sizes are those of the three sets, the value is that of the last book, and what was minted is the sum of the
-- mint
pub record IsSoundPart (K : Shape) (mint : List Output) (handed : List FullTx) (rows : List Row) (part : Part) : Type 0 where
  pub book : Book
  pub pass : Passes K mint handed (reverse rows) book
  pub sizes : HasSizes K (reverse rows) part.unspent part.held part.owed
  pub value_is : part.value ≡ value book
  pub minted_is : part.minted ≡ value_out mint

-- the verdict on a part: as an audit's, but that batches may be open
abbrev pub IsPartVerdict : Shape → List Output → List FullTx → List Row → PartVerdict → Type 0
IsPartVerdict K mint handed rows (Sound part) = IsSoundPart K mint handed rows part
IsPartVerdict K mint handed rows (Unsound place Cause) = IsFirstUnsound K mint handed rows place Cause
IsPartVerdict K mint handed rows (Unsound place (Unknown id)) = IsFirstUnsound K mint handed rows place (Unknown id)
IsPartVerdict K mint handed rows (Unsound place (Unfunded id)) = IsFirstUnsound K mint handed rows place (Unfunded id)
IsPartVerdict K mint handed rows (Unsound place Unfinished) = ⊥
