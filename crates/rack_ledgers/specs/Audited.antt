-- What an audit finds of the ledger that a rack's disks tell.
use Rattle.std.specs.Prelude.{◌+◌, ◌<◌, ◌≤◌, ℕ, List, reverse, Option}
use Rattle.outside.specs.declared.disk.Disk.{Ghosts}
use Rattle.cbdc_model.specs.Records.{Digest, Shape, Record, Row, journal}
use Rattle.cbdc_model.specs.Coins.{Output, FullTx, genesis_id}
use Rattle.cbdc_model.specs.Clean.{Clean}
use Rattle.cbdc_model.specs.History.{header_of, minted}
use Rattle.cbdc_model.specs.Room.{kept_room}
use Rattle.cbdc_model.specs.Due.{used_of}
use Rattle.rack_ledgers.specs.Racked.{OfTold, StillHolds}
use Rattle.rack_ledgers.specs.Caused.{AreMerged, IsToldHistory}
use Rattle.cbdc_types.specs.declared.answer.Totals.{Totals}
use Rattle.audit.specs.declared.verdict.Verdict.{Verdict}
use Rattle.audit.specs.declared.verdict.Verdict.TheVariants.{Sound, Unsound}
use Rattle.audit.specs.Verdicts.{IsVerdict, journals_of}
use Rattle.audit.specs.Journals.{BeginAs}
use Rattle.audit.specs.Accounts.{EachSpends, IsAccounted}

-- of the history of these journals an audit has this verdict
pub record HasAuditVerdict (K : Shape) (all : List (List Record)) (mint : List Output) (handed : List FullTx) (verdict : Verdict) : Type 0 where
  pub rows : List Row
  pub merged : AreMerged all rows
  pub is : IsVerdict K mint handed rows verdict

-- of the history of the ledger that the disks tell, an audit with this mint and the transactions that were handed in has this verdict
pub record IsAudited {D : Type 0} (device : Ghosts D) (held : ℕ → Option D) (mint : List Output) (handed : List FullTx) (verdict : Verdict) : Type 0
  where
    pub shape : Shape
    pub rows : List Row
    pub history : IsToldHistory device held shape (genesis_id mint) rows
    pub is : IsVerdict shape mint handed rows verdict

-- each disk that is told of the ledger with this history, the oldest row first, has room for its journal there and for what is kept for the batches
-- that are open in it
abbrev pub HistoryHasRoom : {D : Type 0} → Ghosts D → (ℕ → Option D) → Shape → List Row → Type 0
HistoryHasRoom device held K rows =
    (n : ℕ) → n < K.coordinators + K.shards → OfTold (held n)
    (λ was. used_of (journal n (reverse rows)) + kept_room K (journal n (reverse rows)) ≤ device.limit was)

-- each disk that told its content still holds its journal of this history: whatever a crash may leave of it opens to just that journal
abbrev pub HistoryIsHeld : {D : Type 0} → Ghosts D → (ℕ → Option D) → (ℕ → Option D) → Shape → Digest → List Row → Type 0
HistoryIsHeld device before now K genesis rows =
    (n : ℕ) → n < K.coordinators + K.shards → StillHolds device (before n) (now n) (header_of K genesis n) (journal n (reverse rows))

-- of the ledger that the disks tell, if its first records are those of the mint, no hashes clash and each committed transaction has an input, all
-- money is accounted for, with these totals
pub record IsAccountedFor {D : Type 0} (device : Ghosts D) (held : ℕ → Option D) (mint : List Output) (handed : List FullTx) (totals : Totals) : Type
    0 where
  pub shape : Shape
  pub rows : List Row
  pub history : IsToldHistory device held shape (genesis_id mint) rows
  pub accounted : BeginAs shape (minted mint) (journals_of rows) → Clean mint handed → EachSpends (reverse rows)
      → IsAccounted shape mint handed (journals_of rows) totals

-- so it is where the verdict is that all is sound
abbrev pub Accounts : {D : Type 0} → Ghosts D → (ℕ → Option D) → List Output → List FullTx → Verdict → Type 0
Accounts device held mint handed (Sound totals) = IsAccountedFor device held mint handed totals
Accounts device held mint handed (Unsound place kind) = Unit {0}
