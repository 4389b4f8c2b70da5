-- What a crash behind a call leaves of a ledger that was kept whatever a crash before it left.
use Rattle.std.specs.Prelude.{◌≡◌, ◌⊎◌, ℕ, ◌<◌, List, [], ◌++◌, reverse, Option}
use Rattle.outside.specs.Images.{Only}
use Rattle.outside.specs.declared.disk.Disk.{Ghosts}
use Rattle.line_text.specs.Lines.{Text}
use Rattle.cbdc_model.specs.Records.{Shape, Record}
use Rattle.cbdc_model.specs.Coins.{Output, FullTx}
use Rattle.cbdc_model.specs.Lanes.{IsEnd}
use Rattle.cbdc_model.specs.World.{KeptJournals}
use Rattle.command_line.specs.Asked.{WordsAskFor}
use Rattle.requests.specs.declared.Request.{Request}
use Rattle.record_log.specs.Held.{OpensTo}
use Rattle.rack_ledgers.specs.Racked.{OfTold}
use Rattle.command_answers.specs.Scene.{Scene}
use Rattle.commands.specs.Promises.{needs_of}
use Rattle.rack_laws.specs.Shown.{AreImagesLeft, OfShown, OpenTo}
use Rattle.cbdc_model.specs.Ranges.{node_count}

-- whatever a crash leaves of the disks opens to kept journals
abbrev pub IsKeptWhatever : {D : Type 0} → Ghosts D → (ℕ → Option D) → Shape → List Output → List FullTx → Type 0
IsKeptWhatever device held K mint submissions =
    (contents : ℕ → List ℕ) → AreImagesLeft device held K contents
    → (X : ℕ → List Record) × OpenTo held K contents X × KeptJournals K mint submissions X

-- the journal has grown at its end from one that a crash might have left of the disk; where nothing was unsynced there, from the one that it told, E
pub record GrewFrom {D : Type 0} (device : Ghosts D) (d : D) (E J : List Record) : Type 0 where
  pub image : List ℕ
  pub could : device.images d image
  pub old : List Record
  pub opens : OpensTo (reverse old) image
  pub grows : IsEnd old J
  pub synced : (c : List ℕ) → Only c (device.images d) → IsEnd E J

-- whatever a crash leaves of the disks now opens to kept journals, each of which has so grown
abbrev pub GrowsWhatever : {D : Type 0} → Ghosts D → (ℕ → Option D) → (ℕ → Option D) → Shape → List Output → List FullTx → (ℕ → List Record) → Type 0
GrowsWhatever device before now K mint submissions E =
    (contents : ℕ → List ℕ) → AreImagesLeft device now K contents
    → (X : ℕ → List Record) × OpenTo now K contents X × KeptJournals K mint submissions X
    × ((n : ℕ) → n < node_count K → OfTold (before n) (λ d. GrewFrom device d (E n) (X n)))

-- the transactions of all client files that are to be run
abbrev pub AreToRun : (Text → Option (List ℕ)) → Request → List FullTx → Type 0
AreToRun files r = (needs_of r).hands_in files

-- whatever a crash leaves of the ledger is kept, with the transactions that were to be run, or with none besides
pub record Survives {D : Type 0} (device : Ghosts D) (before after : Scene D) (words : List Text) (K : Shape) (mint : List Output)
    (submissions : List FullTx) (E : ℕ → List Record) : Type 0 where
  pub txs : List FullTx
  pub handed_in : (txs ≡ []) ⊎ ((r : Request) × WordsAskFor words r × AreToRun before.file r txs)
  pub grows : GrowsWhatever device before.disks.held after.disks.held K mint (submissions ++ txs) E

-- of the kept ledger that the disks showed: if it was kept whatever a crash left, it is so still
abbrev pub StaysKeptWhatever : {D : Type 0} → Ghosts D → Scene D → Scene D → List Text → Type 0
StaysKeptWhatever device before after words = OfShown device before.disks.held (λ K mint submissions E.
    IsKeptWhatever device before.disks.held K mint submissions → Survives device before after words K mint submissions E)
