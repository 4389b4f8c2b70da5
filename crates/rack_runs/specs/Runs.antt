-- What runs leave of the ledger that a rack showed.
use Rattle.std.specs.Prelude.{◌≤◌, ◌≡◌, ◌⊎◌, ℕ, ◌<◌, Bool, true, false, List, [], ◌++◌, length, reverse, Option, Some}
use Rattle.outside.specs.Counts.{Rose}
use Rattle.outside.specs.declared.disk.Disk.{Ghosts}
use Rattle.cbdc_types.specs.declared.answer.Answer.{Answer}
use Rattle.cbdc_types.specs.declared.answer.Answer.TheVariants as answers
use Rattle.cbdc_model.specs.Records.{Shape, Batch, Compact, Record, Prepare, journal}
use Rattle.cbdc_model.specs.Coins.{Output, FullTx}
use Rattle.cbdc_model.specs.Clean.{Clean}
use Rattle.cbdc_model.specs.Lanes.{IsEnd}
use Rattle.cbdc_model.specs.World.{AreIdle, KeptJournals}
use Rattle.cbdc_model.specs.Headline.{Headline}
use Rattle.cbdc_model.specs.Waves.{Adds, has_prepare, has_done, IsResumed, Waves}
use Rattle.lane_driver.specs.declared.fault.LaneFault.{LaneFault}
use Rattle.record_log.specs.Held.{OpensToEither}
use Rattle.rack_laws.specs.Shown.{OfShown, KeepsEach, HoldsEach, AreImagesLeft, OpenTo}
use Rattle.rack_ledgers.specs.RefusalLaws.{AllHaveRoom}
use Rattle.cbdc_model.specs.Ranges.{node_count}
use Rattle.submissions.specs.Checks.{VerdictsOf, TellsSound}
use Rattle.submissions.specs.SoundTest.{sound_by}
use Rattle.rack_ledgers.specs.Racked.{Disks, OfTold, SameRoom}
use Rattle.rack_ledgers.specs.Caused.{IsCausedLedger}
use Rattle.rack_ledgers.specs.RefusalLaws.{AllTell}
use Rattle.ledger_runs.specs.Turning.{IsLaneOf, OfKept}
use Rattle.ledger_runs.specs.Least.{IsLeastOpen}
use Rattle.ledger_runs.specs.Pieces.{HasPreparedPieces}
use Rattle.file_runs.specs.Runs.{joined, HaveBegunFiles, IsFilesPiece}
use Rattle.file_runs.specs.Endings.{HasBegunFirst}
use Rattle.rack_runs.specs.Kinds.{IsLaneAnswer, MayComeNext, StaysCaused}
use Rattle.rack_runs.specs.Endings.{EndsRun, IsInOrder, IsLeastAnswer}
use Rattle.rack_runs.specs.Resting.{AllRestBehind}

-- journals that have grown at their ends from those at entry, and are kept
pub record IsGrown (K : Shape) (mint : List Output) (submissions : List FullTx) (E X : ℕ → List Record) : Type 0 where
  pub grows : (n : ℕ) → IsEnd (E n) (X n)
  pub kept : KeptJournals K mint submissions X

-- a run over a kept ledger, from the journals at entry to those at exit
pub record IsRun {D : Type 0} (device : Ghosts D) (held : ℕ → Option D) (verdicts : VerdictsOf) (files : List (List FullTx))
    (K : Shape) (mint : List Output) (submissions : List FullTx) (E : ℕ → List Record) : Type 0 where
  pub exit : ℕ → List Record
  pub grown : IsGrown K mint (submissions ++ joined files) E exit
  -- each disk holds its journal and no record more, and has room for it and for what is kept
  pub disks : HoldsEach device held K exit
  pub rooms : AllHaveRoom device held K exit
  -- the open batches are brought to their end, lane by lane in rising order, and one file's wave after another follows
  pub resumed : files ≡ [] → IsResumed K E exit
  pub waves : Waves K (sound_by verdicts) files E exit
  pub in_order : IsInOrder K E exit
  -- where no hashes clash the headline holds of the journals at exit
  pub headline : Clean mint (submissions ++ joined files) → Headline K mint (submissions ++ joined files) exit

-- a recovery of a kept ledger, from the journals at entry to those at exit
pub record IsRecovery {D : Type 0} (device : Ghosts D) (held : ℕ → Option D) (K : Shape) (mint : List Output) (submissions : List FullTx)
    (E : ℕ → List Record) : Type 0 where
  pub exit : ℕ → List Record
  pub grown : IsGrown K mint submissions E exit
  -- each disk holds its journal and no record more, and has room for it and for what is kept
  pub disks : HoldsEach device held K exit
  pub rooms : AllHaveRoom device held K exit
  -- the open batches are brought to their end, lane by lane in rising order, and nothing else is done
  pub resumed : IsResumed K E exit
  pub in_order : IsInOrder K E exit
  -- where no hashes clash the headline holds of the journals at exit
  pub headline : Clean mint submissions → Headline K mint submissions exit

-- whatever a crash leaves of the disks opens to journals that have grown from those at entry, and are kept, and each disk has room for its journal
-- and for what is kept for the batches that are open there
abbrev pub SurvivesCrashes : {D : Type 0} → Ghosts D → (ℕ → Option D) → Shape → List Output → List FullTx → (ℕ → List Record) → Type 0
SurvivesCrashes device held K mint submissions E =
    (contents : ℕ → List ℕ) → AreImagesLeft device held K contents
    → (X : ℕ → List Record) × OpenTo held K contents X × IsGrown K mint submissions E X × AllHaveRoom device held K X

-- a run that a lane's fault cut short: each disk keeps its journal at exit, with one record more or without, and has room for it and for what is kept
-- for the batches that are open there; and whatever a crash leaves of the disks is kept
pub record IsCutShort {D : Type 0} (device : Ghosts D) (held : ℕ → Option D) (files : List (List FullTx)) (exit : ℕ → List Record) (K : Shape)
    (mint : List Output) (submissions : List FullTx) (E : ℕ → List Record) : Type 0 where
  pub grown : IsGrown K mint (submissions ++ joined files) E exit
  pub disks : KeepsEach device held K exit
  pub rooms : AllHaveRoom device held K exit
  pub crashes : SurvivesCrashes device held K mint (submissions ++ joined files) E

-- the journals of the ledger that the disks told
abbrev pub entry_journals : {D : Type 0} {device : Ghosts D} {held : ℕ → Option D} → IsCausedLedger device held → ℕ → List Record
entry_journals ledger n = journal n (reverse ledger.rows)

-- a ledger that the disks told was run over, or its open batches brought to their end: what it was, and what is left of it, kept or not
pub record TookLedger {D : Type 0} (device : Ghosts D) (held back : ℕ → Option D) : Type 0 where
  -- the disks, as far as they told, held a ledger in which each record was caused
  pub ledger : IsCausedLedger device held
  -- each of its disks had room for its journal and for what is kept for the batches that were open there, and in each place there is as much room as
  -- there was
  pub room : AllHaveRoom device held ledger.shape (entry_journals ledger)
  pub same_room : (n : ℕ) → n < node_count ledger.shape → SameRoom device (held n) (back n)
  -- its journals have grown at their ends, by records that are caused too
  pub exit : ℕ → List Record
  pub grows : (n : ℕ) → IsEnd (entry_journals ledger n) (exit n)
  pub caused : StaysCaused ledger.shape ledger.genesis exit
  -- where the disks told all, whatever a crash leaves of one opens to exactly its node's journal
  pub disks : AllTell device held ledger.shape → HoldsEach device back ledger.shape exit
  pub rooms : AllHaveRoom device back ledger.shape exit
  -- the disks that are no nodes of it are as before
  pub spared : (n : ℕ) → node_count ledger.shape ≤ n → back n ≡ held n

-- whatever a crash may leave of a node's disk that is told opens to this journal, with what is in flight there or without
abbrev pub KeepsFlights : {D : Type 0} → Ghosts D → (ℕ → Option D) → Shape → (ℕ → List Record) → (ℕ → Option Record) → Type 0
KeepsFlights device held K X flights = (n : ℕ) → n < node_count K
    → OfTold (held n) (λ d. (c : List ℕ) → device.images d c → OpensToEither (reverse (X n)) (flights n) c)

-- what lanes do over a ledger, as relations between journals. `handed`: the transactions that are handed in, group by group. `next`: those that may
-- be next for a lane, from journals at entry to later ones. `ends`: whose fault ends it, by the nodes whose disks have failed and by what disks may
-- hold. `begun`: what has been begun. `through`: what is so where all of it came through
pub record Turns : Type 1 where
  pub handed : List (List FullTx)
  pub next : Shape → (ℕ → List Record) → (ℕ → List Record) → ℕ → List Compact → Type 0
  pub ends : Shape → (ℕ → List Record) → (ℕ → List Record) → (ℕ → Type 0) → (ℕ → ℕ → Type 0) → LaneFault → Type 0
  pub begun : Shape → (ℕ → List Record) → (ℕ → List Record) → Type 0
  pub through : Shape → (ℕ → List Record) → (ℕ → List Record) → Type 0

-- the node's count of faults rose
abbrev pub RoseAt : {D : Type 0} → Disks D → Disks D → ℕ → Type 0
RoseAt before after = λ n. Rose (before.faults n) (after.faults n)

-- the node's disk, where it was told, may hold so many bytes
abbrev pub DiskMayHold : {D : Type 0} → Ghosts D → Disks D → ℕ → ℕ → Type 0
DiskMayHold device before = λ n c. OfTold (before.held n) (λ d. c ≡ device.limit d)

-- A lane's fault ended a run, or a recovery, over the ledger that the disks told: what it leaves, and why it is the answer.
pub record IsLaneFault {D : Type 0} (device : Ghosts D) (before after : Disks D) (turns : Turns) (answer : Answer) : Type 0 where
  -- the disks, as far as they told, held a ledger in which each record was caused
  pub ledger : IsCausedLedger device before.held
  -- its journals have grown at their ends, by records that are caused too, as a run that began so far grows them
  pub exit : ℕ → List Record
  pub grows : (n : ℕ) → IsEnd (entry_journals ledger n) (exit n)
  pub caused : StaysCaused ledger.shape ledger.genesis exit
  pub prepared : turns.begun ledger.shape (entry_journals ledger) exit
  -- a record is in flight only at a node whose count of faults rose, a Prepare only of transactions that are next for its lane
  pub flights : ℕ → Option Record
  pub in_flight : (n : ℕ) (r : Record) → n < node_count ledger.shape → flights n ≡ Some r → RoseAt before after n
  pub prepares : (n t : ℕ) (b : Batch) (txs : List Compact) → n < node_count ledger.shape → flights n ≡ Some (Prepare t b txs)
      → IsLaneOf ledger.shape b.lane × turns.next ledger.shape (entry_journals ledger) exit b.lane txs
  -- where the disks told all, each keeps its journal, with what is in flight there or without
  pub disks : AllTell device before.held ledger.shape → KeepsFlights device after.held ledger.shape exit flights
  -- the answer has its cause, by the counts of faults and by what the disks that were told may hold
  pub cause : IsLaneAnswer ledger.shape (turns.next ledger.shape (entry_journals ledger) exit) (entry_journals ledger) exit
      (RoseAt before after) (DiskMayHold device before) answer
  -- whatever a lane wants may come next where it would stand
  pub may_come : MayComeNext ledger.shape ledger.genesis (turns.next ledger.shape (entry_journals ledger) exit) (entry_journals ledger) exit
  -- the fault is that of the least lane that met one; or all came through, and memory ran out behind that
  pub least : IsLeastAnswer (turns.through ledger.shape (entry_journals ledger) exit)
      (turns.ends ledger.shape (entry_journals ledger) exit (RoseAt before after) (DiskMayHold device before)) answer
  -- each lane is between batches, or its batch lacks a Lock, or the disk of a node that it asks has failed; or its batch was prepared and is so
  -- still, and the answer is that memory ran out, or a lesser lane has its batch open still; or that is the answer and nothing was written
  pub rests : AllRestBehind ledger.shape (entry_journals ledger) exit (RoseAt before after) (answer ≡ answers.Memory)
  -- each disk of the ledger had room for its journal and for what was kept for the batches open there; in each place there is as much room as there
  -- was, and so for its journal at exit
  pub room : AllHaveRoom device before.held ledger.shape (entry_journals ledger)
  pub same_room : (n : ℕ) → n < node_count ledger.shape → SameRoom device (before.held n) (after.held n)
  pub rooms : AllHaveRoom device after.held ledger.shape exit
  -- where the ledger was kept the run is cut short: it is kept still, whatever a crash leaves of the disks
  pub kept : OfShown device before.held (IsCutShort device after.held turns.handed exit)
  -- the disks that are no nodes of it are as before
  pub spared : (n : ℕ) → node_count ledger.shape ≤ n → after.held n ≡ before.held n

-- nothing is next for any lane
abbrev pub NothingNext : Shape → (ℕ → List Record) → (ℕ → List Record) → ℕ → List Compact → Type 0
NothingNext K E X lane txs = ⊥

-- the next piece of what these files send to a lane, by what it has prepared from journals E to X
abbrev pub PieceNext : VerdictsOf → List (List FullTx) → Shape → (ℕ → List Record) → (ℕ → List Record) → ℕ → List Compact → Type 0
PieceNext verdicts files K E X = IsFilesPiece K verdicts files E X

-- all new records, at coordinators and shards, are of batches that were open at entry
abbrev pub AddsOpen : Shape → (ℕ → List Record) → (ℕ → List Record) → Type 0
AddsOpen K E X = Adds (λ b. (has_prepare K E b ≡ true) × (has_done K E b ≡ false)) E X

-- `AddsOpen`; or, where there are files, the open batches and then the waves of the first of the files are at their end (`Waves`), and all records
-- behind those are of batches that were not prepared then and that the next file alone has begun (`HasBegunFirst`). So no record of a file is written
-- before all batches of the open ones and of the files before are done
abbrev pub IsCutWaves : Shape → (FullTx → Bool) → List (List FullTx) → (ℕ → List Record) → (ℕ → List Record) → Type 0
IsCutWaves K sound files E X =
    AddsOpen K E X
    ⊎ ((0 < length files) × (done : List (List FullTx)) × (more : List (List FullTx)) × (middle : ℕ → List Record)
    × (files ≡ done ++ more) × Waves K sound done E middle × Adds (λ b. has_prepare K middle b ≡ false) middle X
    × HasBegunFirst K sound more middle X)

-- no lane has prepared anything, and where the journals at entry are kept all new records are of batches that were open; these are taken up in the
-- order of their lanes
abbrev pub NonePrepared : Shape → (ℕ → List Record) → (ℕ → List Record) → Type 0
NonePrepared K E X = ((lane : ℕ) → IsLaneOf K lane → HasPreparedPieces K lane [] E X) × OfKept K E (λ _ _. AddsOpen K E X) × IsInOrder K E X

-- no lane has prepared anything but the first pieces of what these files send it, and where the journals at entry are kept the new records keep the
-- order of open batches and files; the open batches are taken up in the order of their lanes
abbrev pub PiecesPrepared : VerdictsOf → List (List FullTx) → Shape → (ℕ → List Record) → (ℕ → List Record) → Type 0
PiecesPrepared verdicts files K E X =
    HaveBegunFiles K verdicts files E X × OfKept K E (λ _ _. (sound : FullTx → Bool) → TellsSound verdicts sound → IsCutWaves K sound files E X)
    × IsInOrder K E X

-- all lanes are idle, and where the journals at entry are kept the open batches are at their end
abbrev pub AllResumed : Shape → (ℕ → List Record) → (ℕ → List Record) → Type 0
AllResumed K E X = AreIdle K X × OfKept K E (λ _ _. IsResumed K E X)

-- all lanes are idle, and where the journals at entry are kept the open batches and the waves of these files are at their end
abbrev pub AllRan : VerdictsOf → List (List FullTx) → Shape → (ℕ → List Record) → (ℕ → List Record) → Type 0
AllRan verdicts files K E X = AreIdle K X × OfKept K E (λ _ _. (sound : FullTx → Bool) → TellsSound verdicts sound → Waves K sound files E X)

-- a recovery: nothing is handed in, and the open batches alone are brought to their end
abbrev pub open_turns : Turns
open_turns = record { handed = []; next = NothingNext; ends = IsLeastOpen; begun = NonePrepared; through = AllResumed }

-- a run of these files: the open batches, and then one file after another
abbrev pub file_turns : VerdictsOf → List (List FullTx) → Turns
file_turns verdicts files = record {
  handed = files;
  next = PieceNext verdicts files;
  ends = EndsRun verdicts files;
  begun = PiecesPrepared verdicts files;
  through = AllRan verdicts files;
}
