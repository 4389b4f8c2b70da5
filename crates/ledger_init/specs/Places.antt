-- What is on the disks that nodes are made of, by their places, while the first records are written from the last node on.
use Rattle.std.specs.Prelude.{◌≡◌, ◌≢◌, ◌+◌, ◌≤◌, ℕ, suc, List, [], ◌∷◌, ◌++◌, length, Option, IsSome}
use Rattle.outside.specs.declared.disk.Disk.{Ghosts}
use Rattle.cbdc_types.specs.declared.answer.Answer.{Answer}
use Rattle.cbdc_types.specs.declared.answer.Answer.TheVariants as answers
use Rattle.cbdc_model.specs.Records.{Compact, Record}
use Rattle.cbdc_model.specs.History.{Minted}
use Rattle.record_log.specs.Bodies.{body_of}
use Rattle.record_log.specs.Held.{HoldsRecords}
use Rattle.gate_journal.specs.Formatting.{IsEmptied}
use Rattle.rack_ledgers.specs.Places.{EachFrom, IsOpening}
use Rattle.rack_ledgers.specs.Racked.{OfTold}
use Rattle.rack_ledgers.specs.First.{IsBegun, first_need, IsUnwritten}

-- what first records say of a mint, by its transaction
abbrev pub minted_by : Compact → Minted
minted_by t = record { id = t.id; hashes = t.outputs }

-- where a disk that was given told its content, it now holds this record alone, and so does whatever a crash may leave of it
abbrev pub HoldsOf : {D : Type 0} → Ghosts D → Record → D → D → Type 0
HoldsOf device first given now = IsSome (device.content given)
    → HoldsRecords (device.content now) (device.images now) (9 + length (body_of first)) (first ∷ [])

-- where a disk that was given told its content, a crash leaves nothing but what has the property, by what it might have left then
abbrev pub LeavesOf : {D : Type 0} → Ghosts D → ((List ℕ → Type 0) → List ℕ → Type 0) → D → D → Type 0
LeavesOf device P given now = IsSome (device.content given) → (c : List ℕ) → device.images now c → P (device.images given) c

-- a crash leaves no more than what was there or this record; and no more than what was there unless the disk failed
pub record IsSafe {D : Type 0} (device : Ghosts D) (node : ℕ) (first : Record) (answer : Answer) (given now : D) : Type 0 where
  pub begun : LeavesOf device (λ before. IsBegun before first) given now
  pub emptied : answer ≢ answers.DiskFault node → LeavesOf device IsEmptied given now

-- this node's disk holds its first record, for which it has room, and has as much as it had
pub record IsFirstWritten {D : Type 0} (device : Ghosts D) (first : Record) (given : D) (held : Option D) : Type 0 where
  pub holds : OfTold held (HoldsOf device first given)
  pub begun : OfTold held (LeavesOf device (λ before. IsBegun before first) given)
  pub room : first_need first ≤ device.limit given
  pub same : OfTold held (λ now. device.limit now ≡ device.limit given)

-- this node's disk did not take its first record, and why
pub record IsStopped {D : Type 0} (device : Ghosts D) (node : ℕ) (first : Record) (answer : Answer) (now : ℕ) (given : D) (held : Option D) : Type 0
  where
    pub safe : OfTold held (IsSafe device node first answer given)
    pub refusal : IsUnwritten node (device.limit given) first answer
    pub opening : IsOpening node (device.count given) now answer

-- the writing stopped at one of the items: those behind it are done, and those before it are as they were
pub record WritingStopsAt {X : Type 0} (Waits Fails Done : ℕ → X → Type 0) (whole : List X) : Type 0 where
  pub front : List X
  pub x : X
  pub done : List X
  pub parts : whole ≡ front ++ x ∷ done
  pub waiting : EachFrom Waits 0 front
  pub fails : Fails (length front) x
  pub behind : EachFrom Done (suc (length front)) done
