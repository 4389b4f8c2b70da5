-- What contracts see of a log.
use Rattle.std.specs.Prelude.{◌≡◌, ℕ, ◌+◌, ◌≤◌, List, vec_len, vec_capacity}
use Rattle.cbdc_model.specs.Records.{Record}
use Rattle.outside.specs.declared.disk.Disk.{Ghosts}
use Rattle.gate_journal.specs.Shown.{disk_of, gate_of, reserved_of, broken_of}
use Rattle.gate_journal.specs.declared.faults.AppendFault.{AppendFault}
use Rattle.gate_journal.specs.declared.faults.AppendFault.TheVariants as journals
use Rattle.record_log.specs.declared.log.LogFault.{LogFault}
use Rattle.record_log.specs.declared.log.LogFault.TheVariants.{Broken, Full, DiskFault}
use Rattle.record_log.specs.declared.log.RecordLog.{RecordLog}
use Rattle.record_log.specs.Held.{HoldsRecords}

-- its disk holds these records, and a crash leaves nothing else
abbrev pub HoldsAll : {D : Type 0} {G : Ghosts D} → RecordLog D G → List Record → Type 0
HoldsAll {D} {G} l records = HoldsRecords (G.content (disk_of l.journal)) (G.images (disk_of l.journal)) (gate_of l.journal) records

-- there is memory for so many more records, whose bodies have at most so many bytes
pub record HasLogRoom {D : Type 0} {G : Ghosts D} (l : RecordLog D G) (count bytes : ℕ) : Type 0 where
  pub records : vec_len l.records + count ≤ vec_capacity l.records
  pub body : bytes ≤ vec_capacity l.body
  pub row : bytes ≤ reserved_of l.journal

-- the memory that was there is there still
abbrev pub KeepsRoom : {D : Type 0} {G : Ghosts D} → RecordLog D G → RecordLog D G → Type 0
KeepsRoom old new = (count bytes : ℕ) → HasLogRoom old count bytes → HasLogRoom new count bytes

-- its journal is as before
pub record IsUntouched {D : Type 0} {G : Ghosts D} (old new : RecordLog D G) : Type 0 where
  pub disk : disk_of new.journal ≡ disk_of old.journal
  pub gate : gate_of new.journal ≡ gate_of old.journal
  pub broken : broken_of new.journal ≡ broken_of old.journal

-- a journal's refusal, as a log tells it
abbrev pub log_fault : AppendFault → LogFault
log_fault (journals.Broken since) = Broken since
log_fault (journals.Full used need capacity) = Full used need capacity
log_fault journals.DiskFault = DiskFault
