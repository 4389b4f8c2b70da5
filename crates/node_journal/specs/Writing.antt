-- What a write leaves of a node's log.
use Rattle.std.specs.Prelude.{◌≡◌, ℕ, ◌+◌, ◌≤◌, [], ◌∷◌, ◌++◌, length, Some, None}
use Rattle.cbdc_model.specs.Records.{Record}
use Rattle.outside.specs.Counts.{Rose}
use Rattle.outside.specs.declared.disk.Disk.{Ghosts}
use Rattle.gate_journal.specs.Shown.{disk_of, gate_of, broken_of}
use Rattle.record_log.specs.Bodies.{body_of}
use Rattle.record_log.specs.Logs.{HasLogRoom}
use Rattle.record_log.specs.declared.log.RecordLog.{RecordLog}

-- the record was written, and is kept behind the others
pub record HasKept {D : Type 0} {G : Ghosts D} (old new : RecordLog D G) (r : Record) : Type 0 where
  pub records : new.records.items ≡ old.records.items ++ r ∷ []
  pub header : new.header ≡ old.header
  pub gate : gate_of new.journal ≡ gate_of old.journal + 9 + length (body_of r)
  pub broken : broken_of new.journal ≡ None
  pub limit : G.limit (disk_of new.journal) ≡ G.limit (disk_of old.journal)
  pub later : G.count (disk_of old.journal) ≤ G.count (disk_of new.journal)
  pub room : (count bytes : ℕ) → HasLogRoom old (count + 1) bytes → HasLogRoom new count bytes

-- the disk failed at it
pub record HasBroken {D : Type 0} {G : Ghosts D} (old new : RecordLog D G) : Type 0 where
  pub records : new.records.items ≡ old.records.items
  pub header : new.header ≡ old.header
  pub broken : broken_of new.journal ≡ Some (G.count (disk_of new.journal))
  pub limit : G.limit (disk_of new.journal) ≡ G.limit (disk_of old.journal)
  pub rose : Rose (G.count (disk_of old.journal)) (G.count (disk_of new.journal))
  pub later : G.count (disk_of old.journal) ≤ G.count (disk_of new.journal)
