-- What contracts see of a journal.
use Rattle.std.specs.Prelude.{ℕ, Option}
use Rattle.outside.specs.declared.disk.Disk.{Ghosts}
use Rattle.gate_journal.specs.declared.journal.Journal.{Journal}

-- its disk
abbrev pub disk_of : {D : Type 0} {G : Ghosts D} → Journal D G → D
disk_of j = j.disk

-- the place of its closing gate
abbrev pub gate_of : {D : Type 0} {G : Ghosts D} → Journal D G → ℕ
gate_of j = j.gate

-- how long a body may be for which there is memory
abbrev pub reserved_of : {D : Type 0} {G : Ghosts D} → Journal D G → ℕ
reserved_of j = j.reserved

-- the disk's count of faults behind the append that failed, if one did
abbrev pub broken_of : {D : Type 0} {G : Ghosts D} → Journal D G → Option ℕ
broken_of j = j.broken
