-- What stands outside where all devices are in memory, and when nothing hinders what is asked over devices of which none fails.
use Rattle.std.specs.Prelude.{ℕ, List, Some}
use Rattle.std.specs.Global.{Vec}
use Rattle.std.specs.declared.alloc.Global.{Global}
use Rattle.std.specs.declared.string.String.{String}
use Rattle.outside.specs.declared.disk.Disk.{Ghosts}
use Rattle.requests.specs.declared.Request.{Request}
use Rattle.mem_devices.specs.Named.{file_of}
use Rattle.mem_devices.specs.declared.plain_disk.PlainDisk.{PlainDisk}
use Rattle.mem_devices.specs.declared.plain_rack.PlainRack.{PlainRack}
use Rattle.mem_devices.specs.Places.{faults_at}
use Rattle.mem_devices.specs.PlainRacks.{disk_at}
use Rattle.rack_ledgers.specs.Racked.{Disks}
use Rattle.command_answers.specs.Scene.{Scene}
use Rattle.commands.specs.Complete.{IsUnhindered}

-- the disks of a rack in memory, which never fail in the 80 places that it has
abbrev pub memory_disks : PlainRack → Disks PlainDisk
memory_disks rack = record { held = disk_at rack; faults = faults_at rack.misses }

-- the scene of these files, these disks and these bytes that an output took, all in memory: a file that is there is read, and no count of the output
-- is told
abbrev pub memory_scene : List (String Global × Vec ℕ) → PlainRack → List ℕ → Scene PlainDisk
memory_scene files rack printed = record {
  file = λ name. file_of files name;
  file_faults = λ name. 0;
  disks = memory_disks rack;
  printed = Some printed;
  print_faults = 0;
}

-- the same files, disks and output, no fault of which is counted
abbrev pub faultless : {D : Type 0} → Scene D → Scene D
faultless s = record {
  file = s.file;
  file_faults = λ name. 0;
  disks = record { held = s.disks.held; faults = λ n. 0 };
  printed = s.printed;
  print_faults = 0;
}

-- nothing hinders what is asked where no count of faults rises, of a file or of a node: this says nothing of counts
abbrev pub IsUnhinderedWhereSteady : {D : Type 0} → Ghosts D → Scene D → Request → Type 0
IsUnhinderedWhereSteady device before r = IsUnhindered device (faultless before) (faultless before) r
