-- Disks whose calls may fail, none of which has yet.
use Rattle.std.specs.Prelude.{◌≡◌, ℕ, List}
use Rattle.mem_devices.specs.declared.fault_disk.FaultDisk.{FaultDisk}

-- the disk holds these bytes, has so much room, and has not failed
abbrev pub IsFresh : List ℕ → ℕ → FaultDisk → Type 0
IsFresh bytes capacity d = (d.kept.bytes.items ≡ bytes) × (d.kept.capacity ≡ capacity) × (d.faults ≡ 0)
