-- Racks in memory, by the disks in their places.
use Rattle.std.specs.Prelude.{◌≡◌, ℕ, false, List, [], length, Option, Some, slice_get}
use Rattle.outside.specs.declared.disk.Disk.{Ghosts}
use Rattle.mem_devices.specs.declared.plain_disk.PlainDisk.{PlainDisk}
use Rattle.mem_devices.specs.declared.plain_rack.PlainRack.{PlainRack}
use Rattle.mem_devices.specs.Places.{disk_in, HasNoDiskOut}

-- the disk of a node, where it is in its place
abbrev pub disk_at : PlainRack → ℕ → Option PlainDisk
disk_at rack n = disk_in (slice_get rack.places.items n)

-- what a disk in memory tells: what it reads as, what a crash leaves of it, its room, and how often it has failed
abbrev pub plain : Ghosts PlainDisk
plain = record {
  content = λ d. Some d.bytes.items;
  size = λ d. length d.bytes.items;
  limit = λ d. d.capacity;
  count = λ d. 0;
  images = λ d c. c ≡ d.bytes.items;
  tells_past = λ d. false;
  moment = λ d. 0;
  images_since = λ d t c. Unit {0};
}

-- no disk is out of its place
abbrev pub NoPlainDiskOut : PlainRack → Type 0
NoPlainDiskOut rack = (n : ℕ) → HasNoDiskOut (slice_get rack.places.items n)

-- the node's disk is in its place, is empty, and has so much room
abbrev pub IsEmptyAt : PlainRack → ℕ → ℕ → Type 0
IsEmptyAt rack capacity n = (d : PlainDisk) × (disk_at rack n ≡ Some d) × (d.bytes.items ≡ []) × (d.capacity ≡ capacity)
