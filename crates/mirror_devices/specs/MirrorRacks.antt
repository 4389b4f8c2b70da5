-- Racks in memory with several disks for a node, by the mirrors in their places.
use Rattle.std.specs.Prelude.{◌≡◌, ℕ, Option, Some, slice_get}
use Rattle.outside.specs.declared.disk.Disk.{Ghosts}
use Rattle.mem_devices.specs.declared.plain_disk.PlainDisk.{PlainDisk}
use Rattle.mem_devices.specs.Places.{disk_in, HasNoDiskOut}
use Rattle.mem_devices.specs.PlainRacks.{plain}
use Rattle.mirror_devices.specs.declared.mirror.Mirror.{Mirror}
use Rattle.mirror_devices.specs.declared.mirror_rack.MirrorRack.{MirrorRack}
use Rattle.mirror_devices.specs.Empty.{IsEmptyMirror}
use Rattle.mirror_devices.specs.Mirrored.{mirrored}

-- a mirror in memory
abbrev pub PlainMirror : Type 0
PlainMirror = Mirror PlainDisk plain

-- what it tells
abbrev pub plain_mirror : Ghosts PlainMirror
plain_mirror = mirrored plain

-- the mirror of a node, where it is in its place
abbrev pub mirror_at : MirrorRack → ℕ → Option PlainMirror
mirror_at rack n = disk_in (slice_get rack.places.items n)

-- no mirror is out of its place
abbrev pub NoMirrorOut : MirrorRack → Type 0
NoMirrorOut rack = (n : ℕ) → HasNoDiskOut (slice_get rack.places.items n)

-- the node's mirror is in its place, of so many empty disks with so much room
abbrev pub IsEmptyAt : MirrorRack → ℕ → ℕ → ℕ → Type 0
IsEmptyAt rack copies capacity n = (m : PlainMirror) × (mirror_at rack n ≡ Some m) × IsEmptyMirror copies capacity m
