-- Mirrors in memory of empty disks.
use Rattle.std.specs.Prelude.{◌≡◌, ◌+◌, ℕ, false, List, [], length, Some, slice_get, nat_lt, if◌then◌else◌}
use Rattle.mem_devices.specs.declared.plain_disk.PlainDisk.{PlainDisk}
use Rattle.mem_devices.specs.PlainRacks.{plain}
use Rattle.mirror_devices.specs.declared.mirror.Mirror.{Mirror}

-- each of these disks is empty, and has so much room
abbrev pub AreEmpty : ℕ → List PlainDisk → Type 0
AreEmpty capacity disks = (k : ℕ) (d : PlainDisk) → slice_get disks k ≡ Some d → (d.bytes.items ≡ []) × (d.capacity ≡ capacity)

-- a mirror of so many empty disks
pub record IsEmptyMirror (copies capacity : ℕ) (m : Mirror PlainDisk plain) : Type 0 where
  pub whole : m.apart ≡ false
  pub count : length m.disks.items ≡ copies
  pub empty : AreEmpty capacity m.disks.items

-- how many disks a node has: a coordinator one, a shard so many more
abbrev pub copies_at : ℕ → ℕ → ℕ → ℕ
copies_at coordinators replicas n = if nat_lt n coordinators then 1 else replicas + 1
