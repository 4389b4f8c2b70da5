-- A rack in memory whose disks are all in their places.
use Rattle.std.specs.Prelude.{ℕ, slice_get}
use Rattle.mem_devices.specs.declared.mem_rack.MemRack.{MemRack}
use Rattle.mem_devices.specs.Slots.{IsNotOut}

-- no disk is out, so each may be taken
abbrev pub NoneOut : {D : Type 0} → MemRack D → Type 0
NoneOut rack = (n : ℕ) → IsNotOut (slice_get rack.slots.items n)
