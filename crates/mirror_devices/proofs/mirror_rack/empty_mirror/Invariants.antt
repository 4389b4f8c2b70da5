use Rattle.std.proofs.Common.{◌≡◌, length}
use Rattle.mirror_devices.specs.Empty.{AreEmpty}
use Rattle.mirror_devices.proofs.mirror_rack.empty_mirror.Given as goal

abbrev pub invariant-disks : goal.invariant-disks
invariant-disks l = (length l.disks.items ≡ l._made) × AreEmpty l.capacity l.disks.items
