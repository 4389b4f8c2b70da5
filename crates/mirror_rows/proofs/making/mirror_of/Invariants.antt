use Rattle.std.proofs.Common.{◌≡◌, length}
use Rattle.mirror_rows.proofs.Alike.{AreFresh}
use Rattle.mirror_rows.proofs.making.mirror_of.Given as goal

abbrev pub invariant-disks : goal.invariant-disks
invariant-disks l = (length l.disks.items ≡ l.member) × AreFresh l.bytes l.capacity l.disks.items
