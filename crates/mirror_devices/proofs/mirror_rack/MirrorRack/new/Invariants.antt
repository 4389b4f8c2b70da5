use Rattle.std.proofs.Common.{◌≡◌, length}
use Rattle.mem_devices.proofs.Filled.{AreFilled}
use Rattle.mirror_devices.proofs.Blank.{IsBlank}
use Rattle.mirror_devices.proofs.mirror_rack.MirrorRack.new.Given as goal

abbrev pub invariant-places : goal.invariant-places
invariant-places l = (length l.places.items ≡ l.node) × AreFilled (IsBlank l.coordinators l.nodes l.replicas l.capacity) l.places.items
