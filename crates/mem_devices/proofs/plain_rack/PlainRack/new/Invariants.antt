use Rattle.std.proofs.Common.{◌≡◌, length}
use Rattle.mem_devices.proofs.Filled.{AreFilled, IsBlank}
use Rattle.mem_devices.proofs.plain_rack.PlainRack.new.Given as goal

abbrev pub invariant-places : goal.invariant-places
invariant-places l = (length l.places.items ≡ l.node) × AreFilled (IsBlank l.nodes l.capacity) l.places.items
