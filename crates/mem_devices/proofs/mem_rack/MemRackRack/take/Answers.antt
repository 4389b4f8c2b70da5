use Rattle.std.proofs.Common.{◌<◌, ◌≤◌, length, refl, ap, arith}
use Rattle.std.specs.Prelude.{is_none, slice_get}
use Rattle.mem_devices.proofs.Places.{later_misses, none_at, read_at}
use Rattle.mem_devices.proofs.mem_rack.MemRackRack.take.Goals as goal

pub returns-then-len-at-clause-later : goal.returns-then-len-at-clause-later
returns-then-len-at-clause-later g c = λ n. later_misses g.D.Disk.count c.args.self.now.misses c.saturating_add-self.result
    (slice_get c.args.self.now.slots.items n) (omega (arith, c.saturating_add-self.ensures))

pub returns-then-len-at-clause-exact : goal.returns-then-len-at-clause-exact
returns-then-len-at-clause-exact g c =
    let slots = c.args.self.now.slots.items in
    let past : length slots ≤ c.node.inside.0 = omega arith in
    (ap is_none (none_at slots slots c.node.inside.0 c.args.node refl c.node.view_is past), c.saturating_add-self.ensures)

pub returns-clause-exact : goal.returns-clause-exact
returns-clause-exact g c =
    let slots = c.args.self.now.slots.items in
    let within : c.node.inside.0 < length slots = omega arith in (
      ap is_none (read_at slots slots c.node.inside.0 c.args.node c.index_mut-slot.result.now refl c.node.view_is within
          c.index_mut-slot.ensures.value),
      refl,
    )
