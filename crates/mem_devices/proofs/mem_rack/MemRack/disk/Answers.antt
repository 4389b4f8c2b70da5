use Rattle.std.proofs.Common.{◌∙◌, sym, ap}
use Rattle.mem_devices.specs.Slots.{held_in}
use Rattle.mem_devices.proofs.Places.{read_at, none_at}
use Rattle.mem_devices.proofs.mem_rack.MemRack.disk.Goals as goal

pub returns-in-Some : goal.returns-in-Some
returns-in-Some g c =
    let looked = c.in-Some.ensures.lookup in
    c.disk_in.ensures ∙ sym (ap held_in (read_at c.args.self.now.slots.items c.deref.result.now c.node.inside.0 c.args.node c.in-Some.slot.now
    c.deref.ensures.value c.node.view_is looked.3.0 looked.1))

pub returns-in-None : goal.returns-in-None
returns-in-None g c = sym (ap held_in (none_at c.args.self.now.slots.items c.deref.result.now c.node.inside.0 c.args.node c.deref.ensures.value
    c.node.view_is c.in-None.ensures.lookup.3))
