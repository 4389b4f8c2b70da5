use Rattle.std.proofs.Common.{◌≡◌, ◌+◌, ◌≤◌, length}
use Rattle.std.specs.Prelude.{vec_capacity}
use Rattle.rack_ledgers.specs.Places.{EachFrom}
use Rattle.rack_ledgers.specs.Others.{KeepsOthers}
use Rattle.rack_ledgers.specs.Slots.{IsTakenSlot, MayPut}
use Rattle.rack_ledgers.proofs.at_once.take_disks.Given as goal

abbrev pub invariant-places : goal.invariant-places
invariant-places g l = record {
  place : length l.slots.items ≡ l.place;
  room : l.count ≤ vec_capacity l.slots;
  taken : EachFrom (IsTakenSlot g.R.Disk.Disk (g.R.Rack.held l.initial.rack) (g.R.Rack.count l.initial.rack)) l.first l.slots.items;
  out : EachFrom (MayPut g.R.Disk.Disk g.N.OnDisk.disk_of (g.R.Rack.can_put l.rack)) l.first l.slots.items;
  others : KeepsOthers g.R.Rack l.first (l.first + length l.slots.items) l.initial.rack l.rack;
}
