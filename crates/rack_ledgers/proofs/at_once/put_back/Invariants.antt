use Rattle.std.proofs.Common.{◌^◌, ◌+◌, ◌≤◌, ◌<◌, ℕ, length, vec_len}
use Rattle.rack_ledgers.specs.Places.{EachFrom}
use Rattle.rack_ledgers.specs.Others.{KeepsOthers}
use Rattle.rack_ledgers.specs.Racked.{OfTold, ListGoesOn}
use Rattle.rack_ledgers.specs.Slots.{faults_in, MayPut, IsDiskIn}
use Rattle.rack_ledgers.proofs.at_once.put_back.Given as goal

abbrev pub invariant-slots : goal.invariant-slots
invariant-slots g l = record {
  few : l.first + length l.slots.items < 2 ^ 32;
  fewer : length l.slots.items ≤ length l.initial.slots.items;
  out : EachFrom (MayPut g.R.Disk.Disk g.N.OnDisk.disk_of (g.R.Rack.can_put l.rack)) l.first l.slots.items;
  closed : ListGoesOn (λ n s. OfTold (g.R.Rack.held l.rack n) (IsDiskIn g.N.OnDisk.disk_of s)) l.first l.slots.items l.initial.slots.items;
  counted : ListGoesOn (λ n s. faults_in g.R.Disk.Disk g.N.OnDisk.disk_of s ≤ g.R.Rack.count l.rack n) l.first l.slots.items l.initial.slots.items;
  back : (n : ℕ) → l.first + length l.slots.items ≤ n → n < l.first + length l.initial.slots.items → g.R.Rack.can_take l.rack n;
  others : KeepsOthers g.R.Rack l.first (l.first + length l.initial.slots.items) l.initial.rack l.rack;
}

abbrev pub decreases-slots : goal.decreases-slots
decreases-slots g l = vec_len l.slots
