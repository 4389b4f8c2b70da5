use Rattle.std.proofs.Common.{◌≡◌, ◌+◌, ◌≤◌, length}
use Rattle.std.specs.Option.{option_copied}
use Rattle.rack_ledgers.specs.Places.{EachFrom, MayReturn}
use Rattle.rack_ledgers.specs.Others.{KeepsOthers}
use Rattle.rack_ledgers.specs.Racked.{OfTold, IsNodeOpened, ListGoesOn}
use Rattle.rack_ledgers.proofs.open.open_all.Given as goal

abbrev pub invariant-places : goal.invariant-places
invariant-places g l = record {
  place : length l.nodes.items ≡ l.place;
  opened : ListGoesOn
      (λ n x. (g.N.OnDisk.fits n (option_copied l.ledger) x × (g.R.Rack.count l.initial.rack n ≤ g.R.Disk.Disk.count (g.N.OnDisk.disk_of x)))
      × OfTold (g.R.Rack.held l.initial.rack n) (λ was. IsNodeOpened g.R.Disk.Disk g.N.OnDisk.disk_of g.N.OnDisk.opens was x))
      l.first l.initial.nodes.items l.nodes.items;
  out : EachFrom (MayReturn (λ n. g.R.Disk.Disk.count (g.N.OnDisk.disk_of n)) (g.R.Rack.can_put l.rack)) l.first l.nodes.items;
  others : KeepsOthers g.R.Rack (l.first + length l.initial.nodes.items) (l.first + length l.nodes.items) l.initial.rack l.rack;
}
