use Rattle.std.proofs.Common.{◌≡◌, ◌^◌, ◌+◌, ◌≤◌, ◌<◌, ℕ, length, vec_len}
use Rattle.rack_ledgers.specs.Places.{EachFrom, MayReturn}
use Rattle.rack_ledgers.specs.Others.{KeepsOthers}
use Rattle.rack_ledgers.specs.Racked.{OfTold, ListGoesOn}
use Rattle.rack_ledgers.proofs.close.close_all.Given as goal

abbrev pub invariant-nodes : goal.invariant-nodes
invariant-nodes g l = record {
  few : l.first + length l.nodes.items < 2 ^ 32;
  fewer : length l.nodes.items ≤ length l.initial.nodes.items;
  out : EachFrom (MayReturn (λ n. g.R.Disk.Disk.count (g.N.OnDisk.disk_of n)) (g.R.Rack.can_put l.rack)) l.first l.nodes.items;
  closed : ListGoesOn (λ n x. OfTold (g.R.Rack.held l.rack n) (λ now. now ≡ g.N.OnDisk.disk_of x)) l.first l.nodes.items l.initial.nodes.items;
  counted : ListGoesOn (λ n x. g.R.Disk.Disk.count (g.N.OnDisk.disk_of x) ≤ g.R.Rack.count l.rack n) l.first l.nodes.items l.initial.nodes.items;
  back : (n : ℕ) → l.first + length l.nodes.items ≤ n → n < l.first + length l.initial.nodes.items → g.R.Rack.can_take l.rack n;
  others : KeepsOthers g.R.Rack l.first (l.first + length l.initial.nodes.items) l.initial.rack l.rack;
}

abbrev pub decreases-nodes : goal.decreases-nodes
decreases-nodes g l = vec_len l.nodes
