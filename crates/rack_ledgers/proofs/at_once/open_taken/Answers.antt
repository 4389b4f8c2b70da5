use Rattle.std.proofs.Common.{◌<◌, ◌+◌, ℕ, sym, subst, arith}
use Rattle.outside.specs.Counts.{Rose}
use Rattle.rack_ledgers.specs.Others.{KeepsDisks}
use Rattle.rack_ledgers.specs.Slots.{SlotResult, SlotResultAt, IsTakenSlot, MayPut}
use Rattle.rack_ledgers.proofs.Beside.{all_wait, each_came, came_at, came_put}
use Rattle.rack_ledgers.proofs.at_once.open_taken.Goals as goal

pub open_list-requires-after_bounds : goal.open_list-requires-after_bounds
open_list-requires-after_bounds g c κs within = all_wait g.R.Disk.Disk (g.R.Rack.held c.args.rack.now) (g.R.Rack.count c.args.rack.now) c.args.first
    c.take_disks-slots.result.items c.take_disks-slots.ensures.taken

pub returns : goal.returns
returns g c =
    let d = g.R.Disk.Disk in
    let n = g.N.OnDisk in
    let held = g.R.Rack.held c.args.rack.now in
    let before = g.R.Rack.count c.args.rack.now in
    let C = SlotResult d n.disk_of n.opens n.fits n.refusals n.refused c.args.ledger.now in
    let A = SlotResultAt d n.disk_of n.opens n.fits n.refusals n.refused c.args.ledger.now held before in
    let T = IsTakenSlot {N = g.row.N.Denot} d held before in
    let P = MayPut d n.disk_of (g.R.Rack.can_put c.take_disks-slots.new.rack) in
    let olds = c.take_disks-slots.result.items in
    let taken = c.take_disks-slots.ensures in
    let news = c.open_list.result.items in
    let same = c.open_list.ensures.same in
    record {
      some = omega (arith, same, taken.some);
      came = each_came C T A (λ k s t came is. came_at d n.disk_of n.opens n.fits n.refusals n.refused c.args.ledger.now held before k s t came is)
          c.args.first olds news same c.open_list.ensures.came taken.taken;
      failed = subst (λ (k : ℕ). k < c.args.count → Rose (before (c.args.first + k)) (g.R.Rack.count c.take_disks-slots.new.rack (c.args.first + k)))
          (sym same) taken.failed;
      out = each_came C P P (λ k s t came may. came_put d n.disk_of n.opens n.fits n.refusals n.refused c.args.ledger.now
          (g.R.Rack.can_put c.take_disks-slots.new.rack) k s t came may) c.args.first olds news same c.open_list.ensures.came taken.out;
      untaken = subst (λ (k : ℕ). KeepsDisks g.R.Rack (c.args.first + k) (c.args.first + c.args.count) c.args.rack.now c.take_disks-slots.new.rack)
          (sym same) taken.untaken;
      others = taken.others;
    }
