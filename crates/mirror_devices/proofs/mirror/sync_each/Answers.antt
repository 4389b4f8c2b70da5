use Rattle.std.proofs.Common.{◌<◌, ◌+◌, length, get_or, arith}
use Rattle.std.proofs.lemmas.Option.{slice_get-get_or}
use Rattle.mirror_devices.specs.Mirrors.{SyncTried, Synced}
use Rattle.mirror_devices.proofs.Became.{one_more, all_became, or_same, failed_at, on_err, unsynced, get_set_same}
use Rattle.mirror_devices.proofs.mirror.sync_each.Goals as goal

pub returns-in_err-sync_one-clause-tried : goal.returns-in_err-sync_one-clause-tried
returns-in_err-sync_one-clause-tried g c =
    let lt : c.disks.i < length c.disks.disks = omega arith in
    or_same (SyncTried g.D.Disk) (unsynced g.D.Disk) (c.disks.i + 1) c.args.disks.now _
    (one_more (SyncTried g.D.Disk) c.disks.i c.args.disks.now c.disks.disks (get_or c.disks.disks c.disks.i c.index-disks-i.result)
    c.sync_one.new.disk c.disks.invariant.tried lt
    (slice_get-get_or c.disks.disks c.disks.i c.index-disks-i.result lt) c.in_err-sync_one.ensures.tried)

pub returns-in_err-sync_one-clause-failed : goal.returns-in_err-sync_one-clause-failed
returns-in_err-sync_one-clause-failed g c =
    let lt : c.disks.i < length c.disks.disks = omega arith in
    on_err c.from_residual.result _ (failed_at g.D.Disk.count _ c.disks.i c.sync_one.new.disk
    (get_set_same c.disks.disks c.disks.i c.sync_one.new.disk lt) c.in_err-sync_one.ensures.failed)

pub disks-preserved : goal.disks-preserved
disks-preserved g c =
    let lt : c.disks.i < length c.disks.disks = omega arith in
    record {
      tried = one_more (SyncTried g.D.Disk) c.disks.i c.args.disks.now c.disks.disks (get_or c.disks.disks c.disks.i c.index-disks-i.result)
          c.sync_one.new.disk c.disks.invariant.tried lt
          (slice_get-get_or c.disks.disks c.disks.i c.index-disks-i.result lt) c.in_ok-sync_one.ensures.tried;
      synced = one_more (Synced g.D.Disk) c.disks.i c.args.disks.now c.disks.disks (get_or c.disks.disks c.disks.i c.index-disks-i.result)
          c.sync_one.new.disk c.disks.invariant.synced lt
          (slice_get-get_or c.disks.disks c.disks.i c.index-disks-i.result lt) c.in_ok-sync_one.ensures.synced;
    }

pub returns-clause-tried : goal.returns-clause-tried
returns-clause-tried g c = all_became (SyncTried g.D.Disk) c.disks.i c.args.disks.now c.disks.disks c.disks.invariant.tried (omega arith)

pub returns-clause-synced : goal.returns-clause-synced
returns-clause-synced g c = all_became (Synced g.D.Disk) c.disks.i c.args.disks.now c.disks.disks c.disks.invariant.synced (omega arith)
