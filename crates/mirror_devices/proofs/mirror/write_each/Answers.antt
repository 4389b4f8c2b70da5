use Rattle.std.proofs.Common.{◌<◌, ◌+◌, length, get_or, arith}
use Rattle.std.proofs.lemmas.Option.{slice_get-get_or}
use Rattle.mirror_devices.specs.Mirrors.{Tried, Wrote}
use Rattle.mirror_devices.proofs.Became.{one_more, all_became, or_same, failed_at, on_err, untried, get_set_same}
use Rattle.mirror_devices.proofs.mirror.write_each.Goals as goal

pub returns-in_err-write_one-clause-tried : goal.returns-in_err-write_one-clause-tried
returns-in_err-write_one-clause-tried g c =
    let lt : c.disks.i < length c.disks.disks = omega arith in
    or_same (Tried g.D.Disk c.args.at (length c.args.bytes.now)) (untried g.D.Disk c.args.at (length c.args.bytes.now)) (c.disks.i + 1)
    c.args.disks.now _
    (one_more (Tried g.D.Disk c.args.at (length c.args.bytes.now)) c.disks.i c.args.disks.now c.disks.disks
    (get_or c.disks.disks c.disks.i c.index-disks-i.result) c.write_one.new.disk c.disks.invariant.tried lt
    (slice_get-get_or c.disks.disks c.disks.i c.index-disks-i.result lt) c.in_err-write_one.ensures.tried)

pub returns-in_err-write_one-clause-failed : goal.returns-in_err-write_one-clause-failed
returns-in_err-write_one-clause-failed g c =
    let lt : c.disks.i < length c.disks.disks = omega arith in
    on_err c.from_residual.result _ (failed_at g.D.Disk.count _ c.disks.i c.write_one.new.disk
    (get_set_same c.disks.disks c.disks.i c.write_one.new.disk lt) c.in_err-write_one.ensures.failed)

pub disks-preserved : goal.disks-preserved
disks-preserved g c =
    let lt : c.disks.i < length c.disks.disks = omega arith in
    record {
      tried = one_more (Tried g.D.Disk c.args.at (length c.args.bytes.now)) c.disks.i c.args.disks.now c.disks.disks
          (get_or c.disks.disks c.disks.i c.index-disks-i.result) c.write_one.new.disk c.disks.invariant.tried lt
          (slice_get-get_or c.disks.disks c.disks.i c.index-disks-i.result lt) c.in_ok-write_one.ensures.tried;
      wrote = one_more (Wrote g.D.Disk c.args.at c.args.bytes.now) c.disks.i c.args.disks.now c.disks.disks
          (get_or c.disks.disks c.disks.i c.index-disks-i.result) c.write_one.new.disk c.disks.invariant.wrote lt
          (slice_get-get_or c.disks.disks c.disks.i c.index-disks-i.result lt) c.in_ok-write_one.ensures.wrote;
    }

pub returns-clause-tried : goal.returns-clause-tried
returns-clause-tried g c = all_became (Tried g.D.Disk c.args.at (length c.args.bytes.now)) c.disks.i c.args.disks.now c.disks.disks
    c.disks.invariant.tried (omega arith)

pub returns-clause-wrote : goal.returns-clause-wrote
returns-clause-wrote g c = all_became (Wrote g.D.Disk c.args.at c.args.bytes.now) c.disks.i c.args.disks.now c.disks.disks c.disks.invariant.wrote
    (omega arith)
