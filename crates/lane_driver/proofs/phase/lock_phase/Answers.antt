use Rattle.std.proofs.lemmas.Slice.Zip.{AllZip-long}
use Rattle.lane_driver.specs.Told.{LockTold}
use Rattle.lane_laws.specs.Answers.{LockAnswer}
use Rattle.lane_driver.proofs.Telling.{stopped_at}
use Rattle.lane_driver.proofs.Phasing.{fault_inside, gathered_replies}
use Rattle.lane_driver.proofs.Causing.{shard_fault, lock_caused}
use Rattle.lane_driver.proofs.phase.lock_phase.Goals as goal

pub gather-requires-clause-as_many : goal.gather-requires-clause-as_many
gather-requires-clause-as_many g c = AllZip-long (LockTold (g.S.PortSet.sights c.args.shards.now)) _ _ c.lock.ensures.each

pub of_shard-requires : goal.of_shard-requires
of_shard-requires g c = fault_inside c.args.calls.now _ c.in-Err.fault.shard c.args.shape.now.shards c.in-Err.fault.fault c.in-Err.ensures
    c.requires.shards

pub returns-in-Ok-clause-replies : goal.returns-in-Ok-clause-replies
returns-in-Ok-clause-replies g c = gathered_replies c.args.shape.now (g.S.PortSet.sights c.args.shards.now) c.args.calls.now _ c.in-Ok.replies
    c.in-Ok.ensures c.lock.ensures.each c.requires.ledger c.requires.shards

pub returns-in-Ok-clause-told : goal.returns-in-Ok-clause-told
returns-in-Ok-clause-told g c = record {
  asked = record { answers = c.lock.new.out.items; each = c.lock.ensures.told; others = c.lock.ensures.untouched };
  gathered = c.in-Ok.ensures;
}

pub returns-in-Err-clause-stopped : goal.returns-in-Err-clause-stopped
returns-in-Err-clause-stopped g c = stopped_at c.args.shape.now (LockAnswer g.S.PortSet.alone) c.args.calls.now
    (g.S.PortSet.sights c.args.shards.now) (g.S.PortSet.sights c.lock.new.self) c.lock.new.out.items
    c.in-Err.fault.shard c.in-Err.fault.fault c.of_shard.result c.of_shard.ensures c.lock.ensures.told c.lock.ensures.untouched c.in-Err.ensures

pub returns-in-Err-clause-fault : goal.returns-in-Err-clause-fault
returns-in-Err-clause-fault g c =
    shard_fault c.args.shape.now (LockAnswer g.S.PortSet.alone) c.args.calls.now (g.S.PortSet.sights c.args.shards.now)
    (g.S.PortSet.sights c.lock.new.self) c.of_shard.result
    (λ d old new f t. lock_caused g.S.PortSet.alone d old new f t) c.requires.shards (returns-in-Err-clause-stopped g c)
