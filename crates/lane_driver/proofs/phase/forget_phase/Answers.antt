use Rattle.std.proofs.Common.{◌<◌, ◌^◌, ◌∙◌, ap, length, subst, sym}
use Rattle.std.proofs.lemmas.Slice.Zip.{AllZip-long}
use Rattle.lane_driver.specs.Told.{StampTold, EachAnswer}
use Rattle.lane_laws.specs.Calls.{shard}
use Rattle.lane_laws.specs.Gathering.{IsLatest, FirstFault}
use Rattle.lane_laws.specs.Answers.{ForgetAnswer}
use Rattle.lane_driver.proofs.Telling.{stopped_at}
use Rattle.lane_driver.proofs.Phasing.{fault_inside, latest_small}
use Rattle.lane_driver.proofs.Wanting.{phase_free, told_free}
use Rattle.lane_driver.proofs.Causing.{shard_fault, forget_caused}
use Rattle.lane_driver.proofs.phase.forget_phase.Goals as goal

pub latest-requires : goal.latest-requires
latest-requires g c = ap length c.as_slice.ensures.value ∙ AllZip-long StampTold _ _ c.forget.ensures.each

pub of_shard-requires : goal.of_shard-requires
of_shard-requires g c = fault_inside c.args.calls.now c.as_slice.result.now c.in-Err.fault.shard c.args.shape.now.shards c.in-Err.fault.fault
    c.in-Err.ensures c.requires.shards

pub returns-in-Ok-clause-stamp : goal.returns-in-Ok-clause-stamp
returns-in-Ok-clause-stamp g c =
    subst (λ t. t < 2 ^ 63) (sym c.in-Ok.ensures.1)
    (latest_small c.args.calls.now c.as_slice.result.now
    (subst (λ answers. EachAnswer StampTold c.args.calls.now answers) (sym c.as_slice.ensures.value) c.forget.ensures.each))

pub returns-in-Ok-clause-told : goal.returns-in-Ok-clause-told
returns-in-Ok-clause-told g c = record {
  asked = record { answers = c.forget.new.out.items; each = c.forget.ensures.told; others = c.forget.ensures.untouched };
  latest = subst (λ answers. IsLatest answers c.in-Ok.stamp) c.as_slice.ensures.value c.in-Ok.ensures;
}

pub returns-in-Err-clause-stopped : goal.returns-in-Err-clause-stopped
returns-in-Err-clause-stopped g c = stopped_at c.args.shape.now (ForgetAnswer g.S.PortSet.alone) c.args.calls.now
    (g.S.PortSet.sights c.args.shards.now) (g.S.PortSet.sights c.forget.new.self) c.forget.new.out.items
    c.in-Err.fault.shard c.in-Err.fault.fault c.of_shard.result c.of_shard.ensures c.forget.ensures.told c.forget.ensures.untouched
    (subst (λ answers. FirstFault shard c.args.calls.now answers c.in-Err.fault.shard c.in-Err.fault.fault) c.as_slice.ensures.value c.in-Err.ensures)

pub returns-in-Err-clause-fault : goal.returns-in-Err-clause-fault
returns-in-Err-clause-fault g c =
    shard_fault c.args.shape.now (ForgetAnswer g.S.PortSet.alone) c.args.calls.now (g.S.PortSet.sights c.args.shards.now)
    (g.S.PortSet.sights c.forget.new.self) c.of_shard.result
    (λ d old new f t. forget_caused g.S.PortSet.alone d old new f t) c.requires.shards (returns-in-Err-clause-stopped g c)

pub returns-in-Err-clause-no_want : goal.returns-in-Err-clause-no_want
returns-in-Err-clause-no_want g c =
    phase_free c.args.shape.now (ForgetAnswer g.S.PortSet.alone) c.args.calls.now (g.S.PortSet.sights c.args.shards.now)
    (g.S.PortSet.sights c.forget.new.self) c.of_shard.result
    (λ d old new f t. told_free t) (returns-in-Err-clause-stopped g c)
