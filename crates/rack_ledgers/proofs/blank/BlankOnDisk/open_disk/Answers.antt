use Rattle.std.proofs.Common.{◌≡◌, ℕ, length, subst, arith}
use Rattle.outside.specs.Counts.{Rose}
use Rattle.rack_ledgers.specs.Blank.{AreWholeRecords}
use Rattle.rack_ledgers.proofs.Wholes.{opened_whole}
use Rattle.rack_ledgers.proofs.Blanks.{blank_opens, blank_refused, blank_same}
use Rattle.rack_ledgers.proofs.blank.BlankOnDisk.open_disk.Goals as goal

pub returns-in-Ok-clause-opens : goal.returns-in-Ok-clause-opens
returns-in-Ok-clause-opens g c =
    let len : length c.in-Ok.log.records.items ≡ c.len-records.result = omega (arith, c.len-records.ensures, c.in-Ok.log.records.ok) in
    blank_opens (λ b. b.node) (λ b. b.disk) (g.D.Disk.content c.args.disk) c.into_disk.result c.args.node c.len-records.result
    (λ bytes told. subst (λ (n : ℕ). AreWholeRecords n bytes) len
    (opened_whole c.in-Ok.log.header c.in-Ok.log.records.items bytes c.in-Ok.ensures.grammar (c.in-Ok.ensures.opens bytes told).0))
    c.blank_of.result c.blank_of.ensures.blank c.blank_of.ensures.unused

pub returns-in-Ok-clause-refusal : goal.returns-in-Ok-clause-refusal
returns-in-Ok-clause-refusal g c =
    let len : length c.in-Ok.log.records.items ≡ c.len-records.result = omega (arith, c.len-records.ensures, c.in-Ok.log.records.ok) in
    blank_refused (λ b. b.node) (λ b. b.disk) (g.D.Disk.content c.args.disk) c.into_disk.result c.args.node c.len-records.result
    (λ bytes told. subst (λ (n : ℕ). AreWholeRecords n bytes) len
    (opened_whole c.in-Ok.log.header c.in-Ok.log.records.items bytes c.in-Ok.ensures.grammar (c.in-Ok.ensures.opens bytes told).0))
    c.blank_of.result c.blank_of.ensures.blank c.blank_of.ensures.unused

pub returns-in-Ok-records_of-clause-opens : goal.returns-in-Ok-records_of-clause-opens
returns-in-Ok-records_of-clause-opens g c =
    blank_opens (λ b. b.node) (λ b. b.disk) (g.D.Disk.content c.args.disk) c.in-Err.disk c.args.node c.in-Ok-records_of.records
    (λ bytes told. c.in-Ok-records_of.ensures.whole bytes (c.in-Err.ensures.refusal bytes told))
    c.blank_of-in-Ok-records_of.result c.blank_of-in-Ok-records_of.ensures.blank c.blank_of-in-Ok-records_of.ensures.unused

pub returns-in-Ok-records_of-clause-same : goal.returns-in-Ok-records_of-clause-same
returns-in-Ok-records_of-clause-same g c =
    blank_same (λ b. b.node) (λ b. b.disk) g.D.Disk (g.D.Disk.content c.args.disk) (λ d. Rose (g.D.Disk.count c.args.disk) (g.D.Disk.count d))
    c.in-Err.disk c.args.node
    c.blank_of-in-Ok-records_of.result (c.in-Err.ensures.same c.in-Ok-records_of.ensures.kept) c.blank_of-in-Ok-records_of.ensures.blank

pub returns-in-Err-records_of-clause-same : goal.returns-in-Err-records_of-clause-same
returns-in-Err-records_of-clause-same g c = λ none. c.in-Err.ensures.same (λ is. none (c.in-Err.ensures.fault is))

pub returns-in-Ok-records_of-clause-refusal : goal.returns-in-Ok-records_of-clause-refusal
returns-in-Ok-records_of-clause-refusal g c =
    blank_refused (λ b. b.node) (λ b. b.disk) (g.D.Disk.content c.args.disk) c.in-Err.disk c.args.node c.in-Ok-records_of.records
    (λ bytes told. c.in-Ok-records_of.ensures.whole bytes (c.in-Err.ensures.refusal bytes told))
    c.blank_of-in-Ok-records_of.result c.blank_of-in-Ok-records_of.ensures.blank c.blank_of-in-Ok-records_of.ensures.unused

pub returns-in-Err-records_of-clause-fault : goal.returns-in-Err-records_of-clause-fault
returns-in-Err-records_of-clause-fault g c = c.in-Err-records_of.ensures.fault (g.D.Disk.count c.args.disk) (g.D.Disk.count c.in-Err.disk)
    (λ is. c.in-Err.ensures.fault is)

pub returns-in-Err-records_of-clause-refusal : goal.returns-in-Err-records_of-clause-refusal
returns-in-Err-records_of-clause-refusal g c = λ bytes told. c.in-Err-records_of.ensures.free bytes
