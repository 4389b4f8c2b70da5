use Rattle.recovery.specs.Planned.{PlanOf}
use Rattle.lane_driver.specs.Told.{AreShardsOf}
use Rattle.std.proofs.Common.{length, ◌≡◌, ◌<◌, [], refl, ap, subst, sym, arith, OnOk, true}
use Rattle.std.specs.List.{All}
use Rattle.std.proofs.lemmas.List.Elements.{All-nil, All-cons}
use Rattle.cbdc_model.specs.After.{IsJournal}
use Rattle.cbdc_model.specs.Records.{txs_of}
use Rattle.cbdc_model.specs.Ranges.{home_of}
use Rattle.cbdc_model.specs.Slots.{slot, Idle}
use Rattle.cbdc_model.specs.Due.{open_batch}
use Rattle.node_journal.specs.Nodes.{sight}
use Rattle.node_ports.specs.Nodes.{sight_at}
use Rattle.run_laws.proofs.Seen.{seen_log}
use Rattle.recovery.specs.Open.{IsLaneOpen, LanesRise, KeepsUnlisted, IsBatchUnfinished, AreUnfinished, OpenLanesResult}
use Rattle.thread_laws.proofs.OpenThere.{told_lane}
use Rattle.file_runs.specs.Ledgers.{FliesNext}
use Rattle.file_runs.proofs.Steps.{is_step, are_shards, at_home, open_at}
use Rattle.file_runs.proofs.Turns.{is_unfinished}
use Rattle.file_runs.specs.Ones.{ResumeLeft}
use Rattle.file_runs.proofs.Ones.{are_one, others_keep, one_idle, one_came}
use Rattle.file_runs.proofs.driving.drive_resume.Goals as goal

pub go-came-requires-clause-is_open : goal.go-came-requires-clause-is_open
go-came-requires-clause-is_open g c = subst (λ os. All (IsLaneOpen (sight_at sight c.args.ports.now.log.logs.items c.home-ports.result).header
    (λ l. (slot (sight_at sight c.args.ports.now.log.logs.items c.home-ports.result).seen l).phase)
    (λ l. txs_of (sight_at sight c.args.ports.now.log.logs.items c.home-ports.result).seen
    (open_batch (sight_at sight c.args.ports.now.log.logs.items c.home-ports.result).seen l))) os)
    (sym (ap (λ (p : PlanOf). p.lanes) c.requires.plan))
    (All-cons (IsLaneOpen (sight_at sight c.args.ports.now.log.logs.items c.home-ports.result).header
    (λ l. (slot (sight_at sight c.args.ports.now.log.logs.items c.home-ports.result).seen l).phase)
    (λ l. txs_of (sight_at sight c.args.ports.now.log.logs.items c.home-ports.result).seen
    (open_batch (sight_at sight c.args.ports.now.log.logs.items c.home-ports.result).seen l))) c.args.unfinished.now []
    (open_at c.args.header.now c.args.ports.now.log.logs.items c.args.ports.now.shards.nodes.items c.args.lane c.home-ports.result
    c.args.unfinished.now c.requires.ledger c.requires.lane c.home-ports.ensures.place c.requires.told)
    (All-nil _))

pub go-came-requires-clause-ledger : goal.go-came-requires-clause-ledger
go-came-requires-clause-ledger g c = subst (λ (p : PlanOf). AreShardsOf p.shape (sight_at sight c.args.ports.now.shards.nodes.items))
    (sym c.requires.plan) (are_shards c.args.header.now c.args.ports.now.log.logs.items c.args.ports.now.shards.nodes.items c.requires.ledger)

pub returns-clause-step : goal.returns-clause-step
returns-clause-step g c = is_step g.D.Disk c.args.header.now c.args.lane c.home-ports.result c.go-came.new.ports.log.at
    c.args.ports.now.log.logs.items c.args.ports.now.shards.nodes.items c.go-came.new.ports.log.logs.items c.go-came.new.ports.shards.nodes.items
    c.requires.ledger c.requires.lane c.home-ports.ensures.place c.go-came.ensures.keeps.to_log.at_same c.args.unfinished.now.batch.lane
    (told_lane (sight_at sight c.args.ports.now.log.logs.items (home_of c.args.header.now.shape c.args.lane)).seen c.args.lane
    c.args.unfinished.now c.requires.told) c.go-came.ensures.keeps.to_log.count_same c.go-came.ensures.keeps.to_shards.count_same
    c.go-came.ensures.keeps.to_log.elsewhere c.go-came.ensures.keeps.to_log.nodes c.go-came.ensures.keeps.to_shards.nodes
    (others_keep (sight_at sight c.args.ports.now.log.logs.items c.home-ports.result).header c.args.unfinished.now
    (λ l. (slot (sight_at sight c.args.ports.now.log.logs.items c.home-ports.result).seen l).phase)
    (λ l. (slot (sight_at sight c.go-came.new.ports.log.logs.items c.go-came.new.ports.log.at).seen l).phase)
    (λ l. txs_of (sight_at sight c.args.ports.now.log.logs.items c.home-ports.result).seen
    (open_batch (sight_at sight c.args.ports.now.log.logs.items c.home-ports.result).seen l))
    (λ l. txs_of (sight_at sight c.go-came.new.ports.log.logs.items c.go-came.new.ports.log.at).seen
    (open_batch (sight_at sight c.go-came.new.ports.log.logs.items c.go-came.new.ports.log.at).seen l))
    (subst (λ os. KeepsUnlisted (sight_at sight c.args.ports.now.log.logs.items c.home-ports.result).header os
    (λ l. (slot (sight_at sight c.args.ports.now.log.logs.items c.home-ports.result).seen l).phase)
    (λ l. (slot (sight_at sight c.go-came.new.ports.log.logs.items c.go-came.new.ports.log.at).seen l).phase)
    (λ l. txs_of (sight_at sight c.args.ports.now.log.logs.items c.home-ports.result).seen
    (open_batch (sight_at sight c.args.ports.now.log.logs.items c.home-ports.result).seen l))
    (λ l. txs_of (sight_at sight c.go-came.new.ports.log.logs.items c.go-came.new.ports.log.at).seen
    (open_batch (sight_at sight c.go-came.new.ports.log.logs.items c.go-came.new.ports.log.at).seen l)))
    (ap (λ (p : PlanOf). p.lanes) c.requires.plan) (c.go-came.ensures.keeps.others refl))) c.go-came.ensures.keeps.to_log.held
    c.go-came.ensures.keeps.to_shards.held c.go-came.ensures.keeps.to_log.later c.go-came.ensures.keeps.to_shards.later
    (subst (All (λ l. IsJournal l.header l.journal)) c.as_slice.ensures.value c.see_logs.ensures.journals)
    (subst (All (λ s. IsJournal s.header s.journal)) c.as_slice-2.ensures.value c.see_shards.ensures.journals)
    (subst (All FliesNext) c.as_slice.ensures.value c.see_logs.ensures.next)
    (subst (All FliesNext) c.as_slice-2.ensures.value c.see_shards.ensures.next)

-- it was taken up, as a list of one
pub returns-clause-outcome : goal.returns-clause-outcome
returns-clause-outcome g c = at_home (λ x y. ResumeLeft c.args.header.now.shape c.args.unfinished.now c.one_of.result x
    (λ n. sight_at sight c.args.ports.now.shards.nodes.items n) y (λ n. sight_at sight c.go-came.new.ports.shards.nodes.items n))
    (λ n. sight_at sight c.args.ports.now.log.logs.items n) (λ n. sight_at sight c.go-came.new.ports.log.logs.items n) c.home-ports.result
    c.go-came.new.ports.log.at (home_of c.args.header.now.shape c.args.lane) c.home-ports.ensures.place c.go-came.ensures.keeps.to_log.at_same
    (one_came c.args.header.now.shape c.args.unfinished.now
    (record {
      home = sight_at sight c.args.ports.now.log.logs.items c.home-ports.result;
      logs = λ n. sight_at sight c.args.ports.now.log.logs.items n;
      shards = λ n. sight_at sight c.args.ports.now.shards.nodes.items n;
    }) (record {
      home = sight_at sight c.go-came.new.ports.log.logs.items c.go-came.new.ports.log.at;
      logs = λ n. sight_at sight c.go-came.new.ports.log.logs.items n;
      shards = λ n. sight_at sight c.go-came.new.ports.shards.nodes.items n;
    }) c.go-came.result c.one_of.result c.one_of.ensures
    (subst (λ (p : PlanOf). OpenLanesResult p.shape true p.lanes c.go-came.result
    (record {
      home = sight_at sight c.args.ports.now.log.logs.items c.home-ports.result;
      logs = λ n. sight_at sight c.args.ports.now.log.logs.items n;
      shards = λ n. sight_at sight c.args.ports.now.shards.nodes.items n;
    }) (record {
      home = sight_at sight c.go-came.new.ports.log.logs.items c.go-came.new.ports.log.at;
      logs = λ n. sight_at sight c.go-came.new.ports.log.logs.items n;
      shards = λ n. sight_at sight c.go-came.new.ports.shards.nodes.items n;
    })) c.requires.plan c.go-came.ensures.outcome))

pub returns-clause-idle : goal.returns-clause-idle
returns-clause-idle g c = subst (λ L. OnOk c.one_of.result ((slot L c.args.lane).phase ≡ Idle))
    (sym (seen_log c.args.header.now.shape (λ n. sight_at sight c.go-came.new.ports.log.logs.items n)
    (λ n. sight_at sight c.go-came.new.ports.shards.nodes.items n) (home_of c.args.header.now.shape c.args.lane)
    (subst (λ n. n < c.args.header.now.shape.coordinators) c.home-ports.ensures.place c.home-ports.ensures.inside)))
    (at_home (λ x y. OnOk c.one_of.result ((slot y.seen c.args.lane).phase ≡ Idle))
    (λ n. sight_at sight c.args.ports.now.log.logs.items n) (λ n. sight_at sight c.go-came.new.ports.log.logs.items n) c.home-ports.result
    c.go-came.new.ports.log.at (home_of c.args.header.now.shape c.args.lane) c.home-ports.ensures.place c.go-came.ensures.keeps.to_log.at_same
    (subst (λ l. OnOk c.one_of.result ((slot (sight_at sight c.go-came.new.ports.log.logs.items c.go-came.new.ports.log.at).seen l).phase ≡ Idle))
    (told_lane (sight_at sight c.args.ports.now.log.logs.items (home_of c.args.header.now.shape c.args.lane)).seen c.args.lane c.args.unfinished.now
    c.requires.told)
    (one_idle (λ l. (slot (sight_at sight c.go-came.new.ports.log.logs.items c.go-came.new.ports.log.at).seen l).phase) c.args.unfinished.now
    c.go-came.result c.one_of.result c.one_of.ensures
    (subst (λ os. OnOk c.go-came.result (All (λ x.
    (slot (sight_at sight c.go-came.new.ports.log.logs.items c.go-came.new.ports.log.at).seen x.batch.lane).phase ≡ Idle) os))
    (ap (λ (p : PlanOf). p.lanes) c.requires.plan) c.go-came.ensures.idle))))

pub go-came-requires-clause-stand : goal.go-came-requires-clause-stand
go-came-requires-clause-stand g c =
    subst (λ (p : PlanOf). AreUnfinished p.shape p.lanes (sight_at sight c.args.ports.now.log.logs.items c.home-ports.result)
    (λ n. sight_at sight c.args.ports.now.shards.nodes.items n)) (sym c.requires.plan)
    (All-cons (λ x. IsBatchUnfinished x.phase c.args.header.now.shape x (sight_at sight c.args.ports.now.log.logs.items c.home-ports.result)
    (λ n. sight_at sight c.args.ports.now.shards.nodes.items n)) c.args.unfinished.now []
    (is_unfinished g.D.Disk c.args.header.now c.args.lane c.args.ports.now.log.logs.items c.args.ports.now.shards.nodes.items c.requires.ledger
    c.requires.lane c.args.unfinished.now c.requires.told c.requires.checked c.home-ports.result c.home-ports.ensures.place)
    (All-nil (λ x. IsBatchUnfinished x.phase c.args.header.now.shape x (sight_at sight c.args.ports.now.log.logs.items c.home-ports.result)
    (λ n. sight_at sight c.args.ports.now.shards.nodes.items n))))

pub go-came-requires-clause-alone : goal.go-came-requires-clause-alone
go-came-requires-clause-alone g c more = absurd (omega (arith, more, ap (λ (p : PlanOf). length p.lanes) c.requires.plan))

pub go-came-requires-clause-rise : goal.go-came-requires-clause-rise
go-came-requires-clause-rise g c = subst LanesRise (sym (ap (λ (p : PlanOf). p.lanes) c.requires.plan)) (tt, tt)

pub one_of-requires : goal.one_of-requires
one_of-requires g c = are_one c.args.header.now.shape true c.args.unfinished.now c.go-came.result
    (record {
      home = sight_at sight c.args.ports.now.log.logs.items c.home-ports.result;
      logs = λ n. sight_at sight c.args.ports.now.log.logs.items n;
      shards = λ n. sight_at sight c.args.ports.now.shards.nodes.items n;
    }) (record {
      home = sight_at sight c.go-came.new.ports.log.logs.items c.go-came.new.ports.log.at;
      logs = λ n. sight_at sight c.go-came.new.ports.log.logs.items n;
      shards = λ n. sight_at sight c.go-came.new.ports.shards.nodes.items n;
    }) (subst (λ (p : PlanOf). OpenLanesResult p.shape true p.lanes c.go-came.result
    (record {
      home = sight_at sight c.args.ports.now.log.logs.items c.home-ports.result;
      logs = λ n. sight_at sight c.args.ports.now.log.logs.items n;
      shards = λ n. sight_at sight c.args.ports.now.shards.nodes.items n;
    }) (record {
      home = sight_at sight c.go-came.new.ports.log.logs.items c.go-came.new.ports.log.at;
      logs = λ n. sight_at sight c.go-came.new.ports.log.logs.items n;
      shards = λ n. sight_at sight c.go-came.new.ports.shards.nodes.items n;
    })) c.requires.plan c.go-came.ensures.outcome)

pub go-came-requires-clause-mine : goal.go-came-requires-clause-mine
go-came-requires-clause-mine g c = λ i o inside. tt
