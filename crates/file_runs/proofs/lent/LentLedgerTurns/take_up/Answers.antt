use Rattle.std.proofs.Common.{◌≡◌, ◌∙◌, ◌∷◌, [], Some, sym, ap, subst}
use Rattle.cbdc_model.specs.Ranges.{home_of}
use Rattle.node_journal.specs.Nodes.{sight}
use Rattle.coord_log.specs.OpenLanes.{open_lane}
use Rattle.node_ports.specs.Nodes.{sight_at}
use Rattle.file_runs.proofs.Opens.{opens_keep}
use Rattle.ledger_runs.specs.Turning.{IsLaneOf}
use Rattle.file_runs.specs.Ledgers.{HaveCheckedJournals}
use Rattle.file_runs.proofs.Turns.{resumed_keeps, resumed_flies, resumed_launches, resumed_quiet, resumed_took, all_opened, any_want, resumed_checked}
use Rattle.file_runs.proofs.Turns.{resumed_unprepared, resumed_fault, step_keeps}
use Rattle.file_runs.proofs.lent.LentLedgerTurns.take_up.Goals as goal

pub drive_resume-requires-clause-told : goal.drive_resume-requires-clause-told
drive_resume-requires-clause-told g c = (subst (λ v. open_lane (sight_at sight v.logs (home_of v.header.shape c.args.lane)).seen c.args.lane
    ≡ Some c.args.unfinished.now) (sym c.self.view_is) c.requires.told)

pub returns-clause-others : goal.returns-clause-others
returns-clause-others g c = rw (← c.self.view_is) c.drive_resume.ensures.step.others

pub returns-clause-keeps : goal.returns-clause-keeps
returns-clause-keeps g c = rw (← c.self.view_is)
    (resumed_keeps g.D.Disk c.self.inside.header c.args.lane c.self.inside.ports.log.logs.items c.self.inside.ports.shards.nodes.items
    c.self.invariant (subst (λ v. IsLaneOf v.header.shape c.args.lane) (sym c.self.view_is) c.requires.lane)
    c.drive_resume.new.ports.log.logs.items c.drive_resume.new.ports.shards.nodes.items c.drive_resume.ensures.step c.args.unfinished.now
    (subst (λ v. open_lane (sight_at sight v.logs (home_of v.header.shape c.args.lane)).seen c.args.lane ≡ Some c.args.unfinished.now)
    (sym c.self.view_is) c.requires.told) c.drive_resume.result c.drive_resume.ensures.outcome)

pub returns-clause-flies : goal.returns-clause-flies
returns-clause-flies g c = rw (← c.self.view_is)
    (resumed_flies g.D.Disk c.self.inside.header c.args.lane c.self.inside.ports.log.logs.items c.self.inside.ports.shards.nodes.items
    c.self.invariant (subst (λ v. IsLaneOf v.header.shape c.args.lane) (sym c.self.view_is) c.requires.lane)
    c.drive_resume.new.ports.log.logs.items c.drive_resume.new.ports.shards.nodes.items c.drive_resume.ensures.step c.args.unfinished.now
    (subst (λ v. open_lane (sight_at sight v.logs (home_of v.header.shape c.args.lane)).seen c.args.lane ≡ Some c.args.unfinished.now)
    (sym c.self.view_is) c.requires.told) c.drive_resume.result c.drive_resume.ensures.outcome)

pub returns-clause-keeps_ledger : goal.returns-clause-keeps_ledger
returns-clause-keeps_ledger g c = rw (← c.self.view_is)
    (step_keeps g.D.Disk c.self.inside.header c.args.lane c.self.inside.ports.log.logs.items c.self.inside.ports.shards.nodes.items c.self.invariant
    (subst (λ v. IsLaneOf v.header.shape c.args.lane) (sym c.self.view_is) c.requires.lane)
    c.drive_resume.new.ports.log.logs.items c.drive_resume.new.ports.shards.nodes.items c.drive_resume.ensures.step)

pub returns-clause-checked : goal.returns-clause-checked
returns-clause-checked g c =
    let was = (subst (λ v. HaveCheckedJournals v.header.shape v.logs v.shards) (sym c.self.view_is) c.requires.checked) in (
      was.0,
      (resumed_checked g.D.Disk c.self.inside.header c.args.lane c.self.inside.ports.log.logs.items c.self.inside.ports.shards.nodes.items
          c.self.invariant (subst (λ v. IsLaneOf v.header.shape c.args.lane) (sym c.self.view_is) c.requires.lane)
          c.drive_resume.new.ports.log.logs.items c.drive_resume.new.ports.shards.nodes.items c.drive_resume.ensures.step c.args.unfinished.now
          (subst (λ v. open_lane (sight_at sight v.logs (home_of v.header.shape c.args.lane)).seen c.args.lane ≡ Some c.args.unfinished.now)
          (sym c.self.view_is) c.requires.told) c.drive_resume.result c.drive_resume.ensures.outcome was).checked,
    )

pub returns-clause-grows : goal.returns-clause-grows
returns-clause-grows g c = rw (← c.self.view_is)
    (resumed_checked g.D.Disk c.self.inside.header c.args.lane c.self.inside.ports.log.logs.items c.self.inside.ports.shards.nodes.items
    c.self.invariant (subst (λ v. IsLaneOf v.header.shape c.args.lane) (sym c.self.view_is) c.requires.lane)
    c.drive_resume.new.ports.log.logs.items c.drive_resume.new.ports.shards.nodes.items c.drive_resume.ensures.step c.args.unfinished.now
    (subst (λ v. open_lane (sight_at sight v.logs (home_of v.header.shape c.args.lane)).seen c.args.lane ≡ Some c.args.unfinished.now)
    (sym c.self.view_is) c.requires.told) c.drive_resume.result c.drive_resume.ensures.outcome
    (subst (λ v. HaveCheckedJournals v.header.shape v.logs v.shards) (sym c.self.view_is) c.requires.checked)).grows

pub returns-clause-unprepared : goal.returns-clause-unprepared
returns-clause-unprepared g c = rw (← c.self.view_is)
    (resumed_unprepared g.D.Disk c.self.inside.header c.args.lane c.self.inside.ports.log.logs.items c.self.inside.ports.shards.nodes.items
    c.self.invariant (subst (λ v. IsLaneOf v.header.shape c.args.lane) (sym c.self.view_is) c.requires.lane)
    c.drive_resume.new.ports.log.logs.items c.drive_resume.new.ports.shards.nodes.items c.drive_resume.ensures.step c.args.unfinished.now
    (subst (λ v. open_lane (sight_at sight v.logs (home_of v.header.shape c.args.lane)).seen c.args.lane ≡ Some c.args.unfinished.now)
    (sym c.self.view_is) c.requires.told) c.drive_resume.result c.drive_resume.ensures.outcome
    (subst (λ v. HaveCheckedJournals v.header.shape v.logs v.shards) (sym c.self.view_is) c.requires.checked))

pub drive_resume-requires-clause-checked : goal.drive_resume-requires-clause-checked
drive_resume-requires-clause-checked g c = (subst (λ v. HaveCheckedJournals v.header.shape v.logs v.shards) (sym c.self.view_is) c.requires.checked)

pub returns-clause-launches : goal.returns-clause-launches
returns-clause-launches g c = rw (← c.self.view_is)
    (resumed_launches g.D.Disk c.self.inside.header c.args.lane c.self.inside.ports.log.logs.items c.self.inside.ports.shards.nodes.items
    c.self.invariant (subst (λ v. IsLaneOf v.header.shape c.args.lane) (sym c.self.view_is) c.requires.lane)
    c.drive_resume.new.ports.log.logs.items c.drive_resume.new.ports.shards.nodes.items c.drive_resume.ensures.step c.args.unfinished.now
    (subst (λ v. open_lane (sight_at sight v.logs (home_of v.header.shape c.args.lane)).seen c.args.lane ≡ Some c.args.unfinished.now)
    (sym c.self.view_is) c.requires.told) c.drive_resume.result c.drive_resume.ensures.outcome
    (subst (λ v. HaveCheckedJournals v.header.shape v.logs v.shards) (sym c.self.view_is) c.requires.checked))

pub drive_resume-requires-clause-plan : goal.drive_resume-requires-clause-plan
drive_resume-requires-clause-plan g c = c.requires.plan
    ∙ ap (λ v. record { shape = v.header.shape; lanes = c.args.unfinished.now ∷ [] }) (sym c.self.view_is)

pub returns-clause-opens_same : goal.returns-clause-opens_same
returns-clause-opens_same g c = rw (← c.self.view_is)
    (opens_keep g.D.Disk c.self.inside.header c.args.lane c.self.inside.ports.log.logs.items c.self.inside.ports.shards.nodes.items c.self.invariant
    (subst (λ v. IsLaneOf v.header.shape c.args.lane) (sym c.self.view_is) c.requires.lane)
    c.drive_resume.new.ports.log.logs.items c.drive_resume.new.ports.shards.nodes.items
    (resumed_checked g.D.Disk c.self.inside.header c.args.lane c.self.inside.ports.log.logs.items c.self.inside.ports.shards.nodes.items
    c.self.invariant (subst (λ v. IsLaneOf v.header.shape c.args.lane) (sym c.self.view_is) c.requires.lane)
    c.drive_resume.new.ports.log.logs.items c.drive_resume.new.ports.shards.nodes.items c.drive_resume.ensures.step c.args.unfinished.now
    (subst (λ v. open_lane (sight_at sight v.logs (home_of v.header.shape c.args.lane)).seen c.args.lane ≡ Some c.args.unfinished.now)
    (sym c.self.view_is) c.requires.told) c.drive_resume.result c.drive_resume.ensures.outcome
    (subst (λ v. HaveCheckedJournals v.header.shape v.logs v.shards) (sym c.self.view_is) c.requires.checked)).grows)

pub returns-clause-fault : goal.returns-clause-fault
returns-clause-fault g c = rw (← c.self.view_is)
    (resumed_fault g.D.Disk c.self.inside.header c.args.lane c.self.inside.ports.log.logs.items c.self.inside.ports.shards.nodes.items
    c.self.invariant (subst (λ v. IsLaneOf v.header.shape c.args.lane) (sym c.self.view_is) c.requires.lane)
    c.drive_resume.new.ports.log.logs.items c.drive_resume.new.ports.shards.nodes.items c.drive_resume.ensures.step c.args.unfinished.now
    (subst (λ v. open_lane (sight_at sight v.logs (home_of v.header.shape c.args.lane)).seen c.args.lane ≡ Some c.args.unfinished.now)
    (sym c.self.view_is) c.requires.told) c.drive_resume.result c.drive_resume.ensures.outcome
    (subst (λ v. HaveCheckedJournals v.header.shape v.logs v.shards) (sym c.self.view_is) c.requires.checked))

pub returns-clause-took : goal.returns-clause-took
returns-clause-took g c = rw (← c.self.view_is)
    (resumed_took g.D.Disk c.self.inside.header c.args.lane c.self.inside.ports.log.logs.items c.self.inside.ports.shards.nodes.items
    c.self.invariant (subst (λ v. IsLaneOf v.header.shape c.args.lane) (sym c.self.view_is) c.requires.lane)
    c.drive_resume.new.ports.log.logs.items c.drive_resume.new.ports.shards.nodes.items c.drive_resume.ensures.step c.args.unfinished.now
    (subst (λ v. open_lane (sight_at sight v.logs (home_of v.header.shape c.args.lane)).seen c.args.lane ≡ Some c.args.unfinished.now)
    (sym c.self.view_is) c.requires.told) c.drive_resume.result c.drive_resume.ensures.outcome)

pub returns-clause-quiet : goal.returns-clause-quiet
returns-clause-quiet g c = rw (← c.self.view_is)
    (resumed_quiet g.D.Disk c.self.inside.header c.args.lane c.self.inside.ports.log.logs.items c.self.inside.ports.shards.nodes.items
    c.self.invariant (subst (λ v. IsLaneOf v.header.shape c.args.lane) (sym c.self.view_is) c.requires.lane)
    c.drive_resume.new.ports.log.logs.items c.drive_resume.new.ports.shards.nodes.items c.drive_resume.ensures.step c.args.unfinished.now
    (subst (λ v. open_lane (sight_at sight v.logs (home_of v.header.shape c.args.lane)).seen c.args.lane ≡ Some c.args.unfinished.now)
    (sym c.self.view_is) c.requires.told) c.drive_resume.result c.drive_resume.ensures.outcome
    (subst (λ v. HaveCheckedJournals v.header.shape v.logs v.shards) (sym c.self.view_is) c.requires.checked))

pub returns-clause-opened : goal.returns-clause-opened
returns-clause-opened g c = rw (← c.self.view_is)
    (all_opened g.D.Disk c.self.inside.header c.args.lane c.self.inside.ports.log.logs.items c.self.inside.ports.shards.nodes.items c.self.invariant
    (subst (λ v. IsLaneOf v.header.shape c.args.lane) (sym c.self.view_is) c.requires.lane)
    c.drive_resume.new.ports.log.logs.items c.drive_resume.new.ports.shards.nodes.items c.drive_resume.ensures.step c.args.unfinished.now
    (subst (λ v. open_lane (sight_at sight v.logs (home_of v.header.shape c.args.lane)).seen c.args.lane ≡ Some c.args.unfinished.now)
    (sym c.self.view_is) c.requires.told) c.drive_resume.result c.drive_resume.ensures.outcome)

pub returns-clause-idle : goal.returns-clause-idle
returns-clause-idle g c = rw (← c.self.view_is) c.drive_resume.ensures.idle

pub returns-clause-wanting : goal.returns-clause-wanting
returns-clause-wanting g c = any_want c.drive_resume.result
