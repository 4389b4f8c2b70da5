use Rattle.std.proofs.Common.{inl, inr, ⊎_elim, [], Ok, refl, sym, subst, arith}
use Rattle.cbdc_model.specs.World.{AreIdle}
use Rattle.file_runs.specs.Ledgers.{ledger_journals}
use Rattle.file_runs.proofs.Whole.{of_whole, of_fault, when_whole}
use Rattle.rack_ledgers.specs.Racked.{disks_in}
use Rattle.rack_runs.specs.Works.{entry_ledger, HasOpenedAndRun, HasDoneWork, BeginsWork, EndsWork, CameThrough}
use Rattle.rack_runs.proofs.Answering.{fault_as}
use Rattle.rack_runs.proofs.Working.{worked_run}
use Rattle.submissions.specs.Checks.{VerdictsOf}
use Rattle.sentinel.specs.declared.verifier.Verdict.TheVariants.{Good}
use Rattle.ledger_runs.specs.Least.{IsLeastOpen}
use Rattle.rack_runs.specs.Runs.{AllResumed, NonePrepared, NothingNext}
use Rattle.rack_runs.specs.Deeds.{no_deed}
use Rattle.rack_runs.proofs.Filed.{ends_none, begun_none, through_none, told_none}
use Rattle.rack_runs.proofs.Ledgers.{recovered}
use Rattle.rack_runs.proofs.racks.recover_on.Goals as goal

abbrev all_good : VerdictsOf
all_good = λ _ _. Good

pub begin_on-requires-clause-fit : goal.begin_on-requires-clause-fit
begin_on-requires-clause-fit g c κs within K E X lane txs none = absurd none

pub end_on-requires-clause-fit : goal.end_on-requires-clause-fit
end_on-requires-clause-fit g c K E X lane txs none = absurd none

pub work_none-ledger-requires-clause-idle : goal.work_none-ledger-requires-clause-idle
work_none-ledger-requires-clause-idle g c =
    let r = c.in-Ok.ensures.begun.3 in
    subst (λ h. AreIdle h (ledger_journals c.in-Ok.begun.ledger)) (sym r.keeps_ledger.shape_same) r.idle

pub work_none-ledger-requires-clause-checked : goal.work_none-ledger-requires-clause-checked
work_none-ledger-requires-clause-checked g c = c.in-Ok.ensures.begun.3.checked

pub end_on-requires-clause-come : goal.end_on-requires-clause-come
end_on-requires-clause-come g c =
    let begun = c.in-Ok.ensures.begun in
    let has : HasOpenedAndRun g.R.Disk.Disk no_deed begun.0 (g.R.Rack.held c.begin_on.new.rack) (g.R.Rack.can_put c.begin_on.new.rack)
    (g.R.Rack.can_take c.begin_on.new.rack) c.work_none-ledger.result.ledger c.in-Ok.begun.resumed.items c.work_none-ledger.result.came = record {
      begun = begun.2;
      ran = worked_run g.R.Disk.Disk no_deed (entry_ledger begun.0) c.in-Ok.begun.ledger c.work_none-ledger.result.ledger c.in-Ok.begun.resumed
          (Ok c.in-Ok.begun.resumed) c.work_none-ledger.result.came refl begun.3 c.work_none-ledger.ensures;
    } in
    (begun.0, has)

pub returns-in-Err-clause-stopped : goal.returns-in-Err-clause-stopped
returns-in-Err-clause-stopped g c =
    ⊎_elim (λ turns. ⊎_elim (λ refused. inl refused)
    (λ cut. inr (fault_as g.R.Disk.Disk (disks_in g.R.Rack c.args.rack.now) (disks_in g.R.Rack c.begin_on.new.rack)
    NothingNext (EndsWork no_deed) IsLeastOpen (BeginsWork no_deed) NonePrepared (CameThrough no_deed) AllResumed [] ends_none begun_none
    through_none c.in-Err.fault cut)) turns) (λ tested. absurd tested.refused) c.in-Err.ensures.stopped

pub returns-in-Ok-end_on-clause-caused : goal.returns-in-Ok-end_on-clause-caused
returns-in-Ok-end_on-clause-caused g c =
    let begun = c.in-Ok.ensures.begun in
    let has : HasOpenedAndRun g.R.Disk.Disk no_deed begun.0 (g.R.Rack.held c.begin_on.new.rack) (g.R.Rack.can_put c.begin_on.new.rack)
    (g.R.Rack.can_take c.begin_on.new.rack) c.work_none-ledger.result.ledger c.in-Ok.begun.resumed.items c.work_none-ledger.result.came = record {
      begun = begun.2;
      ran = worked_run g.R.Disk.Disk no_deed (entry_ledger begun.0) c.in-Ok.begun.ledger c.work_none-ledger.result.ledger c.in-Ok.begun.resumed
          (Ok c.in-Ok.begun.resumed) c.work_none-ledger.result.came refl begun.3 c.work_none-ledger.ensures;
    } in
    let done : HasDoneWork g.R.Disk.Disk (disks_in g.R.Rack c.args.rack.now) (disks_in g.R.Rack c.end_on.new.rack) no_deed c.end_on.result =
    subst (λ d. HasDoneWork g.R.Disk.Disk d (disks_in g.R.Rack c.end_on.new.rack) no_deed c.end_on.result) begun.1
    (c.end_on.ensures.done begun.0 has) in
    when_whole c.end_on.result _ c.in-Ok-end_on.is done.caused

pub returns-in-Ok-end_on-clause-recovered : goal.returns-in-Ok-end_on-clause-recovered
returns-in-Ok-end_on-clause-recovered g c =
    let begun = c.in-Ok.ensures.begun in
    let has : HasOpenedAndRun g.R.Disk.Disk no_deed begun.0 (g.R.Rack.held c.begin_on.new.rack) (g.R.Rack.can_put c.begin_on.new.rack)
    (g.R.Rack.can_take c.begin_on.new.rack) c.work_none-ledger.result.ledger c.in-Ok.begun.resumed.items c.work_none-ledger.result.came = record {
      begun = begun.2;
      ran = worked_run g.R.Disk.Disk no_deed (entry_ledger begun.0) c.in-Ok.begun.ledger c.work_none-ledger.result.ledger c.in-Ok.begun.resumed
          (Ok c.in-Ok.begun.resumed) c.work_none-ledger.result.came refl begun.3 c.work_none-ledger.ensures;
    } in
    let done : HasDoneWork g.R.Disk.Disk (disks_in g.R.Rack c.args.rack.now) (disks_in g.R.Rack c.end_on.new.rack) no_deed c.end_on.result =
    subst (λ d. HasDoneWork g.R.Disk.Disk d (disks_in g.R.Rack c.end_on.new.rack) no_deed c.end_on.result) begun.1
    (c.end_on.ensures.done begun.0 has) in
    λ K mint submissions E within shows kept. recovered g.R.Disk.Disk (g.R.Rack.held c.end_on.new.rack) all_good K mint submissions E
    (told_none g.R.Disk.Disk (g.R.Rack.held c.end_on.new.rack) all_good c.in-Ok-end_on.told c.recovered_of.result c.recovered_of.ensures K mint
    submissions E kept
    (of_whole _ c.end_on.result _ c.in-Ok-end_on.is done.ended K mint submissions E within shows kept)).run

pub returns-in-Ok-end_on-clause-told : goal.returns-in-Ok-end_on-clause-told
returns-in-Ok-end_on-clause-told g c =
    let begun = c.in-Ok.ensures.begun in
    let has : HasOpenedAndRun g.R.Disk.Disk no_deed begun.0 (g.R.Rack.held c.begin_on.new.rack) (g.R.Rack.can_put c.begin_on.new.rack)
    (g.R.Rack.can_take c.begin_on.new.rack) c.work_none-ledger.result.ledger c.in-Ok.begun.resumed.items c.work_none-ledger.result.came = record {
      begun = begun.2;
      ran = worked_run g.R.Disk.Disk no_deed (entry_ledger begun.0) c.in-Ok.begun.ledger c.work_none-ledger.result.ledger c.in-Ok.begun.resumed
          (Ok c.in-Ok.begun.resumed) c.work_none-ledger.result.came refl begun.3 c.work_none-ledger.ensures;
    } in
    let done : HasDoneWork g.R.Disk.Disk (disks_in g.R.Rack c.args.rack.now) (disks_in g.R.Rack c.end_on.new.rack) no_deed c.end_on.result =
    subst (λ d. HasDoneWork g.R.Disk.Disk d (disks_in g.R.Rack c.end_on.new.rack) no_deed c.end_on.result) begun.1
    (c.end_on.ensures.done begun.0 has) in (
      all_good,
      λ K mint submissions E within shows kept. told_none g.R.Disk.Disk (g.R.Rack.held c.end_on.new.rack) all_good c.in-Ok-end_on.told
          c.recovered_of.result c.recovered_of.ensures K mint submissions E kept
          (of_whole _ c.end_on.result _ c.in-Ok-end_on.is done.ended K mint submissions E within shows kept),
    )

pub returns-in-Err-end_on-clause-stopped : goal.returns-in-Err-end_on-clause-stopped
returns-in-Err-end_on-clause-stopped g c =
    let begun = c.in-Ok.ensures.begun in
    let has : HasOpenedAndRun g.R.Disk.Disk no_deed begun.0 (g.R.Rack.held c.begin_on.new.rack) (g.R.Rack.can_put c.begin_on.new.rack)
    (g.R.Rack.can_take c.begin_on.new.rack) c.work_none-ledger.result.ledger c.in-Ok.begun.resumed.items c.work_none-ledger.result.came = record {
      begun = begun.2;
      ran = worked_run g.R.Disk.Disk no_deed (entry_ledger begun.0) c.in-Ok.begun.ledger c.work_none-ledger.result.ledger c.in-Ok.begun.resumed
          (Ok c.in-Ok.begun.resumed) c.work_none-ledger.result.came refl begun.3 c.work_none-ledger.ensures;
    } in
    let done : HasDoneWork g.R.Disk.Disk (disks_in g.R.Rack c.args.rack.now) (disks_in g.R.Rack c.end_on.new.rack) no_deed c.end_on.result =
    subst (λ d. HasDoneWork g.R.Disk.Disk d (disks_in g.R.Rack c.end_on.new.rack) no_deed c.end_on.result) begun.1
    (c.end_on.ensures.done begun.0 has) in
    ⊎_elim (λ refused. inl refused) (λ cut. inr (fault_as g.R.Disk.Disk (disks_in g.R.Rack c.args.rack.now) (disks_in g.R.Rack c.end_on.new.rack)
    NothingNext (EndsWork no_deed) IsLeastOpen (BeginsWork no_deed) NonePrepared (CameThrough no_deed) AllResumed [] ends_none begun_none
    through_none c.in-Err-end_on.fault cut)) (of_fault _ c.end_on.result c.in-Err-end_on.fault c.in-Err-end_on.is done.stopped)

pub returns-in-Ok-end_on-clause-later : goal.returns-in-Ok-end_on-clause-later
returns-in-Ok-end_on-clause-later g c n = omega (arith, c.in-Ok.ensures.later n, c.end_on.ensures.later n)

pub returns-in-Err-end_on-clause-later : goal.returns-in-Err-end_on-clause-later
returns-in-Err-end_on-clause-later g c n = omega (arith, c.in-Ok.ensures.later n, c.end_on.ensures.later n)
