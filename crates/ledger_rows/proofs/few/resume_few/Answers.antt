use Rattle.std.proofs.Common.{⊎_elim, ℕ, ◌≡◌, ◌≤◌, length, Ok, refl, sym, subst}
use Rattle.cbdc_types.specs.declared.answer.Answer.TheVariants as answers
use Rattle.cbdc_model.specs.World.{AreIdle}
use Rattle.file_runs.specs.Ledgers.{ledger_journals}
use Rattle.rack_laws.specs.Shown.{OfShown}
use Rattle.rack_ledgers.specs.Racked.{disks_in}
use Rattle.rack_runs.specs.Works.{entry_ledger, HasOpenedAndRun, work_turns}
use Rattle.rack_runs.specs.Tests.{IsTestRefused}
use Rattle.rack_runs.specs.Stops.{WhyNoTurns}
use Rattle.rack_runs.specs.Deeds.{no_deed}
use Rattle.rack_runs.proofs.Lent.{on_ok_by, if_err_by}
use Rattle.rack_runs.proofs.Working.{worked_run}
use Rattle.rack_runs.proofs.Filed.{nothing_worked}
use Rattle.rack_runs.proofs.Testing.{passed_shown}
use Rattle.ledger_rows.specs.Few.{few_records}
use Rattle.ledger_rows.proofs.NotEmpty.{not_empty}
use Rattle.ledger_rows.proofs.few.resume_few.Goals as goal

pub begin_on-requires-clause-fit : goal.begin_on-requires-clause-fit
begin_on-requires-clause-fit g c κs within K E X lane txs none = absurd none

pub end_on-requires-clause-fit : goal.end_on-requires-clause-fit
end_on-requires-clause-fit g c K E X lane txs none = absurd none

pub end_on-requires-clause-come : goal.end_on-requires-clause-come
end_on-requires-clause-come g c =
    let begun = c.in-Ok.ensures.begun in
    let r = begun.3 in
    let idle : AreIdle c.in-Ok.begun.ledger.header.shape (ledger_journals c.in-Ok.begun.ledger) =
    subst (λ h. AreIdle h (ledger_journals c.in-Ok.begun.ledger)) (sym r.keeps_ledger.shape_same) r.idle in
    let has : HasOpenedAndRun g.R.Disk.Disk no_deed begun.0 (g.R.Rack.held c.begin_on.new.rack) (g.R.Rack.can_put c.begin_on.new.rack)
    (g.R.Rack.can_take c.begin_on.new.rack) c.in-Ok.begun.ledger c.in-Ok.begun.resumed.items (Ok tt) = record {
      begun = begun.2;
      ran = worked_run g.R.Disk.Disk no_deed (entry_ledger begun.0) c.in-Ok.begun.ledger c.in-Ok.begun.ledger c.in-Ok.begun.resumed
          (Ok c.in-Ok.begun.resumed) (Ok tt) refl r
          (nothing_worked g.R.Disk.Disk c.in-Ok.begun.ledger idle r.checked);
    } in
    (begun.0, has)

pub returns-in-Err-clause-refused : goal.returns-in-Err-clause-refused
returns-in-Err-clause-refused g c n is =
    ⊎_elim (λ turns. absurd (not_empty g.R.Disk.Disk (disks_in g.R.Rack c.args.rack.now) (disks_in g.R.Rack c.begin_on.new.rack) (work_turns no_deed)
    n
    (subst (λ a. WhyNoTurns g.R.Disk.Disk (disks_in g.R.Rack c.args.rack.now) (disks_in g.R.Rack c.begin_on.new.rack) (work_turns no_deed) a) is
    turns))) (λ refused. refused) c.in-Err.ensures.stopped

pub returns-clause-refused : goal.returns-clause-refused
returns-clause-refused g c =
    let begun = c.in-Ok.ensures.begun in
    let r = begun.3 in
    let idle : AreIdle c.in-Ok.begun.ledger.header.shape (ledger_journals c.in-Ok.begun.ledger) =
    subst (λ h. AreIdle h (ledger_journals c.in-Ok.begun.ledger)) (sym r.keeps_ledger.shape_same) r.idle in
    let has : HasOpenedAndRun g.R.Disk.Disk no_deed begun.0 (g.R.Rack.held c.begin_on.new.rack) (g.R.Rack.can_put c.begin_on.new.rack)
    (g.R.Rack.can_take c.begin_on.new.rack) c.in-Ok.begun.ledger c.in-Ok.begun.resumed.items (Ok tt) = record {
      begun = begun.2;
      ran = worked_run g.R.Disk.Disk no_deed (entry_ledger begun.0) c.in-Ok.begun.ledger c.in-Ok.begun.ledger c.in-Ok.begun.resumed
          (Ok c.in-Ok.begun.resumed) (Ok tt) refl r
          (nothing_worked g.R.Disk.Disk c.in-Ok.begun.ledger idle r.checked);
    } in
    if_err_by (WhyNoTurns g.R.Disk.Disk begun.0.disks (disks_in g.R.Rack c.end_on.new.rack) (work_turns no_deed))
    (λ a. (n : ℕ) → a ≡ answers.NotEmpty n → IsTestRefused g.R.Disk.Disk (g.R.Rack.held c.args.rack.now) (g.R.Rack.held c.end_on.new.rack)
    (few_records c.args.most) a) c.end_on.result
    (λ a turns n is. absurd (not_empty g.R.Disk.Disk begun.0.disks (disks_in g.R.Rack c.end_on.new.rack) (work_turns no_deed) n
    (subst (λ a. WhyNoTurns g.R.Disk.Disk begun.0.disks (disks_in g.R.Rack c.end_on.new.rack) (work_turns no_deed) a) is turns)))
    (c.end_on.ensures.done begun.0 has).stopped

pub returns-clause-passed : goal.returns-clause-passed
returns-clause-passed g c =
    let begun = c.in-Ok.ensures.begun in
    let r = begun.3 in
    let idle : AreIdle c.in-Ok.begun.ledger.header.shape (ledger_journals c.in-Ok.begun.ledger) =
    subst (λ h. AreIdle h (ledger_journals c.in-Ok.begun.ledger)) (sym r.keeps_ledger.shape_same) r.idle in
    let has : HasOpenedAndRun g.R.Disk.Disk no_deed begun.0 (g.R.Rack.held c.begin_on.new.rack) (g.R.Rack.can_put c.begin_on.new.rack)
    (g.R.Rack.can_take c.begin_on.new.rack) c.in-Ok.begun.ledger c.in-Ok.begun.resumed.items (Ok tt) = record {
      begun = begun.2;
      ran = worked_run g.R.Disk.Disk no_deed (entry_ledger begun.0) c.in-Ok.begun.ledger c.in-Ok.begun.ledger c.in-Ok.begun.resumed
          (Ok c.in-Ok.begun.resumed) (Ok tt) refl r
          (nothing_worked g.R.Disk.Disk c.in-Ok.begun.ledger idle r.checked);
    } in
    on_ok_by c.end_on.result (λ _. subst (λ d. OfShown g.R.Disk.Disk d.held (λ K mint submissions E. length (E 0) ≤ c.args.most)) begun.1
    (passed_shown g.R.Disk.Disk begun.0 (g.R.Rack.held c.begin_on.new.rack) (g.R.Rack.can_put c.begin_on.new.rack)
    (g.R.Rack.can_take c.begin_on.new.rack) begun.2 (λ K E. length (E 0) ≤ c.args.most) begun.4)) (c.end_on.ensures.done begun.0 has).caused
