use Rattle.std.proofs.Common.{length, sym, ◌∙◌, subst}
use Rattle.cbdc_model.specs.World.{AreIdle}
use Rattle.std.proofs.lemmas.Bool.{eqb-true}
use Rattle.ledger_runs.proofs.Keeping.{ledger_same}
use Rattle.ledger_runs.specs.Faults.{HaveFailed}
use Rattle.file_runs.specs.Ledgers.{ledger_journals, ledger_flights, ledger_faults, ledger_opened, IsChecked}
use Rattle.file_runs.specs.Stretches.{ledger_sight, Stretch}
use Rattle.file_runs.specs.Deeds.{files_deed}
use Rattle.rack_runs.proofs.Filed.{none_of, some_of, none_leave, none_end, files_worked}
use Rattle.rack_runs.proofs.files.work_files.Goals as goal

pub returns-then-is_empty : goal.returns-then-is_empty
returns-then-is_empty g c =
    let verdicts = g.V.Verifier.verdict_of c.args.verifier.now in
    let M = ledger_journals c.args.ledger in
    record {
      keeps_ledger = ledger_same c.args.ledger;
      checked = c.requires.checked;
      quiet = λ was. was;
      leaves = none_leave verdicts c.args.files.now c.args.ledger.header.shape M (ledger_flights c.args.ledger)
          (HaveFailed (ledger_opened c.args.ledger) (ledger_faults c.args.ledger)) c.requires.idle;
      well = none_end verdicts c.args.files.now c.args.ledger.header.shape M _
          (none_of c.args.files.now (eqb-true (length c.args.files.now) 0 (sym c.is_empty.ensures ∙ c.if-is_empty.true))) c.new.ensures.items
          c.requires.idle;
      badly = tt;
    }

pub returns : goal.returns
returns g c =
    files_worked g.D.Disk (g.V.Verifier.verdict_of c.args.verifier.now) c.args.files.now c.args.ledger c.run_files-ledger.result.ledger
    c.run_files-ledger.result.came
    (some_of (length c.args.files.now) (sym c.is_empty.ensures ∙ c.if-is_empty.false))
    (subst (λ l. Stretch (files_deed (g.V.Verifier.verdict_of c.args.verifier.now) c.args.files.now) (ledger_sight g.D.Disk l)
    (ledger_sight g.D.Disk c.run_files-ledger.result.ledger) c.run_files-ledger.result.came)
    c.watched-marked.ensures c.run_files-ledger.ensures)

pub run_files-ledger-requires-clause-idle : goal.run_files-ledger-requires-clause-idle
run_files-ledger-requires-clause-idle g c κs k = subst (λ l. AreIdle l.header.shape (ledger_journals l)) (sym c.watched-marked.ensures)
    c.requires.idle

pub run_files-ledger-requires-clause-checked : goal.run_files-ledger-requires-clause-checked
run_files-ledger-requires-clause-checked g c κs k = subst (λ l. IsChecked l) (sym c.watched-marked.ensures) c.requires.checked
