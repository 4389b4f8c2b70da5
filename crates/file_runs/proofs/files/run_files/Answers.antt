use Rattle.input_files.specs.Limits.{IsShort}
use Rattle.std.proofs.Common.{All, ◌≡◌, ◌+◌, ◌++◌, [], ◌∷◌, refl, sym, ap, subst, arith, get_or}
use Rattle.cbdc_model.specs.World.{AreIdle}
use Rattle.file_runs.specs.Deeds.{file_deed}
use Rattle.file_runs.specs.Ledgers.{ledger_journals}
use Rattle.file_runs.specs.Stretches.{ledger_sight, Stretch}
use Rattle.file_runs.proofs.FileDeeds.{none_run, short_run, file_more, file_cut, files_all, file_stretch}
use Rattle.file_runs.proofs.Whole.{all_at}
use Rattle.file_runs.proofs.files.run_files.Goals as goal

pub files-init : goal.files-init
files-init g c = none_run (g.V.Verifier.verdict_of c.args.verifier.now) c.args.files.now (ledger_sight g.D.Disk c.args.ledger) c.in-Ok.waves.items
    c.requires.checked c.requires.idle c.in-Ok.ensures.items

pub files-preserved : goal.files-preserved
files-preserved g c =
    let see = ledger_sight g.D.Disk in
    let verdicts = g.V.Verifier.verdict_of c.args.verifier.now in
    file_more verdicts c.args.files.now c.files.txs-index c.as_slice.result.now (see c.args.ledger) (see c.files.ledger)
    (see c.run_file-behind.result.ledger) c.files.waves.items c.push.new.self.items c.in-Ok-came.wave
    c.files-test.true (subst (λ f. f ≡ get_or c.args.files.now c.files.txs-index f) (sym c.as_slice.ensures) c.txs-item.is)
    c.in-Ok-push.ensures.items c.files.invariant
    (subst (λ came. Stretch (file_deed verdicts c.as_slice.result.now) (see c.files.ledger) (see c.run_file-behind.result.ledger) came)
    c.in-Ok-came.is (file_stretch g.D.Disk verdicts c.as_slice.result.now c.files.ledger c.run_file-behind.result.ledger
    c.run_file-behind.result.came c.run_file-behind.ensures))

pub returns-in_default : goal.returns-in_default
returns-in_default g c =
    let s = ledger_sight g.D.Disk c.args.ledger in
    let verdicts = g.V.Verifier.verdict_of c.args.verifier.now in
    short_run verdicts c.args.files.now 0 s s [] c.no_memory.result (ap (λ e. e.fault) c.no_memory.ensures)
    (none_run verdicts c.args.files.now s [] c.requires.checked c.requires.idle refl)

pub returns-in-Err : goal.returns-in-Err
returns-in-Err g c =
    let see = ledger_sight g.D.Disk in
    let verdicts = g.V.Verifier.verdict_of c.args.verifier.now in
    file_cut verdicts c.args.files.now c.files.txs-index c.as_slice.result.now (see c.args.ledger) (see c.files.ledger)
    (see c.run_file-behind.result.ledger) c.files.waves.items c.in-Err.fault
    c.files-test.true (subst (λ f. f ≡ get_or c.args.files.now c.files.txs-index f) (sym c.as_slice.ensures) c.txs-item.is) c.files.invariant
    (subst (λ came. Stretch (file_deed verdicts c.as_slice.result.now) (see c.files.ledger) (see c.run_file-behind.result.ledger) came) c.in-Err.is
    (file_stretch g.D.Disk verdicts c.as_slice.result.now c.files.ledger c.run_file-behind.result.ledger c.run_file-behind.result.came
    c.run_file-behind.ensures))

pub returns-in-Err-push : goal.returns-in-Err-push
returns-in-Err-push g c =
    let see = ledger_sight g.D.Disk in
    let verdicts = g.V.Verifier.verdict_of c.args.verifier.now in
    short_run verdicts c.args.files.now (c.files.txs-index + 1) (see c.args.ledger) (see c.run_file-behind.result.ledger)
    (c.files.waves.items ++ c.in-Ok-came.wave ∷ []) c.no_memory-in-Err-push.result (ap (λ e. e.fault) c.no_memory-in-Err-push.ensures)
    (file_more verdicts c.args.files.now c.files.txs-index c.as_slice.result.now (see c.args.ledger) (see c.files.ledger)
    (see c.run_file-behind.result.ledger) c.files.waves.items (c.files.waves.items ++ c.in-Ok-came.wave ∷ []) c.in-Ok-came.wave
    c.files-test.true (subst (λ f. f ≡ get_or c.args.files.now c.files.txs-index f) (sym c.as_slice.ensures) c.txs-item.is) refl c.files.invariant
    (subst (λ came. Stretch (file_deed verdicts c.as_slice.result.now) (see c.files.ledger) (see c.run_file-behind.result.ledger) came)
    c.in-Ok-came.is (file_stretch g.D.Disk verdicts c.as_slice.result.now c.files.ledger c.run_file-behind.result.ledger
    c.run_file-behind.result.came c.run_file-behind.ensures)))

pub returns : goal.returns
returns g c = files_all (g.V.Verifier.verdict_of c.args.verifier.now) c.args.files.now c.files.txs-index (ledger_sight g.D.Disk c.args.ledger)
    (ledger_sight g.D.Disk c.files.ledger) c.files.waves (omega (arith, c.files-test.false)) c.files.invariant

pub run_file-behind-requires-clause-idle : goal.run_file-behind-requires-clause-idle
run_file-behind-requires-clause-idle g c κs k = subst (λ h. AreIdle h (ledger_journals c.files.ledger)) (sym c.files.invariant.shape_same)
    c.files.invariant.is.did.idle

pub run_file-behind-requires-clause-short : goal.run_file-behind-requires-clause-short
run_file-behind-requires-clause-short g c κs k = all_at (λ txs. All IsShort txs) c.args.files.now c.files.txs-index c.as_slice.result.now
    c.files-test.true (subst (λ f. f ≡ get_or c.args.files.now c.files.txs-index f) (sym c.as_slice.ensures) c.txs-item.is) c.requires.short
