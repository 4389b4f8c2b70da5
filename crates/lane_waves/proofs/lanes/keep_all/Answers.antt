use Rattle.std.proofs.Common.{◌≡◌, ◌+◌, ◌++◌, drop, length, append_assoc, refl, sym, ap, ◌∙◌, arith}
use Rattle.ledger_runs.specs.Telling.{kept_by, decided_in}
use Rattle.thread_laws.specs.Telling.{told_in}
use Rattle.lane_waves.proofs.Keeping.{told_drop, told_many}
use Rattle.lane_waves.proofs.lanes.keep_all.Goals as goal

pub reports-init : goal.reports-init
reports-init c = record { same = refl; kept = refl; room = c.requires.room; count = λ e. let none = e in omega (arith, none) }

pub keep-requires : goal.keep-requires
keep-requires c =
    let inv = c.reports.invariant in
    let x = c.report-item.result in
    let told = told_drop c.args.reports.now c.reports.report-index x c.reports-test.true c.report-item.is in
    let many = told_many x (drop (c.reports.report-index + 1) c.args.reports.now) in
    let all : length (told_in (drop c.reports.report-index c.args.reports.now))
    ≡ length x.outcomes + length (told_in (drop (c.reports.report-index + 1) c.args.reports.now)) = ap length told ∙ many in
    omega (arith, inv.room, all)

pub reports-preserved : goal.reports-preserved
reports-preserved c =
    let inv = c.reports.invariant in
    let x = c.report-item.result in
    let e = c.keep.ensures in
    let rest = drop (c.reports.report-index + 1) c.args.reports.now in
    let told = told_drop c.args.reports.now c.reports.report-index x c.reports-test.true c.report-item.is in
    let many = told_many x rest in
    let all : length (told_in (drop c.reports.report-index c.args.reports.now)) ≡ length x.outcomes + length (told_in rest) = ap length told ∙ many in
    record {
      same = e.same ∙ inv.same;
      kept = ap (λ ds. ds ++ told_in rest) e.kept
          ∙ (append_assoc (kept_by c.reports.lane.decided.items) (decided_in x.batch x.outcomes) (told_in rest)
          ∙ (ap (λ ds. kept_by c.reports.lane.decided.items ++ ds) (sym told) ∙ inv.kept));
      room = let a = e.room.0 in let b = e.room.1 in omega (arith, inv.room, all, a, b);
      count = λ z. let one = inv.count z in let two = e.count in omega (arith, one, two);
    }
