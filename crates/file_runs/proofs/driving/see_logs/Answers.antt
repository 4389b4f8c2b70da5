use Rattle.std.proofs.Common.{take, subst, sym, arith}
use Rattle.std.proofs.lemmas.List.Elements.{All-more, All-same}
use Rattle.cbdc_model.specs.After.{IsJournal}
use Rattle.file_runs.specs.Ledgers.{FliesNext}
use Rattle.file_runs.proofs.Steps.{take_whole}
use Rattle.file_runs.proofs.driving.see_logs.Goals as goal

pub logs-preserved : goal.logs-preserved
logs-preserved g c = record {
  journals = All-more (λ l. IsJournal l.header l.journal) c.args.logs.now c.logs.log-index c.log-item.result c.logs-test.true
      c.logs.invariant.journals (subst (λ l. IsJournal l.header l.journal) c.log-item.is c.records-records.ensures.journal);
  next = All-more FliesNext c.args.logs.now c.logs.log-index c.log-item.result c.logs-test.true c.logs.invariant.next
      (subst FliesNext c.log-item.is c.records-records.ensures.flying);
}

pub returns : goal.returns
returns g c =
    let whole = sym (take_whole c.args.logs.now c.logs.log-index (omega (arith, c.logs-test.false))) in
    record {
      journals = All-same (λ l. IsJournal l.header l.journal) c.args.logs.now (take c.logs.log-index c.args.logs.now) whole c.logs.invariant.journals;
      next = All-same FliesNext c.args.logs.now (take c.logs.log-index c.args.logs.now) whole c.logs.invariant.next;
    }
