use Rattle.std.proofs.Common.{take, subst, sym, arith}
use Rattle.std.proofs.lemmas.List.Elements.{All-more, All-same}
use Rattle.cbdc_model.specs.After.{IsJournal}
use Rattle.file_runs.specs.Ledgers.{FliesNext}
use Rattle.file_runs.proofs.Steps.{take_whole}
use Rattle.file_runs.proofs.driving.see_shards.Goals as goal

pub shards-preserved : goal.shards-preserved
shards-preserved g c = record {
  journals = All-more (λ s. IsJournal s.header s.journal) c.args.shards.now c.shards.shard-index c.shard-item.result c.shards-test.true
      c.shards.invariant.journals (subst (λ s. IsJournal s.header s.journal) c.shard-item.is c.records-records.ensures.journal);
  next = All-more FliesNext c.args.shards.now c.shards.shard-index c.shard-item.result c.shards-test.true c.shards.invariant.next
      (subst FliesNext c.shard-item.is c.records-records.ensures.flying);
}

pub returns : goal.returns
returns g c =
    let whole = sym (take_whole c.args.shards.now c.shards.shard-index (omega (arith, c.shards-test.false))) in
    record {
      journals = All-same (λ s. IsJournal s.header s.journal) c.args.shards.now (take c.shards.shard-index c.args.shards.now) whole
          c.shards.invariant.journals;
      next = All-same FliesNext c.args.shards.now (take c.shards.shard-index c.args.shards.now) whole c.shards.invariant.next;
    }
