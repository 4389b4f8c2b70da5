use Rattle.std.proofs.Common.{take}
use Rattle.std.specs.List.{All}
use Rattle.cbdc_model.specs.After.{IsJournal}
use Rattle.file_runs.specs.Ledgers.{FliesNext}
use Rattle.file_runs.proofs.driving.see_shards.Given as goal

abbrev pub invariant-shards : goal.invariant-shards
invariant-shards g l = record {
  journals : All (λ s. IsJournal s.header s.journal) (take l.shard-index l.shards);
  next : All FliesNext (take l.shard-index l.shards);
}
