use Rattle.std.proofs.Common.{◌≡◌, ◌++◌, map, reverse, take}
use Rattle.audit.specs.Rows.{read}
use Rattle.rack_ledgers.proofs.lent.lend_shards.Given as goal

abbrev pub invariant-shards : goal.invariant-shards
invariant-shards g l = read l.all.items ≡ read l.initial.all.items ++ map (λ x. reverse x.journal) (take l.shard-index l.shards)
