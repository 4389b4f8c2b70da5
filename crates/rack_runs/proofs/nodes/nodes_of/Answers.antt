use Rattle.std.proofs.Common.{subst}
use Rattle.std.specs.Prelude.{All}
use Rattle.rack_runs.specs.Works.{IsSeen}
use Rattle.rack_runs.proofs.nodes.nodes_of.Goals as goal

pub returns-clause-seen : goal.returns-clause-seen
returns-clause-seen g c = record {
  logs_are = subst (λ xs. All (IsSeen g.D.Disk) xs) c.as_slice.ensures.value c.see_logs.ensures;
  shards_are = subst (λ xs. All (IsSeen g.D.Disk) xs) c.as_slice-2.ensures.value c.see_shards.ensures;
}
