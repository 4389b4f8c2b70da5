use Rattle.std.proofs.Common.{◌≡◌, ◌≤◌, ◌++◌, drop, take, length, vec_len}
use Rattle.std.proofs.Common.{◌<◌}
use Rattle.std.specs.Prelude.{All}
use Rattle.cbdc_model.specs.Records.{Shape}
use Rattle.cbdc_model.specs.Grammar.{IsOutcome}
use Rattle.coord_core.specs.Hashes.{NamesBatch}
use Rattle.coord_core.specs.Decided.{replied_outcomes}
use Rattle.coord_core.proofs.combine.tell.Given as goal

abbrev pub invariant-loop-k : goal.invariant-loop-k
invariant-loop-k l = record {
  told : take l.k l.outcomes.items ++ replied_outcomes l.shard (drop l.k l.masks) (drop l.next l.replies) (drop l.k l.outcomes.items)
      ≡ replied_outcomes l.shard l.masks l.replies l.initial.outcomes.items;
  same_length : vec_len l.outcomes ≡ length l.masks;
  within : l.next ≤ length l.replies;
  grammar : (K : Shape) → l.shard < K.shards → All (NamesBatch K) l.replies → All (IsOutcome K) l.initial.outcomes.items
      → All (IsOutcome K) l.outcomes.items;
}
