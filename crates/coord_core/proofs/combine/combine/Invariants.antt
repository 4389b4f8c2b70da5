use Rattle.std.proofs.Common.{◌≡◌, ◌≤◌, drop, take, length, vec_len, vec_capacity, map}
use Rattle.cbdc_model.specs.Records.{Won}
use Rattle.std.specs.Prelude.{All}
use Rattle.cbdc_model.specs.Records.{Shape}
use Rattle.cbdc_model.specs.Grammar.{IsOutcome}
use Rattle.coord_core.specs.Hashes.{AllNameBatches}
use Rattle.coord_core.specs.Decided.{combined_outcomes, ShardsRise}
use Rattle.coord_core.proofs.combine.combine.Given as goal

abbrev pub invariant-loop : goal.invariant-loop
invariant-loop l = record {
  held : l.outcomes.items ≡ map (λ m. Won) (take l.index l.masks);
  count : vec_len l.outcomes ≡ l.index;
  room : length l.masks ≤ vec_capacity l.outcomes;
}

abbrev pub invariant-loop-i : goal.invariant-loop-i
invariant-loop-i l = record {
  combined : l.outcomes.items ≡ combined_outcomes l.masks (drop l.i l.replies);
  count : vec_len l.outcomes ≡ length l.masks;
  within : l.i ≤ length l.replies;
  grammar : (K : Shape) → ShardsRise 0 K.shards l.replies → AllNameBatches K l.replies → All (IsOutcome K) l.outcomes.items;
}
