use Rattle.std.proofs.Common.{◌↔◌, ◌≤◌, ◌^◌, drop}
use Rattle.cbdc_model.specs.Calls.{PlacesRise}
use Rattle.shard_node.proofs.conditions.places_rise.Given as goal

abbrev pub invariant-entries : goal.invariant-entries
invariant-entries l = record {
  small : l.low ≤ 2 ^ 32;
  rest : PlacesRise 0 l.limit l.entries ↔ PlacesRise l.low l.limit (drop l.e-index l.entries);
}
