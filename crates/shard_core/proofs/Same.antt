-- Room made in a shard changes nothing that it stands for.
use Rattle.std.proofs.Common.{◌≡◌, ◌∙◌, ap, subst, List, Some, option_map}
use Rattle.std.specs.Prelude.{slice_get}
use Rattle.cbdc_model.specs.Records.{Record}
use Rattle.shard_core.specs.declared.slots.LaneSlot.{LaneSlot}
use Rattle.shard_core.specs.declared.core_state.ShardCore.{ShardCore}
use Rattle.shard_core.specs.Stands.{ShardStands, IsSameState}

pub stands_same : (old new : ShardCore) (J : List Record) → IsSameState old new → ShardStands old J → ShardStands new J
stands_same old new J same stands = record {
  lanes = λ lane s is. stands.lanes lane s (subst (λ (slots : List LaneSlot). slice_get slots lane ≡ Some s) same.slots is);
  last = same.last ∙ stands.last;
  hashes = record {
    unspent = λ x. same.unspent x ∙ stands.hashes.unspent x;
    locked = λ x. ap (option_map (λ p. p.0)) (same.locks x) ∙ stands.hashes.locked x;
  };
}
