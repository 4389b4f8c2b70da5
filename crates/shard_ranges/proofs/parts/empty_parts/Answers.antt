use Rattle.std.proofs.Common.{◌≡◌, arith, subst, slice_get, Some}
use Rattle.shard_ranges.proofs.Numbers.{one_more_empty}
use Rattle.shard_ranges.proofs.parts.empty_parts.Goals as goal

pub loop-shard-preserved : goal.loop-shard-preserved
loop-shard-preserved c = record {
  count = omega (arith, c.in_ok-push.ensures.len);
  empty = λ s p g. one_more_empty c.loop-shard.parts.items c.new.result c.new.ensures.items c.loop-shard.invariant.empty s p
      (subst (λ ps. slice_get ps s ≡ Some p) c.in_ok-push.ensures.items g);
}
