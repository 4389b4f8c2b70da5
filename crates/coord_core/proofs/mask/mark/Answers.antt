use Rattle.std.proofs.Common.{◌≡◌, ◌∙◌, ℕ, ◌*◌, ◌^◌, ◌%◌, ◌<◌, arith}
use Rattle.std.proofs.lemmas.Grind.{common_steps}
use Rattle.coord_core.proofs.Walks.{marked_step}
use Rattle.coord_core.proofs.mask.mark.Goals as goal

bit_small : (s : ℕ) → s < 64 → (1 * 2 ^ s) % 18446744073709551616 ≡ 2 ^ s
bit_small s lt = grind (arith, common_steps)

pub loop-x-preserved : goal.loop-x-preserved
loop-x-preserved c =
    let below : c.shard_of.result < 64 = omega (arith, c.shard_of.ensures.below, c.shards-shards.ensures.limits.shards) in
    rw (bit_small c.shard_of.result below, c.shard_of.ensures.value) (
    marked_step c.args.shape.now c.loop-x.marks c.args.hashes.now c.loop-x.x-index c.x-item.result c.loop-x-test.true c.x-item.is ∙ c.loop-x.invariant)
