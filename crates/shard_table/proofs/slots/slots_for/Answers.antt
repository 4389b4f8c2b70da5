use Rattle.std.proofs.Common.{arith}
use Rattle.shard_table.proofs.Sizes.{doubled}
use Rattle.shard_table.proofs.slots.slots_for.Goals as goal

pub loop-wanted-preserved : goal.loop-wanted-preserved
loop-wanted-preserved c =
    let i = c.loop-wanted.invariant in
    let t = c.loop-wanted-test.true in
    let few = c.requires.few in
    (omega (arith, i.0, t, few), doubled c.loop-wanted.wanted i.1)
