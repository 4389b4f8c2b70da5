use Rattle.std.proofs.Common.{arith}
use Rattle.std.proofs.lemmas.Grind.{common_steps}
use Rattle.std.proofs.lemmas.List.FromFn.{map-range_with_len_more}
use Rattle.cbdc_model.specs.World.{first_node}
use Rattle.plain_check.specs.Events.{mint_by}
use Rattle.plain_check.proofs.world.World.new.Goals as goal

pub loop-n-preserved : goal.loop-n-preserved
loop-n-preserved c =
    let e = map-range_with_len_more (first_node c.args.shape.now (mint_by c.args.genesis.now c.args.hashes.now)) 0 c.loop-n.n c.loop-n.n
    (omega arith) in
    grind (arith, common_steps, e)
