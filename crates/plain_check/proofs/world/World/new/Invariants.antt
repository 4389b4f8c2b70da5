use Rattle.std.proofs.Common.{◌≡◌, map}
use Rattle.std.specs.List.{range_with_len}
use Rattle.cbdc_model.specs.World.{first_node}
use Rattle.plain_check.specs.Events.{mint_by}
use Rattle.plain_check.proofs.world.World.new.Given as goal

abbrev pub invariant-loop-n : goal.invariant-loop-n
invariant-loop-n l = l.nodes.items ≡ map (first_node l.shape (mint_by l.genesis l.hashes)) (range_with_len 0 l.n)
