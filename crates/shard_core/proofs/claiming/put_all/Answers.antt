use Rattle.std.proofs.Common.{◌||◌, Bool, take, arith, sym, ap, ◌∙◌, add-one}
use Rattle.cbdc_model.specs.Records.{same_digest}
use Rattle.cbdc_model.specs.Status.{has}
use Rattle.shard_core.proofs.Claims.{has_take, or_swap, spare_less}
use Rattle.shard_core.proofs.claiming.put_all.Goals as goal

pub loop-x-preserved : goal.loop-x-preserved
loop-x-preserved c = record {
  room = let less = spare_less _ _ _ c.insert.ensures.spare in let room = c.loop-x.invariant.room in omega (arith, less, room);
  members = λ y. rw add-one
      (c.insert.ensures.members y ∙ ap (λ (t : Bool). same_digest c.x-item.result y || t) (c.loop-x.invariant.members y)
      ∙ or_swap (same_digest c.x-item.result y) (has (take c.loop-x.x-index c.args.hashes.now) y) (has c.args.table.now.hashes y)
      ∙ ap (λ (t : Bool). t || has c.args.table.now.hashes y)
      (sym (has_take c.args.hashes.now c.loop-x.x-index c.x-item.result y c.loop-x-test.true c.x-item.is)));
}
