use Rattle.std.proofs.Common.{◌++◌, List, ◌∙◌, ap}
use Rattle.cbdc_model.specs.Records.{Digest}
use Rattle.cbdc_model.specs.Status.{has}
use Rattle.shard_core.proofs.Claims.{few_more, many_more}
use Rattle.shard_core.proofs.claiming.Claims.claim.Goals as goal

pub returns-in_ok-extend_from_slice : goal.returns-in_ok-extend_from_slice
returns-in_ok-extend_from_slice c = λ y.
    let few = c.self.inside.few.items in
    let many = c.self.inside.many.hashes in
    rw (← c.self.view_is) (ap (λ (hs : List Digest). has (hs ++ many) y) c.in_ok-extend_from_slice.ensures.items
    ∙ few_more few c.args.inputs.now many y)

pub returns-in_ok-put_all : goal.returns-in_ok-put_all
returns-in_ok-put_all c = λ y.
    rw (← c.self.view_is) (many_more c.self.inside.few.items c.args.inputs.now c.self.inside.many.hashes c.put_all.new.table.hashes y
    (c.in_ok-put_all.ensures y))
