use Rattle.std.proofs.Common.{◌≡◌, subst, sym, arith}
use Rattle.std.proofs.lemmas.Grind.{common_steps}
use Rattle.std.specs.List.{IsDistinct}
use Rattle.cbdc_model.specs.Records.{same_digest}
use Rattle.plain_check.specs.Journals.{journals_in}
use Rattle.plain_check.specs.Named.{named_below, unspent_among}
use Rattle.plain_check.proofs.Entitled.{unspent_is}
use Rattle.plain_check.proofs.Once.{unspent_once}
use Rattle.plain_check.proofs.unspent.unspent_of.Goals as goal

pub returns-clause-all : goal.returns-clause-all
returns-clause-all c =
    let e : c.from_vec.result ≡ unspent_among c.args.shape.now (journals_in c.args.journals.now)
    (named_below c.args.shape.now (journals_in c.args.journals.now) c.args.shape.now.shards) = grind (arith, common_steps) in
    λ x. rw e (unspent_is c.args.shape.now (journals_in c.args.journals.now) x c.shards-shards.ensures.limits.some_shard)

pub returns-clause-once : goal.returns-clause-once
returns-clause-once c =
    let e : c.from_vec.result ≡ unspent_among c.args.shape.now (journals_in c.args.journals.now)
    (named_below c.args.shape.now (journals_in c.args.journals.now) c.args.shape.now.shards) = grind (arith, common_steps) in
    subst (IsDistinct same_digest) (sym e)
    (unspent_once c.args.shape.now (journals_in c.args.journals.now)
    (named_below c.args.shape.now (journals_in c.args.journals.now) c.args.shape.now.shards))
