use Rattle.std.proofs.Common.{◌≡◌, ◌∙◌, ◌<◌, length, ap, subst, arith}
use Rattle.cbdc_model.specs.Records.{last_stamp}
use Rattle.node_rows.specs.Resting.{AllRest}
use Rattle.node_rows.proofs.Resting.{rests}
use Rattle.node_rows.proofs.ledgers.check_rest.Goals as goal

pub returns : goal.returns
returns c =
    let inside : c.args.at < length c.args.logs.now = c.in-Some.ensures.lookup.3.0 in
    let stamp : c.last_stamp.result ≡ last_stamp c.in-Some.log.now.journal =
    c.last_stamp.ensures ∙ ap last_stamp (c.deref.ensures.value ∙ c.in_ok-past.ensures ∙ c.records.ensures.records) in
    let as_many : length c.args.shards.now ≡ c.args.shape.now.shards = omega (arith, c.if-shards.false, c.shards.ensures.value) in
    rests c.args.shape.now c.args.lane c.in-Some-log_rests.last c.args.at c.in-Some.log.now c.args.logs.now c.args.shards.now inside
    c.in-Some.ensures.lookup.1 c.in-Some-log_rests.ensures as_many
    (subst (λ t. AllRest c.args.shape.now c.args.lane c.in-Some-log_rests.last t 0 c.args.shards.now) stamp
    (c.in_ok-shards_rest.ensures c.if-not-branch.false))
