use Rattle.std.proofs.Common.{◌≡◌, true, false, sym, ◌∙◌, add-one}
use Rattle.cbdc_model.specs.Records.{same_digest}
use Rattle.shard_core.proofs.Claims.{has_here, not_yet}
use Rattle.shard_core.proofs.claiming.is_listed.Goals as goal

pub returns-then-is_same_hash : goal.returns-then-is_same_hash
returns-then-is_same_hash c =
    let same : same_digest c.y-item.result c.args.x.now ≡ true = sym c.is_same_hash.ensures ∙ c.if-is_same_hash.true in
    sym (has_here c.args.hashes.now c.loop-y.y-index c.y-item.result c.args.x.now c.loop-y-test.true c.y-item.is same)

pub loop-y-preserved : goal.loop-y-preserved
loop-y-preserved c =
    let other : same_digest c.y-item.result c.args.x.now ≡ false = sym c.is_same_hash.ensures ∙ c.if-is_same_hash.false in
    rw add-one (not_yet c.args.hashes.now c.loop-y.y-index c.y-item.result c.args.x.now c.loop-y-test.true c.y-item.is c.loop-y.invariant other)
