use Rattle.std.proofs.Common.{◌∙◌, ◌++◌, ◌≡◌, map, drop, ◌+◌, subst, sym, List}
use Rattle.cbdc_model.specs.Records.{Digest}
use Rattle.cbdc_model.specs.Coins.{coin_hash, made_coins}
use Rattle.sentinel.proofs.Coins.{one_more, at_end}
use Rattle.sentinel.proofs.compacting.made_hashes.Goals as goal

pub outputs-preserved : goal.outputs-preserved
outputs-preserved c =
    subst (λ (hs : List Digest). hs ++ map coin_hash (made_coins c.args.id.now (c.outputs.index + 1) (drop (c.outputs.index + 1) c.args.outputs.now))
    ≡ map coin_hash (made_coins c.args.id.now 0 c.args.outputs.now))
    (sym c.in_ok-push.ensures.items)
    (one_more c.args.id.now c.args.outputs.now c.outputs.index c.index-outputs-index.result c.made_hash.result c.outputs.hashes.items _
    c.outputs-test.true c.index-outputs-index.is c.made_hash.ensures c.outputs.invariant)

pub returns : goal.returns
returns c = c.from_vec.ensures ∙ at_end c.args.id.now c.args.outputs.now c.outputs.index c.outputs.hashes.items _ c.outputs-test.false
    c.outputs.invariant
