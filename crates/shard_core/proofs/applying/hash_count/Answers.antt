use Rattle.std.proofs.Common.{◌≡◌, List, drop, arith, ap}
use Rattle.std.proofs.lemmas.Grind.{common_steps}
use Rattle.cbdc_model.specs.Records.{Entry}
use Rattle.shard_core.specs.Moves.{hashes_in}
use Rattle.shard_core.proofs.Moves.{drop_end}
use Rattle.shard_core.proofs.applying.hash_count.Goals as goal

pub returns : goal.returns
returns c =
    let e : hashes_in (drop c.loop-entry.entry-index c.args.entries.now) ≡ 0 =
    ap (λ (es : List Entry). hashes_in es) (drop_end c.args.entries.now c.loop-entry.entry-index c.loop-entry-test.false) in
    let i = c.loop-entry.invariant.count in
    let f = c.loop-entry.invariant.fits in
    omega (arith, e, i, f)

pub loop-entry-preserved : goal.loop-entry-preserved
loop-entry-preserved c = grind (arith, common_steps)
