use Rattle.std.proofs.Common.{◌≡◌, arith, subst, sym, take, length}
use Rattle.std.proofs.lemmas.List.{take_all}
use Rattle.std.proofs.lemmas.Result.{IfOk-weaker}
use Rattle.shard_ranges.specs.Parts.{AreParts, AreSplit, numbered}
use Rattle.shard_ranges.proofs.Numbers.{are_parts}
use Rattle.shard_ranges.proofs.parts.split.Goals as goal

pub returns : goal.returns
returns c =
    let whole : take c.loop-tx.tx-index c.args.txs.now ≡ c.args.txs.now = take_all c.loop-tx.tx-index c.args.txs.now c.loop-tx-test.false in
    let count : length c.loop-tx.parts.items ≡ c.args.shape.now.shards = omega (arith, c.loop-tx.parts.ok.0, c.loop-tx.invariant.count) in
    let split : AreSplit c.args.shape.now c.args.txs.now c.loop-tx.parts.items = rw (← whole) c.loop-tx.invariant.split in
    let all = are_parts c.args.shape.now c.args.txs.now c.loop-tx.parts.items count split in
    IfOk-weaker c.concerned.result (λ ps. ps ≡ numbered 0 c.loop-tx.parts.items) (AreParts c.args.shape.now c.args.txs.now)
    (λ ps e. subst (AreParts c.args.shape.now c.args.txs.now) (sym e) all) c.concerned.ensures
