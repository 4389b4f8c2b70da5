use Rattle.std.proofs.lemmas.Result.{on_ok_weaker}
use Rattle.shard_ranges.proofs.Entries.{grown_is_split}
use Rattle.shard_ranges.proofs.parts.add_tx.Goals as goal

pub returns-clause-added : goal.returns-clause-added
returns-clause-added c =
    on_ok_weaker c.add_outputs.result
    (λ grown txs e split. grown_is_split c.args.shape.now txs c.args.tx.now c.args.place c.add_outputs.new.parts.items e
    (grown txs e (c.in_ok-add_inputs.ensures.grown txs e split)))
    c.add_outputs.ensures.grown
