use Rattle.std.proofs.Common.{◌≡◌, take}
use Rattle.cbdc_model.specs.Replies.{entries}
use Rattle.shard_core.proofs.copying.entries_of.Given as goal

abbrev pub invariant-loop-one : goal.invariant-loop-one
invariant-loop-one l = l.entries.items ≡ entries (take l.one-index l.answered)
