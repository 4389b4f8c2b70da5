use Rattle.std.proofs.Common.{◌≡◌, take}
use Rattle.cbdc_model.specs.Replies.{entries, replies}
use Rattle.shard_core.proofs.copying.answered.Given as goal

abbrev pub invariant-loop-at : goal.invariant-loop-at
invariant-loop-at l = record {
  entries : entries l.entries.items ≡ take l.at l.part;
  replies : replies l.entries.items ≡ take l.at l.replies;
}
