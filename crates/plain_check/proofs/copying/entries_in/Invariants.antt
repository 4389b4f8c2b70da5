use Rattle.std.proofs.Common.{◌≡◌, take}
use Rattle.cbdc_model.specs.Replies.{entries}
use Rattle.plain_check.proofs.copying.entries_in.Given as goal

-- those so far
abbrev pub invariant-loop-a : goal.invariant-loop-a
invariant-loop-a l = l.all.items ≡ entries (take l.a-index l.es)
