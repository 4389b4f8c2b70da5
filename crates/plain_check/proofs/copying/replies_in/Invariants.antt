use Rattle.std.proofs.Common.{◌≡◌, take}
use Rattle.cbdc_model.specs.Replies.{replies}
use Rattle.plain_check.proofs.copying.replies_in.Given as goal

-- those so far
abbrev pub invariant-loop-a : goal.invariant-loop-a
invariant-loop-a l = l.all.items ≡ replies (take l.a-index l.es)
