use Rattle.std.proofs.Common.{◌≡◌, take}
use Rattle.plain_check.proofs.copying.copy_of_records.Given as goal

-- those so far
abbrev pub invariant-loop-x : goal.invariant-loop-x
invariant-loop-x l = l.all.items ≡ take l.x-index l.xs
