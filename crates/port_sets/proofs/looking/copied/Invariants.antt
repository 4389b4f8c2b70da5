use Rattle.std.proofs.Common.{◌≡◌, take}
use Rattle.port_sets.proofs.looking.copied.Given as goal

-- those so far
abbrev pub invariant-loop-it : goal.invariant-loop-it
invariant-loop-it l = l.all.items ≡ take l.it-index l.records
