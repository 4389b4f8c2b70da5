use Rattle.std.proofs.Common.{◌≡◌, take}
use Rattle.node_rows.proofs.ledgers.copied.Given as goal

-- those so far
abbrev pub invariant-loop-own : goal.invariant-loop-own
invariant-loop-own l = l.all.items ≡ take l.own-index l.records
