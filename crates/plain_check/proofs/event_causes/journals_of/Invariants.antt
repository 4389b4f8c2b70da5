use Rattle.std.proofs.Common.{◌≡◌, map, take}
use Rattle.plain_check.proofs.event_causes.journals_of.Given as goal

abbrev pub invariant-loop-own : goal.invariant-loop-own
invariant-loop-own l = l.all.items ≡ map (λ n. n.journal) (take l.own-index l.nodes)
