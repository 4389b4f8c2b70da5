use Rattle.std.proofs.Common.{arith, [], ◌∷◌}
use Rattle.std.proofs.lemmas.List.{length-append}
use Rattle.shard_ranges.proofs.Numbers.{numbered_more}
use Rattle.shard_ranges.proofs.parts.concerned.Goals as goal

pub loop-entries-preserved : goal.loop-entries-preserved
loop-entries-preserved c = record {
  count = omega (arith, length-append c.loop-entries.yielded (c.in-Some.entries ∷ []), c.loop-entries.invariant.count);
  found = numbered_more c.loop-entries.shard c.loop-entries.yielded c.in-Some.entries c.loop-entries.found.items c.keep.new.found.items
      c.loop-entries.invariant.count c.loop-entries.invariant.found c.in_ok-keep.ensures;
}
