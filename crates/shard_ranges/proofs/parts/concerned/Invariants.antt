use Rattle.std.proofs.Common.{◌≡◌, length}
use Rattle.shard_ranges.specs.Parts.{numbered}
use Rattle.shard_ranges.proofs.parts.concerned.Given as goal

-- those that were concerned so far
abbrev pub invariant-loop-entries : goal.invariant-loop-entries
invariant-loop-entries l = record {
  count : l.shard ≡ length l.yielded;
  found : l.found.items ≡ numbered 0 l.yielded;
}
