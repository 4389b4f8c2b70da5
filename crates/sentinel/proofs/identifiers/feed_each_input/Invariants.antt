use Rattle.std.proofs.Common.{ℕ, List, ◌++◌, take}
use Rattle.std.specs.List.{flat_map}
use Rattle.sha2.specs.Hashers.{Holds256}
use Rattle.byte_spelling.specs.Spelling.{input}
use Rattle.sentinel.proofs.identifiers.feed_each_input.Given as goal

abbrev pub invariant-items : goal.invariant-items
invariant-items l = (m : List ℕ) → Holds256 l.initial.hasher m → Holds256 l.hasher (m ++ flat_map input (take l.item-index l.items))
