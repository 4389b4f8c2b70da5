use Rattle.std.proofs.Common.{◌≡◌, ◌*◌, length, replicate, None}
use Rattle.std.specs.List.{flat_map, AllByRecursion}
use Rattle.shard_table.proofs.pages.Pages.vacant.Given as goal

abbrev pub invariant-loop-i : goal.invariant-loop-i
invariant-loop-i g l = record {
  rows : AllByRecursion (λ v. length v.items ≡ 256) l.pages.items;
  many : length l.pages.items ≡ l.i;
  vacant : flat_map (λ v. v.items) l.pages.items ≡ replicate (l.i * 256) None;
}
