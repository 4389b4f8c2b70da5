-- What a group of at most four members keeps, so that its numbers fit.
use Rattle.std.specs.Prelude.{◌≡◌, ℕ, ◌+◌, ◌<◌, ◌≤◌, Bool, true, false, List, [], ◌∷◌, length, slice_index_or}
use Rattle.shard_replica.specs.Groups.{Member, no_member}

-- one, where it is so
abbrev pub one_if : Bool → ℕ
one_if true = 1
one_if false = 0

-- how many members are in the group
abbrev pub inside_count : List Member → ℕ
inside_count [] = 0
inside_count (m ∷ ms) = one_if m.inside + inside_count ms

-- the primary is in the group, and each promotion has had one leave of at most four members: so the term is 4 at most
pub record IsSmall (primary term : ℕ) (members : List Member) (known : ℕ) : Type 0 where
  pub is_there : primary < length members
  pub is_inside : (slice_index_or members primary no_member).inside ≡ true
  pub are_few : length members ≤ 4
  pub few_known : known ≤ 4
  pub low : term + inside_count members ≤ 5
