-- What stays of a rack at the other places, while disks are taken out of it and put back.
use Rattle.std.specs.Prelude.{◌≡◌, ◌≤◌, ◌<◌, ℕ}
use Rattle.outside.specs.declared.rack.Rack.{Ghosts}
use Rattle.rack_ledgers.specs.Places.{IsOutsideRange}

-- at the places outside a range the rack holds what it held, what might be taken may be taken, and what might be put back may be; and at no place,
-- inside or outside, has the count of faults fallen
pub record KeepsOthers {R D : Type 0} (rack : Ghosts R D) (first behind : ℕ) (old new : R) : Type 0 where
  pub held : (n : ℕ) → IsOutsideRange first behind n → rack.held new n ≡ rack.held old n
  pub takes : (n : ℕ) → IsOutsideRange first behind n → rack.can_take old n → rack.can_take new n
  pub puts : (n k : ℕ) → IsOutsideRange first behind n → rack.can_put old n k → rack.can_put new n k
  pub later : (n : ℕ) → rack.count old n ≤ rack.count new n

-- at the places of a range no disk was taken: the rack holds what it held, and what might be taken may be taken
pub record KeepsDisks {R D : Type 0} (rack : Ghosts R D) (first behind : ℕ) (old new : R) : Type 0 where
  pub held : (n : ℕ) → first ≤ n → n < behind → rack.held new n ≡ rack.held old n
  pub takes : (n : ℕ) → first ≤ n → n < behind → rack.can_take old n → rack.can_take new n
