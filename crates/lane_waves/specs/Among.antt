-- Rows of lanes, and what rows of seats know.
use Rattle.std.specs.Prelude.{ℕ, zero, suc, List, [], ◌∷◌}
use Rattle.std.specs.Global.{Vec}
use Rattle.node_lock.specs.declared.views.Hand.{Hand}
use Rattle.node_lock.specs.declared.seat.Seat.{Seat}
use Rattle.node_lock.specs.Seats.{all_known}

-- the lanes of the lock at a place
abbrev pub lanes_of_lock : List (Vec ℕ) → ℕ → List ℕ
lanes_of_lock [] n = []
lanes_of_lock (r ∷ rs) zero = r.items
lanes_of_lock (r ∷ rs) (suc n) = lanes_of_lock rs n

module _ {N : Type 0} where
  -- what its seats know
  abbrev pub hands_at : List (Vec (Seat N)) → ℕ → List Hand
  hands_at [] n = []
  hands_at (s ∷ ss) zero = all_known s.items
  hands_at (s ∷ ss) (suc n) = hands_at ss n
