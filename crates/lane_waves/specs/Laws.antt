-- What lists of locks and of nodes come to, place by place.
use Rattle.std.specs.Prelude.{ℕ, ◌<◌, List, [], ◌∷◌, length}
use Rattle.std.specs.Global.{Vec}
use Rattle.cbdc_model.specs.Sights.{Sight}
use Rattle.node_lock.specs.declared.lock.Guarded.{Guarded}
use Rattle.node_lock.specs.declared.seat.Seat.{Seat}
use Rattle.node_ports.specs.Nodes.{sight_at}
use Rattle.thread_laws.specs.Running.{NodeRan, IsStillSight}
use Rattle.lane_waves.specs.NodeRows.{AreLocked, AreClosed, AreStill}
use Rattle.lane_waves.specs.Among.{lanes_of_lock, hands_at}

module _ {N : Type 0} (sight : N → Sight) (goes : N → N → Type 0) where
  -- nodes that were locked and closed have run, each with the lanes of its row and the hands of its seats
  abbrev pub NodesRanLaw : Type 0
  NodesRanLaw = (nodes : List N) (rows : List (Vec ℕ)) (locks : List (Guarded N)) (first last : List (Vec (Seat N))) (closed : List N)
      → AreLocked sight nodes rows locks first → AreClosed sight goes locks last closed
      → (n : ℕ) → n < length nodes → NodeRan (sight_at sight nodes n) (lanes_of_lock rows n) (hands_at last n) (sight_at sight closed n)

  -- nodes that were asked nothing are still
  abbrev pub NodesStillLaw : Type 0
  NodesStillLaw = (old new : List N) → AreStill sight goes old new → (n : ℕ) → n < length old
      → IsStillSight (sight_at sight old n) (sight_at sight new n)

  -- each went on from its state at the opening
  abbrev pub WentOn : List N → List N → Type 0
  WentOn [] [] = Unit {0}
  WentOn (x ∷ xs) (y ∷ ys) = goes x y × WentOn xs ys
  WentOn xs ys = ⊥

  -- so it is behind the closing, and where nothing was asked
  abbrev pub HeldLaw : Type 0
  HeldLaw = ((nodes : List N) (rows : List (Vec ℕ)) (locks : List (Guarded N)) (first last : List (Vec (Seat N))) (closed : List N)
      → AreLocked sight nodes rows locks first → AreClosed sight goes locks last closed → WentOn nodes closed)
      × ((old new : List N) → AreStill sight goes old new → WentOn old new)
