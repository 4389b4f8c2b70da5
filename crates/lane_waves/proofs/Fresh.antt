-- A lane's fresh seats are seats of the locks, as its ports want them.
use Rattle.std.proofs.Common.{ℕ, List, [], ◌∷◌}
use Rattle.cbdc_model.specs.Sights.{Sight}
use Rattle.node_lock.specs.declared.lock.Guarded.{Guarded}
use Rattle.node_lock.specs.declared.seat.Seat.{Seat}
use Rattle.port_sets.specs.declared.locking.SharedShard.{SharedShard}
use Rattle.lane_waves.specs.NodeRows.{AreDealt}
use Rattle.lane_waves.specs.Ports.{AreSeated}

pub all_seated : {S : Type 0} (sight : SharedShard S → Sight) (l : ℕ) (gs : List (Guarded (SharedShard S))) (ss : List (Seat (SharedShard S)))
    → AreDealt sight l gs ss → AreSeated gs ss
all_seated sight l [] [] k = tt
all_seated sight l [] (s ∷ ss) k = absurd k
all_seated sight l (g ∷ gs) [] k = absurd k
all_seated sight l (g ∷ gs) (s ∷ ss) k = ((k.0.0, k.0.1), all_seated sight l gs ss k.1)
