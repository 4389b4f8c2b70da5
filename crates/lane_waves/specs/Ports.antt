-- A lane's seats, and its ports to the shards.
use Rattle.std.specs.Prelude.{◌≡◌, ℕ, suc, List, [], ◌∷◌}
use Rattle.cbdc_model.specs.Records.{Shape}
use Rattle.cbdc_model.specs.Ranges.{shard_node}
use Rattle.node_lock.specs.declared.lock.Guarded.{Guarded}
use Rattle.node_lock.specs.declared.seat.Seat.{Seat}
use Rattle.node_lock.specs.Seats.{TableId, IsSeatOf, table_of}
use Rattle.port_sets.specs.declared.locking.SharedShard.{SharedShard}
use Rattle.port_sets.specs.declared.seated.ShardSeat.{ShardSeat}
use Rattle.port_sets.specs.declared.tables.Locks.{Ghosts}

module _ {S : Type 0} where
  -- one of each lock, in order
  abbrev pub AreSeated : List (Guarded (SharedShard S)) → List (Seat (SharedShard S)) → Type 0
  AreSeated [] [] = Unit {0}
  AreSeated (g ∷ gs) (s ∷ ss) = IsSeatOf g s × AreSeated gs ss
  AreSeated gs ss = ⊥

module _ {W S B : Type 0} {G : Ghosts B} where
  -- a port over the seat
  pub record IsPort (g : Guarded (SharedShard S)) (s : Seat (SharedShard S)) (p : ShardSeat W S B G) : Type 0 where
    pub guarded : p.guarded.now ≡ g
    pub seat : p.seat ≡ s

  -- one over each
  abbrev pub ArePorts : List (Guarded (SharedShard S)) → List (Seat (SharedShard S)) → List (ShardSeat W S B G) → Type 0
  ArePorts [] [] [] = Unit {0}
  ArePorts (g ∷ gs) (s ∷ ss) (p ∷ ps) = IsPort g s p × ArePorts gs ss ps
  ArePorts gs ss ps = ⊥

  -- these ports tell gates the numbers of nodes from this one on
  abbrev pub AreNumbered : ℕ → List (ShardSeat W S B G) → Type 0
  AreNumbered n [] = Unit {0}
  AreNumbered n (p ∷ ps) = (p.node ≡ n) × AreNumbered (suc n) ps

  -- the seats of the ports, in order
  abbrev pub seats_of : List (ShardSeat W S B G) → List (Seat (SharedShard S))
  seats_of [] = []
  seats_of (p ∷ ps) = p.seat ∷ seats_of ps

module _ {S : Type 0} where
  -- the wave's picks for the shards from the k-th on are these locks
  abbrev pub AtTables : (ℕ → TableId) → Shape → ℕ → List (Guarded (SharedShard S)) → Type 0
  AtTables tables K k [] = Unit {0}
  AtTables tables K k (g ∷ gs) = (tables (shard_node K k) ≡ table_of g) × AtTables tables K (suc k) gs
