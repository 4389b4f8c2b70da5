-- Behind the lanes' runs the seats of a lane's ports are of the wave's locks, each of its shard's.
use Rattle.std.proofs.Common.{◌≡◌, ℕ, suc, ◌+◌, ◌<◌, List, [], ◌∷◌, length, sym, ap, ◌∙◌, arith}
use Rattle.std.specs.Prelude.{All}
use Rattle.std.proofs.lemmas.List.Elements.{All-head, All-tail}
use Rattle.cbdc_model.specs.Records.{Shape}
use Rattle.cbdc_model.specs.Ranges.{shard_node}
use Rattle.cbdc_model.specs.Sights.{Sight}
use Rattle.lane_driver.specs.Told.{AreShardsOf, KeepNodes}
use Rattle.node_lock.specs.declared.lock.Guarded.{Guarded}
use Rattle.node_lock.specs.Seats.{TableId, table_of}
use Rattle.node_ports.specs.Nodes.{sight_at}
use Rattle.port_sets.specs.Nodes.{shard_sight}
use Rattle.port_sets.specs.Seated.{seat_sight}
use Rattle.port_sets.specs.declared.locking.SharedShard.{SharedShard}
use Rattle.port_sets.specs.declared.seated.ShardSeat.{ShardSeat}
use Rattle.port_sets.specs.declared.tables.Locks.{Ghosts}
use Rattle.lane_waves.specs.NodeRows.{AreOf}
use Rattle.lane_waves.specs.Ports.{seats_of, AtTables}

module _ {W S B : Type 0} {G : Ghosts B} (sight : S → Sight) (tables : ℕ → TableId) (K : Shape) where
  abbrev seen : ShardSeat W S B G → Sight
  seen p = seat_sight (shard_sight sight) p.seat

  abbrev At : ShardSeat W S B G → Type 0
  At p = table_of p.guarded.now ≡ tables (seen p).header.node

  at_home : (k : ℕ) (gs : List (Guarded (SharedShard S))) (ps : List (ShardSeat W S B G)) → length ps ≡ length gs → AtTables tables K k gs
      → All (λ p. table_of p.guarded.now ≡ tables (seen p).header.node) ps
      → ((i : ℕ) → i < length ps → (sight_at seen ps i).header.node ≡ shard_node K (k + i)) → AreOf gs (seats_of ps)
  at_home k [] [] e a h n = tt
  at_home k [] (p ∷ ps) e a h n = let z = e in absurd (omega (arith, z))
  at_home k (g ∷ gs) [] e a h n = let z = e in absurd (omega (arith, z))
  at_home k (g ∷ gs) (p ∷ ps) e a h n =
      let zero_more : k + 0 ≡ k = omega arith in
      let here : (seen p).header.node ≡ shard_node K k = n 0 (omega arith) ∙ ap (λ (i : ℕ). shard_node K i) zero_more in
      let more : length ps ≡ length gs = let z = e in omega (arith, z) in (
        p.own.0 ∙ (All-head At p ps h ∙ (ap tables here ∙ a.0)),
        at_home (suc k) gs ps more a.1 (All-tail At p ps h)
            (λ i le. let s : k + suc i ≡ suc k + i = omega arith in n (suc i) (omega (arith, le)) ∙ ap (λ (i : ℕ). shard_node K i) s),
      )

  -- they are those that the lane had, since no header changes
  pub all_home : (gs : List (Guarded (SharedShard S))) (ps qs : List (ShardSeat W S B G)) → length ps ≡ K.shards → length qs ≡ length ps
      → length gs ≡ K.shards → AtTables tables K 0 gs
      → AreShardsOf K (sight_at seen ps) → KeepNodes (sight_at seen ps) (sight_at seen qs)
      → All (λ q. table_of q.guarded.now ≡ tables (seen q).header.node) qs → AreOf gs (seats_of qs)
  all_home gs ps qs many same all a ledger kept h =
      at_home 0 gs qs (same ∙ (many ∙ sym all)) a h
      (λ i le. let inside : i < K.shards = omega (arith, le, same, many) in let zero : 0 + i ≡ i = omega arith in
      ap (λ k. k.node) (kept i).header ∙ ((ledger i inside).1 ∙ ap (λ (j : ℕ). shard_node K j) (sym zero)))
