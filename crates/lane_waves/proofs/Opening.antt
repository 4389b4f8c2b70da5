-- Locks round all nodes, as their lanes find them.
use Rattle.std.proofs.Common.{◌≡◌, ℕ, zero, suc, ◌+◌, ◌-◌, ◌*◌, ◌<◌, ◌≤◌, nat_lt, if◌then◌else◌, true, false, List, [], ◌∷◌, map, length, Some, None}
use Rattle.std.proofs.Common.{refl, sym, ap, ◌∙◌, subst, arith}
use Rattle.std.specs.Prelude.{All, slice_get}
use mathlib.Core.Path.{fun_ext}
use Rattle.std.specs.Global.{Vec}
use Rattle.std.proofs.lemmas.List.Elements.{All-head, All-tail}
use Rattle.cbdc_types.specs.Limits.{IsWithinLimits}
use Rattle.cbdc_model.specs.Records.{Shape}
use Rattle.cbdc_model.specs.Ranges.{home_of, shard_node}
use Rattle.cbdc_model.specs.Sights.{Sight}
use Rattle.lane_driver.specs.Stops.{IsLaneSettled}
use Rattle.node_lock.specs.declared.lock.Guarded.{Guarded}
use Rattle.node_lock.specs.declared.seat.Seat.{Seat}
use Rattle.node_lock.specs.Seats.{TableId, AreFresh, opening_of, table_of}
use Rattle.node_ports.specs.Nodes.{sight_at}
use Rattle.port_sets.specs.Seated.{no_table}
use Rattle.port_sets.specs.Nodes.{shard_sight, log_sight}
use Rattle.port_sets.specs.declared.coordinators.SharedLog.{SharedLog}
use Rattle.port_sets.specs.declared.locking.SharedShard.{SharedShard}
use Rattle.lane_waves.specs.NodeRows.{AreLocked, lanes_of}
use Rattle.lane_waves.proofs.Locking.{fresh_at}
use Rattle.lane_waves.specs.Ports.{AtTables}
use Rattle.lane_waves.specs.Places.{AllFrom, BothFrom}
use Rattle.lane_waves.specs.Rows.{lanes_from, home_lanes, all_lanes}
use Rattle.lane_waves.specs.Deals.{IsOpenNodeAt, AreLocksOpen, log_at, shard_at, IsHomeFresh}
use Rattle.lane_waves.specs.Waves.{AreNodesOf}
use Rattle.lane_waves.proofs.Places.{all_from, both_at, get_within, get_there}
use Rattle.lane_waves.proofs.Numbers.{many_lanes}

-- what is seen at a place
pub seen_get : {N : Type 0} (sight : N → Sight) (xs : List N) (n : ℕ) (x : N) → slice_get xs n ≡ Some x
    → (sight_at sight xs n ≡ sight x) × (n < length xs)
seen_get sight [] n x e = absurd (let z : None ≡ Some x = e in cc)
seen_get sight (y ∷ xs) zero x e = let same : y ≡ x = let z : Some y ≡ Some x = e in cc in (ap sight same, omega arith)
seen_get sight (y ∷ xs) (suc n) x e = let m = seen_get sight xs n x e in let lt = m.1 in (m.0, omega (arith, lt))

pub seen_map : {M N : Type 0} (f : M → N) (sight : N → Sight) (xs : List M) (n : ℕ) → sight_at (λ x. sight (f x)) xs n ≡ sight_at sight (map f xs) n
seen_map f sight [] n = refl
seen_map f sight (x ∷ xs) zero = refl
seen_map f sight (x ∷ xs) (suc n) = seen_map f sight xs n

pub seen_maps : {M N : Type 0} (f : M → N) (sight : N → Sight) (xs : List M) (ys : List N) → map f xs ≡ ys
    → sight_at (λ x. sight (f x)) xs ≡ sight_at sight ys
seen_maps f sight xs ys e = fun_ext (λ n. seen_map f sight xs n ∙ ap (λ zs. sight_at sight zs n) e)

pub map_many : {M N : Type 0} (f : M → N) (xs : List M) → length (map f xs) ≡ length xs
map_many f [] = refl
map_many f (x ∷ xs) = let e = map_many f xs in omega (arith, e)

module _ {N : Type 0} (sight : N → Sight) where
  pub openings : (ns : List N) (rs : List (Vec ℕ)) (gs : List (Guarded N)) (ss : List (Vec (Seat N))) → AreLocked sight ns rs gs ss
      → map opening_of gs ≡ ns
  openings [] [] [] [] k = refl
  openings [] [] [] (s ∷ ss) k = absurd k
  openings [] [] (g ∷ gs) ss k = absurd k
  openings [] (r ∷ rs) gs ss k = absurd k
  openings (n ∷ ns) [] gs ss k = absurd k
  openings (n ∷ ns) (r ∷ rs) [] ss k = absurd k
  openings (n ∷ ns) (r ∷ rs) (g ∷ gs) [] k = absurd k
  openings (n ∷ ns) (r ∷ rs) (g ∷ gs) (s ∷ ss) k = ap (λ x. x ∷ map opening_of gs) k.0.node ∙ ap (λ xs. n ∷ xs) (openings ns rs gs ss k.1)

  -- as many seats as locks
  pub seats_many : (ns : List N) (rs : List (Vec ℕ)) (gs : List (Guarded N)) (ss : List (Vec (Seat N))) → AreLocked sight ns rs gs ss
      → length ss ≡ length gs
  seats_many [] [] [] [] k = refl
  seats_many [] [] [] (s ∷ ss) k = absurd k
  seats_many [] [] (g ∷ gs) ss k = absurd k
  seats_many [] (r ∷ rs) gs ss k = absurd k
  seats_many (n ∷ ns) [] gs ss k = absurd k
  seats_many (n ∷ ns) (r ∷ rs) [] ss k = absurd k
  seats_many (n ∷ ns) (r ∷ rs) (g ∷ gs) [] k = absurd k
  seats_many (n ∷ ns) (r ∷ rs) (g ∷ gs) (s ∷ ss) k = let e = seats_many ns rs gs ss k.1 in omega (arith, e)

  abbrev pub FreshAt : (ℕ → List ℕ) → ℕ → Guarded N → Vec (Seat N) → Type 0
  FreshAt lanes k g s = AreFresh (sight (opening_of g)) (opening_of g) (table_of g) (lanes k) s.items × (lanes_of g ≡ lanes k)

  -- each lock's seats are those of the lanes that it was made for
  pub are_fresh : (lanes : ℕ → List ℕ) (k : ℕ) (ns : List N) (rs : List (Vec ℕ)) (gs : List (Guarded N)) (ss : List (Vec (Seat N)))
      → AllFrom (λ j r. r.items ≡ lanes j) k rs → AreLocked sight ns rs gs ss → BothFrom (FreshAt lanes) k gs ss
  are_fresh lanes k [] [] [] [] a l = tt
  are_fresh lanes k [] [] [] (s ∷ ss) a l = absurd l
  are_fresh lanes k [] [] (g ∷ gs) ss a l = absurd l
  are_fresh lanes k [] (r ∷ rs) gs ss a l = absurd l
  are_fresh lanes k (n ∷ ns) [] gs ss a l = absurd l
  are_fresh lanes k (n ∷ ns) (r ∷ rs) [] ss a l = absurd l
  are_fresh lanes k (n ∷ ns) (r ∷ rs) (g ∷ gs) [] a l = absurd l
  are_fresh lanes k (n ∷ ns) (r ∷ rs) (g ∷ gs) (s ∷ ss) a l = (
    (
      subst (λ xs. AreFresh (sight (opening_of g)) (opening_of g) (table_of g) xs s.items) a.0
          (subst (λ o. AreFresh (sight o) o (table_of g) r.items s.items) (sym l.0.node) l.0.seats),
      l.0.lanes_are ∙ a.0,
    ),
    are_fresh lanes (suc k) ns rs gs ss a.1 l.1,
  )

-- the lanes of each lock
pub lanes_are : {N : Type 0} (sight : N → Sight) (lanes : ℕ → List ℕ) (k : ℕ) (gs : List (Guarded N)) (ss : List (Vec (Seat N)))
    → BothFrom (FreshAt sight lanes) k gs ss → AllFrom (λ n g. lanes_of g ≡ lanes n) k gs
lanes_are sight lanes k [] ss b = tt
lanes_are sight lanes k (g ∷ gs) [] b = absurd b
lanes_are sight lanes k (g ∷ gs) (s ∷ ss) b = (b.0.1, lanes_are sight lanes (suc k) gs ss b.1)

-- the table of the lock at a place
abbrev pub table_at : {N : Type 0} → List (Guarded N) → ℕ → TableId
table_at [] n = no_table
table_at (g ∷ gs) zero = table_of g
table_at (g ∷ gs) (suc n) = table_at gs n

table_get : {N : Type 0} (gs : List (Guarded N)) (n : ℕ) (g : Guarded N) → slice_get gs n ≡ Some g → (table_at gs n ≡ table_of g) × (n < length gs)
table_get [] n g e = absurd (let z : None ≡ Some g = e in cc)
table_get (h ∷ gs) zero g e = let same : h ≡ g = let z : Some h ≡ Some g = e in cc in (ap table_of same, omega arith)
table_get (h ∷ gs) (suc n) g e = let m = table_get gs n g e in let lt = m.1 in (m.0, omega (arith, lt))

-- the wave's picks: the locks of the coordinators, and then those of the shards
abbrev pub tables_of : {D S : Type 0} → ℕ → List (Guarded (SharedLog D)) → List (Guarded (SharedShard S)) → ℕ → TableId
tables_of first gs hs n = if nat_lt n first then table_at gs n else table_at hs (n - first)

pick_low : (n m : ℕ) → n < m → nat_lt n m ≡ true
pick_low n m lt = grind (arith, lt)

pick_high : (n m : ℕ) → nat_lt (m + n) m ≡ false
pick_high n m = grind arith

module _ {D S : Type 0} (sight : S → Sight) (K : Shape) (gs : List (Guarded (SharedLog D))) (hs : List (Guarded (SharedShard S))) where
  pub log_tables : length gs ≡ K.coordinators → AllFrom (λ n g. tables_of K.coordinators gs hs n ≡ table_of g) 0 gs
  log_tables many = all_from (λ n g. tables_of K.coordinators gs hs n ≡ table_of g) 0 gs (λ i g e.
      let m = table_get gs i g e in
      let lt = m.1 in
      let low : 0 + i < K.coordinators = omega (arith, lt, many) in
      let same : 0 + i ≡ i = omega arith in
      ap (λ b. if b then table_at gs (0 + i) else table_at hs (0 + i - K.coordinators)) (pick_low (0 + i) K.coordinators low)
      ∙ (ap (λ j. table_at gs j) same ∙ m.0))

  at_tables : (tables : ℕ → TableId) (k : ℕ) (ls : List (Guarded (SharedShard S)))
      → ((i : ℕ) (h : Guarded (SharedShard S)) → slice_get ls i ≡ Some h → tables (shard_node K (k + i)) ≡ table_of h) → AtTables tables K k ls
  at_tables tables k [] f = tt
  at_tables tables k (l ∷ ls) f =
      let none : k + 0 ≡ k = omega arith in (
        subst (λ n. tables (shard_node K n) ≡ table_of l) none (f 0 l refl),
        at_tables tables (suc k) ls (λ i h e. let more : k + suc i ≡ suc k + i = omega arith in
            subst (λ n. tables (shard_node K n) ≡ table_of h) more (f (suc i) h e)),
      )

  pub shard_tables : AtTables (tables_of K.coordinators gs hs) K 0 hs
  shard_tables = at_tables (tables_of K.coordinators gs hs) 0 hs (λ i h e.
      let m = table_get hs i h e in
      let same : K.coordinators + (0 + i) - K.coordinators ≡ i = omega arith in
      ap (λ b. if b then table_at gs (K.coordinators + (0 + i)) else table_at hs (K.coordinators + (0 + i) - K.coordinators))
      (pick_high (0 + i) K.coordinators) ∙ (ap (λ j. table_at hs j) same ∙ m.0))

  module _ (ns : List (SharedLog D)) (ms : List (SharedShard S)) (logs_are : map opening_of gs ≡ ns) (shards_are : map opening_of hs ≡ ms) where
    pub logs_at : log_at gs ≡ sight_at log_sight ns
    logs_at = seen_maps opening_of log_sight gs ns logs_are

    pub shards_at : shard_at sight hs ≡ sight_at (shard_sight sight) ms
    shards_at = seen_maps opening_of (shard_sight sight) hs ms shards_are

    since_at : {N : Type 0} (sight : N → Sight) (xs : List N) (n : ℕ) → All (λ x. (sight x).opened ≤ (sight x).faults) xs → n < length xs
        → (sight_at sight xs n).opened ≤ (sight_at sight xs n).faults
    since_at sight [] n a lt = absurd (let z : n < 0 = lt in omega (arith, z))
    since_at sight (x ∷ xs) zero a lt = All-head (λ x. (sight x).opened ≤ (sight x).faults) x xs a
    since_at sight (x ∷ xs) (suc n) a lt = since_at sight xs n (All-tail (λ x. (sight x).opened ≤ (sight x).faults) x xs a) (omega (arith, lt))

    pub are_open : IsWithinLimits K → length ns ≡ K.coordinators → length ms ≡ K.shards
        → AreNodesOf K (sight_at log_sight ns) (sight_at (shard_sight sight) ms)
        → All (λ l. (log_sight l).opened ≤ (log_sight l).faults) ns → All (λ s. (shard_sight sight s).opened ≤ (shard_sight sight s).faults) ms
        → ((lane : ℕ) → lane < K.coordinators * K.lanes
        → IsLaneSettled K lane (sight_at log_sight ns (home_of K lane)) (sight_at (shard_sight sight) ms))
        → AllFrom (λ n g. lanes_of g ≡ home_lanes K n) 0 gs → AllFrom (λ s h. lanes_of h ≡ all_lanes K) 0 hs
        → AreLocksOpen sight (tables_of K.coordinators gs hs) K gs hs
    are_open limits logs_many shards_many ledger logs_since shards_since settled log_lanes shard_lanes =
        let gs_many : length gs ≡ length ns = sym (map_many opening_of gs) ∙ ap (λ (xs : List (SharedLog D)). length xs) logs_are in
        let hs_many : length hs ≡ length ms = sym (map_many opening_of hs) ∙ ap (λ (xs : List (SharedShard S)). length xs) shards_are in
        record {
          limits = limits;
          logs_many = gs_many ∙ logs_many;
          shards_many = hs_many ∙ shards_many;
          logs = all_from (λ n g. IsOpenNodeAt K n (log_sight (opening_of g))) 0 gs (λ i g e.
              let m = seen_get (λ x. log_sight (opening_of x)) gs i g e in
              let is : sight_at log_sight ns i ≡ log_sight (opening_of g) = sym (ap (λ f. f i) logs_at) ∙ m.0 in
              let lt = m.1 in
              let low : i < K.coordinators = omega (arith, lt, gs_many, logs_many) in
              let within : i < length ns = omega (arith, lt, gs_many) in
              let zero_more : i ≡ 0 + i = omega arith in
              let at = ledger.logs_are i low in
              subst (λ s. IsOpenNodeAt K (0 + i) s) is
              (record { shape = at.0; node = at.1 ∙ zero_more; since = since_at log_sight ns i logs_since within }));
          shards = all_from (λ s h. IsOpenNodeAt K (shard_node K s) (shard_sight sight (opening_of h))) 0 hs (λ i h e.
              let m = seen_get (λ x. shard_sight sight (opening_of x)) hs i h e in
              let is : sight_at (shard_sight sight) ms i ≡ shard_sight sight (opening_of h) = sym (ap (λ f. f i) shards_at) ∙ m.0 in
              let lt = m.1 in
              let low : i < K.shards = omega (arith, lt, hs_many, shards_many) in
              let within : i < length ms = omega (arith, lt, hs_many) in
              let zero_more : i ≡ 0 + i = omega arith in
              let at = ledger.shards_are i low in
              subst (λ s. IsOpenNodeAt K (shard_node K (0 + i)) s) is
              (record {
                shape = at.0;
                node = at.1 ∙ ap (λ (j : ℕ). shard_node K j) zero_more;
                since = since_at (shard_sight sight) ms i shards_since within;
              }));
          settled = λ lane lt. subst (λ f. IsLaneSettled K lane (f (home_of K lane)) (shard_at sight hs)) (sym logs_at)
              (subst (λ f. IsLaneSettled K lane (sight_at log_sight ns (home_of K lane)) f) (sym shards_at) (settled lane lt));
          log_lanes = log_lanes;
          shard_lanes = shard_lanes;
          log_tables = log_tables (gs_many ∙ logs_many);
          shard_tables = shard_tables;
        }

-- a coordinator's seats are those of its lanes
pub homes_fresh : {D : Type 0} (K : Shape) (gs : List (Guarded (SharedLog D))) (ss : List (Vec (Seat (SharedLog D))))
    → BothFrom (FreshAt log_sight (home_lanes K)) 0 gs ss → length ss ≡ length gs → AllFrom (IsHomeFresh K gs) 0 ss
homes_fresh K gs ss b many = all_from (IsHomeFresh K gs) 0 ss (λ i s e.
    let whole : (g : _) → slice_get gs (0 + i) ≡ Some g
    → AreFresh (log_sight (opening_of g)) (opening_of g) (table_of g) (home_lanes K (0 + i)) s.items =
    λ g there. let same : 0 + i ≡ i = omega arith in
    (both_at (FreshAt log_sight (home_lanes K)) 0 gs ss i g s b (subst (λ (j : ℕ). slice_get gs j ≡ Some g) same there) e).0 in
    let lt = (get_within ss i s e) in
    let got = get_there gs i (omega (arith, lt, many)) in
    let same : i ≡ 0 + i = omega arith in
    let n : length s.items ≡ K.lanes = (fresh_at log_sight (log_sight (opening_of got.0)) (opening_of got.0) got.0 (home_lanes K (0 + i)) s.items
    (whole got.0 (subst (λ (j : ℕ). slice_get gs j ≡ Some got.0) same got.1))).1 ∙ many_lanes ((0 + i) * K.lanes) K.lanes in (
      n,
      λ g there. subst (λ m. AreFresh (log_sight (opening_of g)) (opening_of g) (table_of g) (lanes_from ((0 + i) * K.lanes) m) s.items) (sym n)
          (whole g there),
    ))
