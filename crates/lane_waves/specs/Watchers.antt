-- An auditor of a wave before and behind its looks, and what it saw.
use Rattle.std.specs.Prelude.{◌≡◌, ℕ, ◌+◌, ◌<◌, ◌^◌, List, [], ◌∷◌, zero, suc, length, reverse}
use Rattle.std.specs.Global.{Vec}
use Rattle.cbdc_model.specs.Records.{Shape, Record}
use Rattle.cbdc_model.specs.Lanes.{IsEnd}
use Rattle.cbdc_model.specs.Ranges.{node_count, shard_node}
use Rattle.cbdc_model.specs.Sights.{Sight}
use Rattle.node_lock.specs.declared.lock.Guarded.{Guarded}
use Rattle.port_sets.specs.declared.coordinators.SharedLog.{SharedLog}
use Rattle.port_sets.specs.declared.locking.SharedShard.{SharedShard}
use Rattle.lane_waves.specs.declared.watching.Watch.{Watch}
use Rattle.lane_waves.specs.declared.watching.Watch.TheVariants.{Off, Saw}
use Rattle.lane_waves.specs.declared.watching.Watcher.{Watcher}
use Rattle.lane_waves.specs.Watching.{AreSeatsOf, HaveLooked, AreAllListed}

-- where an auditor saw something it is so
abbrev pub IfSaw : Watch → (List (Vec Record) → Type 0) → Type 0
IfSaw (Saw lists) P = P lists.items
IfSaw other P = Unit {0}

-- the list at a place
abbrev pub list_at : List (Vec Record) → ℕ → List Record
list_at [] n = []
list_at (l ∷ ls) zero = l.items
list_at (l ∷ ls) (suc n) = list_at ls n

-- a node's records, the oldest first: at least those that it had first, and a beginning of those that it had last
pub record IsBetween (first last : List Record) (list : List Record) : Type 0 where
  pub since : IsEnd first (reverse list)
  pub front : IsEnd (reverse list) last

-- what an auditor saw beside lanes, from these nodes before to these behind: a list for each node, the coordinators' first
pub record HasSeen (K : Shape) (logs shards logs' shards' : ℕ → Sight) (lists : List (Vec Record)) : Type 0 where
  pub many : length lists ≡ node_count K
  pub of_logs : (n : ℕ) → n < K.coordinators → IsBetween (logs n).seen (logs' n).seen (list_at lists n)
  pub of_shards : (s : ℕ) → s < K.shards → IsBetween (shards s).seen (shards' s).seen (list_at lists (shard_node K s))

module _ {D S : Type 0} (gs : List (Guarded (SharedLog D))) (hs : List (Guarded (SharedShard S))) where
  -- it has a seat of each lock, and has seen nothing yet
  pub record CanWatch (w : Watcher D S) : Type 0 where
    pub logs : AreSeatsOf gs w.log_seats.items
    pub shards : AreSeatsOf hs w.shard_seats.items
    pub few : length gs + length hs < 2 ^ 32
    pub none : w.saw ≡ Off

  -- it has looked, as far as there was memory, or not: its seats are of the same locks and have made nothing, and what it saw is what they have seen
  pub record HasWatched (old new : Watcher D S) : Type 0 where
    pub logs : AreSeatsOf gs new.log_seats.items
    pub shards : AreSeatsOf hs new.shard_seats.items
    pub logs_kept : HaveLooked old.log_seats.items new.log_seats.items
    pub shards_kept : HaveLooked old.shard_seats.items new.shard_seats.items
    pub told : IfSaw new.saw (λ lists. AreAllListed lists new.log_seats.items new.shard_seats.items)
