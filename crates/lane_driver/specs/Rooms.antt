-- The memory of a batch, taken before its first call.
use Rattle.std.specs.Prelude.{◌≡◌, ℕ, ◌≤◌, [], length}
use Rattle.std.specs.List.{All}
use Rattle.std.specs.Vec.{vec_capacity, vec_len}
use Rattle.lane_driver.specs.declared.room.BatchRoom.{BatchRoom}
use Rattle.lane_driver.specs.declared.room.LaterRoom.{LaterRoom}
use Rattle.lane_driver.specs.Calls.{shard}
use Rattle.lane_driver.specs.Told.{AreShards}

-- room for the calls behind a Commit at so many shards, with decisions for so many transactions at most
pub record IsLaterRoom (count size : ℕ) (r : LaterRoom) : Type 0 where
  pub no_finishes : r.finishes.items ≡ []
  pub finishes : count ≤ vec_capacity r.finishes
  pub no_forgets : r.forgets.items ≡ []
  pub forgets : count ≤ vec_capacity r.forgets
  pub stamped : count ≤ vec_capacity r.stamped
  pub decisions : All (λ v. (v.items ≡ []) × (size ≤ vec_capacity v)) r.decisions.items
  pub as_many : count ≤ vec_len r.decisions

-- the parts of so many transactions at most, with room for all calls
pub record IsBatchRoom (shards size : ℕ) (r : BatchRoom) : Type 0 where
  pub parts : AreShards shard shards r.parts
  pub small : All (λ p. length p.1 ≤ size) r.parts
  pub no_locks : r.locks.items ≡ []
  pub locks : length r.parts ≤ vec_capacity r.locks
  pub no_replied : r.replied.items ≡ []
  pub replied : length r.parts ≤ vec_capacity r.replied
  pub again : length r.parts ≤ vec_capacity r.again
  pub no_replies : r.replies.items ≡ []
  pub replies : length r.parts ≤ vec_capacity r.replies
  pub outcomes : size ≤ vec_capacity r.outcomes
  pub later : IsLaterRoom (length r.parts) size r.later
