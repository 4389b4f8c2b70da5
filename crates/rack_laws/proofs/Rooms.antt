-- A record that had room leaves room for what is kept behind it.
use Rattle.std.proofs.Common.{◌≡◌, ◌≢◌, ℕ, ◌+◌, ◌*◌, ◌<◌, ◌≤◌, List, [], ◌∷◌, length, refl, arith}
use Rattle.std.proofs.lemmas.List.Sums.{sum_by-cons}
use Rattle.cbdc_model.specs.Records.{Header, Batch, Compact, Outcome, Record, txs_of, Lock, Finish, Forget, Prepare, Commit, Discard, Done, Upgrade}
use Rattle.cbdc_model.specs.Records.{Seal, lock_of}
use Rattle.cbdc_model.specs.Slots.{slot, InPrepare, InCommit, InDiscard}
use Rattle.cbdc_model.specs.After.{After}
use Rattle.cbdc_model.specs.Room.{size_of, lane_room, kept_room, need_of}
use Rattle.cbdc_model.specs.Due.{used_of}
use Rattle.coord_log.proofs.Places.{commit_size}
use Rattle.shard_node.proofs.Lanes.{same_lane, other_lane, SaysSameOfLane, same_room, past_lock, past_finish, past_forget, locked_room, finished_room}
use Rattle.shard_node.proofs.Lanes.{forgotten_room, room_locked, room_finished, room_idle}
use Rattle.shard_node.proofs.Rooms.{kept_moves}
use Rattle.shard_node.proofs.Follows.{fits_length}

-- of other lanes a coordinator's record says nothing
past_prepare : (J : List Record) (stamp : ℕ) (b : Batch) (txs : List Compact) (lane : ℕ) → b.lane ≢ lane
    → SaysSameOfLane J (Prepare stamp b txs ∷ J) lane
past_prepare J stamp b txs lane apart = let e = other_lane b.lane lane apart in record { slots = rw e refl; locks = λ n. refl; txs = λ n. rw e refl }

past_commit : (J : List Record) (stamp : ℕ) (b : Batch) (os : List Outcome) (lane : ℕ) → b.lane ≢ lane → SaysSameOfLane J (Commit stamp b os ∷ J) lane
past_commit J stamp b os lane apart = let e = other_lane b.lane lane apart in record { slots = rw e refl; locks = λ n. refl; txs = λ n. refl }

past_discard : (J : List Record) (stamp : ℕ) (b : Batch) (lane : ℕ) → b.lane ≢ lane → SaysSameOfLane J (Discard stamp b ∷ J) lane
past_discard J stamp b lane apart = let e = other_lane b.lane lane apart in record { slots = rw e refl; locks = λ n. refl; txs = λ n. refl }

past_done : (J : List Record) (stamp : ℕ) (b : Batch) (lane : ℕ) → b.lane ≢ lane → SaysSameOfLane J (Done stamp b ∷ J) lane
past_done J stamp b lane apart = let e = other_lane b.lane lane apart in record { slots = rw e refl; locks = λ n. refl; txs = λ n. refl }

-- what is kept for its own lane behind it
prepared_room : (J : List Record) (stamp : ℕ) (b : Batch) (txs : List Compact) → lane_room (Prepare stamp b txs ∷ J) b.lane ≡ 110 + 57 * length txs
prepared_room J stamp b txs = let e = same_lane b.lane in let n = same_lane b.number in rw (e, n) refl

committed_room : (J : List Record) (stamp : ℕ) (b : Batch) (os : List Outcome) → lane_room (Commit stamp b os ∷ J) b.lane ≡ 68
committed_room J stamp b os = let e = same_lane b.lane in rw e refl

discarded_room : (J : List Record) (stamp : ℕ) (b : Batch) → lane_room (Discard stamp b ∷ J) b.lane ≡ 34
discarded_room J stamp b = let e = same_lane b.lane in rw e refl

done_room : (J : List Record) (stamp : ℕ) (b : Batch) → lane_room (Done stamp b ∷ J) b.lane ≡ 0
done_room J stamp b = let e = same_lane b.lane in rw e refl

-- and before it
room_prepared : (J : List Record) (b : Batch) → (slot J b.lane).phase ≡ InPrepare → (slot J b.lane).number ≡ b.number
    → lane_room J b.lane ≡ 110 + 57 * length (txs_of J b)
room_prepared J b phase number = rw (phase, number) refl

room_committed : (J : List Record) (lane : ℕ) → (slot J lane).phase ≡ InCommit → lane_room J lane ≡ 68
room_committed J lane phase = rw phase refl

room_discarded : (J : List Record) (lane : ℕ) → (slot J lane).phase ≡ InDiscard → lane_room J lane ≡ 34
room_discarded J lane phase = rw phase refl

moved : (h : Header) (J N : List Record) (lane : ℕ) → ((l : ℕ) → lane ≢ l → SaysSameOfLane J N l) → lane < h.shape.coordinators * h.shape.lanes
    → kept_room h.shape N + lane_room J lane ≡ kept_room h.shape J + lane_room N lane
moved h J N lane others inside = kept_moves J N lane (h.shape.coordinators * h.shape.lanes) (λ l apart. same_room J N l (others l apart)) inside

pub room_behind : (h : Header) (J : List Record) (r : Record) (limit : ℕ) → (J ≡ [] → ⊥) → After h J r → used_of J + kept_room h.shape J ≤ limit
    → used_of J + need_of h.shape J r ≤ limit
    → used_of (r ∷ J) + kept_room h.shape (r ∷ J) ≤ limit
room_behind h J (Lock stamp b es) limit some after room need =
    omega (
      arith,
      moved h J (Lock stamp b es ∷ J) b.lane (λ l apart. past_lock J stamp b es l apart) after.0.1.0,
      room_idle J b.lane after.1.1,
      locked_room J stamp b es,
      need,
      sum_by-cons size_of (Lock stamp b es) J,
    )
room_behind h J (Finish stamp b ds) limit some after room need =
    omega (
      arith,
      moved h J (Finish stamp b ds ∷ J) b.lane (λ l apart. past_finish J stamp b ds l apart) after.0.1.0,
      room_locked J b after.1.1 after.1.2,
      finished_room J stamp b ds,
      fits_length (lock_of J b) ds after.1.3,
      room,
      sum_by-cons size_of (Finish stamp b ds) J,
    )
room_behind h J (Forget stamp b) limit some after room need =
    omega (
      arith,
      moved h J (Forget stamp b ∷ J) b.lane (λ l apart. past_forget J stamp b l apart) after.0.1.0,
      room_finished J b.lane after.1.1,
      forgotten_room J stamp b,
      room,
      sum_by-cons size_of (Forget stamp b) J,
    )
room_behind h J (Prepare stamp b txs) limit some after room need =
    omega (
      arith,
      moved h J (Prepare stamp b txs ∷ J) b.lane (λ l apart. past_prepare J stamp b txs l apart) after.0.1.0,
      room_idle J b.lane after.1.2,
      prepared_room J stamp b txs,
      need,
      sum_by-cons size_of (Prepare stamp b txs) J,
    )
room_behind h J (Commit stamp b os) limit some after room need =
    omega (
      arith,
      moved h J (Commit stamp b os ∷ J) b.lane (λ l apart. past_commit J stamp b os l apart) after.0.1.0,
      room_prepared J b after.1.2 after.1.3,
      committed_room J stamp b os,
      after.1.4,
      commit_size os,
      room,
      sum_by-cons size_of (Commit stamp b os) J,
    )
room_behind h J (Discard stamp b) limit some after room need =
    omega (
      arith,
      moved h J (Discard stamp b ∷ J) b.lane (λ l apart. past_discard J stamp b l apart) after.0.1.0,
      room_committed J b.lane after.1.2,
      discarded_room J stamp b,
      room,
      sum_by-cons size_of (Discard stamp b) J,
    )
room_behind h J (Done stamp b) limit some after room need =
    omega (
      arith,
      moved h J (Done stamp b ∷ J) b.lane (λ l apart. past_done J stamp b l apart) after.0.1.0,
      room_discarded J b.lane after.1.2,
      done_room J stamp b,
      room,
      sum_by-cons size_of (Done stamp b) J,
    )
room_behind h J (Upgrade stamp batch) limit some after room need = absurd after.0
room_behind h J (Seal stamp to shards) limit some after room need = absurd after.0
room_behind h J other limit some after room need = absurd (some after.1)
