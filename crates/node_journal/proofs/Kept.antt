-- How much is kept free for unfinished batches at most.
use Rattle.std.proofs.Common.{◌≡◌, ℕ, zero, suc, ◌+◌, ◌*◌, ◌^◌, ◌≤◌, ◌<◌, true, false, List, [], ◌∷◌, length, All, refl, arith, mul-le-mul_left}
use Rattle.std.proofs.lemmas.List.Elements.{All-head, All-tail}
use Rattle.cbdc_types.specs.Limits.{IsWithinLimits}
use Rattle.cbdc_model.specs.Records.{Header, Batch, Record, lock_of, txs_of, same_batch, Lock, Prepare}
use Rattle.cbdc_model.specs.Slots.{Phase, slot, Idle, InLock, InFinish, InPrepare, InCommit, InDiscard}
use Rattle.cbdc_model.specs.Grammar.{IsInGrammar}
use Rattle.cbdc_model.specs.Room.{lane_room, room_in, kept_below, kept_room}
use Rattle.cbdc_model.specs.Due.{open_batch}

pub lock_few : (h : Header) (J : List Record) (b : Batch) → All (IsInGrammar h) J → length (lock_of J b) ≤ h.shape.batch
lock_few h [] b all = omega arith
lock_few h (Lock stamp c es ∷ J) b all =
    elim (same_batch c b) as (λ t. same_batch c b ≡ t → length (lock_of (Lock stamp c es ∷ J) b) ≤ h.shape.batch) [
      | true ↦ λ e. rw e (All-head (IsInGrammar h) (Lock stamp c es) J all).3.1
      | false ↦ λ e. rw e (lock_few h J b (All-tail (IsInGrammar h) (Lock stamp c es) J all))
    ] refl
lock_few h (other ∷ J) b all = lock_few h J b (All-tail (IsInGrammar h) other J all)

txs_few : (h : Header) (J : List Record) (b : Batch) → All (IsInGrammar h) J → length (txs_of J b) ≤ h.shape.batch
txs_few h [] b all = omega arith
txs_few h (Prepare stamp c txs ∷ J) b all =
    elim (same_batch c b) as (λ t. same_batch c b ≡ t → length (txs_of (Prepare stamp c txs ∷ J) b) ≤ h.shape.batch) [
      | true ↦ λ e. rw e (All-head (IsInGrammar h) (Prepare stamp c txs) J all).3.1
      | false ↦ λ e. rw e (txs_few h J b (All-tail (IsInGrammar h) (Prepare stamp c txs) J all))
    ] refl
txs_few h (other ∷ J) b all = txs_few h J b (All-tail (IsInGrammar h) other J all)

room_few : (p : Phase) (m n k : ℕ) → m ≤ k → n ≤ k → room_in p m n ≤ 110 + 57 * k
room_few Idle m n k le re = omega arith
room_few InLock m n k le re = omega arith
room_few InFinish m n k le re = omega arith
room_few InPrepare m n k le re = omega arith
room_few InCommit m n k le re = omega arith
room_few InDiscard m n k le re = omega arith

pub lane_few : (h : Header) (J : List Record) (lane : ℕ) → IsWithinLimits h.shape → All (IsInGrammar h) J → lane_room J lane ≤ 65536
lane_few h J lane limits all =
    omega (
      arith,
      limits.batch,
      room_few (slot J lane).phase (length (lock_of J (open_batch J lane))) (length (txs_of J (open_batch J lane))) h.shape.batch
          (lock_few h J (open_batch J lane) all) (txs_few h J (open_batch J lane) all),
    )

kept_few : (h : Header) (J : List Record) (n : ℕ) → IsWithinLimits h.shape → All (IsInGrammar h) J → kept_below J n ≤ n * 65536
kept_few h J zero limits all = omega arith
kept_few h J (suc n) limits all = omega (arith, kept_few h J n limits all, lane_few h J n limits all)

-- less than 32 MiB is kept
pub kept_small : (h : Header) (J : List Record) → IsWithinLimits h.shape → All (IsInGrammar h) J → kept_room h.shape J < 2 ^ 25
kept_small h J limits all =
    let lanes : h.shape.coordinators * h.shape.lanes ≤ 256 = lanes_few h.shape.coordinators h.shape.lanes limits.coordinators limits.lanes in
    omega (arith, kept_few h J (h.shape.coordinators * h.shape.lanes) limits all, lanes)
  where
    lanes_few : (m n : ℕ) → m ≤ 16 → n ≤ 16 → m * n ≤ 256
    lanes_few m n mle nle = omega (arith, mul-le-mul_left m nle, mle)
