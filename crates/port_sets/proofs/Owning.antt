-- The record that a node owes to a call is of the call's lane, so each answer is one of the three steps.
use Rattle.std.proofs.Common.{◌≡◌, ℕ, ◌+◌, ◌==◌, nat_lt, true, false, List, Result, Err, sym, subst, arith}
use Rattle.cbdc_types.specs.declared.calls.LockCall.{LockCall}
use Rattle.cbdc_types.specs.declared.calls.FinishCall.{FinishCall}
use Rattle.cbdc_types.specs.declared.calls.ForgetCall.{ForgetCall}
use Rattle.cbdc_types.specs.declared.calls.Replied.{Replied}
use Rattle.cbdc_types.specs.declared.calls.NodeFault.{NodeFault}
use Rattle.cbdc_types.specs.declared.calls.NodeFault.TheVariants.{ClockEnd, Full}
use Rattle.cbdc_model.specs.Records.{Shape, Batch, Compact, Record, is_in_lane, Finish, Forget}
use Rattle.cbdc_model.specs.Next.{next_stamp, next_lock, next_finish, next_forget}
use Rattle.cbdc_model.specs.Due.{Due, Answers, Writes, last_early, last_late, if_early, if_room, used_of, lock_record, lock_by, stamp_by, lock_due}
use Rattle.cbdc_model.specs.Due.{finish_due, forget_due, new_batch, prepare_record, prepare_due, discard_record, discard_due, done_record, done_due}
use Rattle.cbdc_model.specs.Room.{need_of}
use Rattle.cbdc_model.specs.Sights.{Sight, Told}
use Rattle.lane_laws.proofs.Dues.{past, writes_same, lock_wrote, stamp_wrote}
use Rattle.node_lock.specs.Moving.{Moves}
use Rattle.port_sets.proofs.Stepping.{moves}

same_number : (n : ℕ) → (n == n) ≡ true
same_number n = grind arith

is_mine : (lane : ℕ) (r q : Record) → r ≡ q → is_in_lane lane q ≡ true → is_in_lane lane r ≡ true
is_mine lane r q e m = subst (λ (x : Record). is_in_lane lane x ≡ true) (sym e) m

pub lock_moves : (K : Shape) (capacity : ℕ) (c : LockCall) (s t : Sight) (result : Result Replied NodeFault)
    → Told true c.batch.lane true (lock_due K capacity c) s t result → Moves c.batch.lane s t
lock_moves K capacity c s t result told =
    moves c.batch.lane true (λ J. lock_by (next_lock J c.batch c.part c.cause) K capacity J c) s t
    (λ a r e. is_mine c.batch.lane r (lock_record s.seen c) (lock_wrote K capacity s.seen c (next_lock s.seen c.batch c.part c.cause) a r e).3
    (same_number c.batch.lane)) result told

pub finish_moves : (c : FinishCall) (s t : Sight) (result : Result ℕ NodeFault) → Told true c.batch.lane false (finish_due c) s t result
    → Moves c.batch.lane s t
finish_moves c s t result told =
    moves c.batch.lane false (λ J. stamp_by (next_finish J c.batch c.decisions c.cause) (Finish (next_stamp J c.cause) c.batch c.decisions)) s t
    (λ a r e. is_mine c.batch.lane r (Finish (next_stamp s.seen c.cause) c.batch c.decisions)
    (stamp_wrote (next_finish s.seen c.batch c.decisions c.cause) (Finish (next_stamp s.seen c.cause) c.batch c.decisions) a r e).1
    (same_number c.batch.lane)) result told

pub forget_moves : (c : ForgetCall) (s t : Sight) (result : Result ℕ NodeFault) → Told true c.batch.lane false (forget_due c) s t result
    → Moves c.batch.lane s t
forget_moves c s t result told =
    moves c.batch.lane false (λ J. stamp_by (next_forget J c.batch c.cause) (Forget (next_stamp J c.cause) c.batch)) s t
    (λ a r e. is_mine c.batch.lane r (Forget (next_stamp s.seen c.cause) c.batch)
    (stamp_wrote (next_forget s.seen c.batch c.cause) (Forget (next_stamp s.seen c.cause) c.batch) a r e).1 (same_number c.batch.lane)) result
    told

pub prepare_moves : (K : Shape) (capacity lane : ℕ) (txs : List Compact) (s t : Sight) (result : Result (Batch × ℕ) NodeFault)
    → Told true lane true (prepare_due K capacity lane txs) s t result → Moves lane s t
prepare_moves K capacity lane txs s t result told =
    let w = λ (J : List Record). prepare_record J lane txs in
    let made = λ (J : List Record). Writes (new_batch J lane, next_stamp J 0) (w J) in
    moves lane true (λ J. if_early last_early (next_stamp J 0) (if_room (used_of J) (need_of K J (w J)) capacity (made J))) s t
    (λ a r e. is_mine lane r (w s.seen)
    (writes_same (new_batch s.seen lane, next_stamp s.seen 0) a (w s.seen) r
    (past (nat_lt capacity (used_of s.seen + need_of K s.seen (w s.seen))) (Err (Full (used_of s.seen) (need_of K s.seen (w s.seen)) capacity))
    (made s.seen) a r
    (past (nat_lt last_early (next_stamp s.seen 0)) (Err (ClockEnd (next_stamp s.seen 0)))
    (if_room (used_of s.seen) (need_of K s.seen (w s.seen)) capacity (made s.seen)) a r e))).1
    (same_number lane)) result told

stamped_moves : (lane cause : ℕ) (what : List Record → Record) (s t : Sight) (result : Result ℕ NodeFault) → is_in_lane lane (what s.seen) ≡ true
    → Told true lane false (λ broken J. Rattle.cbdc_model.specs.Due.unless_broken broken
    (if_early last_late (next_stamp J cause) (Writes (next_stamp J cause) (what J)))) s t result → Moves lane s t
stamped_moves lane cause what s t result mine told =
    moves lane false (λ J. if_early last_late (next_stamp J cause) (Writes (next_stamp J cause) (what J))) s t
    (λ a r e. is_mine lane r (what s.seen) (writes_same (next_stamp s.seen cause) a (what s.seen) r
    (past (nat_lt last_late (next_stamp s.seen cause)) (Err (ClockEnd (next_stamp s.seen cause)))
    (Writes (next_stamp s.seen cause) (what s.seen)) a r e)).1 mine) result told

pub discard_moves : (lane cause : ℕ) (s t : Sight) (result : Result ℕ NodeFault) → Told true lane false (discard_due lane cause) s t result
    → Moves lane s t
discard_moves lane cause s t result told = stamped_moves lane cause (discard_record lane cause) s t result (same_number lane) told

pub done_moves : (lane cause : ℕ) (s t : Sight) (result : Result ℕ NodeFault) → Told true lane false (done_due lane cause) s t result → Moves lane s t
done_moves lane cause s t result told = stamped_moves lane cause (done_record lane cause) s t result (same_number lane) told
