-- What a node owes to a call: an answer at once, or a record and the answer that it gives once the record is written.
use Rattle.std.specs.Prelude.{ℕ, suc, ◌+◌, ◌^◌, nat_lt, List, [], sum_by, if◌then◌else◌, Option, Some, None, Result, Ok, Err}
use Rattle.cbdc_types.specs.declared.calls.LockCall.{LockCall}
use Rattle.cbdc_types.specs.declared.calls.FinishCall.{FinishCall}
use Rattle.cbdc_types.specs.declared.calls.ForgetCall.{ForgetCall}
use Rattle.cbdc_types.specs.declared.calls.Replied.{Replied}
use Rattle.cbdc_types.specs.declared.calls.NodeFault.{NodeFault}
use Rattle.cbdc_types.specs.declared.calls.NodeFault.TheVariants.{Broken, Refused as Refuses, ClockEnd, Full}
use Rattle.cbdc_types.specs.declared.batch.ShardReplies.{ShardReplies}
use Rattle.cbdc_model.specs.Records.{Shape, Batch, Compact, Record, txs_of, Lock, Finish, Forget, Prepare, Commit, Discard, Done}
use Rattle.cbdc_model.specs.Slots.{slot}
use Rattle.cbdc_model.specs.Replies.{answered}
use Rattle.cbdc_model.specs.Next.{Plan, RepliesAt, Kept, Append, Refuse, next_lock, next_finish, next_forget, next_stamp}
use Rattle.cbdc_model.specs.Deciding.{decided, reply_cause}
use Rattle.cbdc_model.specs.Room.{size_of, need_of}

-- an answer at once, or a record to be written with the answer behind it
pub data Due (A : Type 0) : Type 0 where
  Answers : (result : Result A NodeFault) → Due A
  Writes : (answer : A) (r : Record) → Due A

-- a node at which an append has failed since it was opened answers so before all else
abbrev pub unless_broken : {A : Type 0} → Option ℕ → Due A → Due A
unless_broken (Some since) due = Answers (Err (Broken since))
unless_broken None due = due

-- a new record's stamp is within its bound, else the clock's end is told with it
abbrev pub if_early : {A : Type 0} → ℕ → ℕ → Due A → Due A
if_early bound stamp due = if nat_lt bound stamp then Answers (Err (ClockEnd stamp)) else due

-- the disk has room for what a new record needs, else full is told with the numbers
abbrev pub if_room : {A : Type 0} → ℕ → ℕ → ℕ → Due A → Due A
if_room used need capacity due = if nat_lt capacity (used + need) then Answers (Err (Full used need capacity)) else due

-- the bytes of a disk that a journal takes: its rows and the closing gate
abbrev pub used_of : List Record → ℕ
used_of J = 1 + sum_by size_of J

-- the last stamp that a Prepare or a Lock may have
abbrev pub last_early : ℕ
last_early = 2 ^ 62

-- the last stamp that the records behind them may have
abbrev pub last_late : ℕ
last_late = 2 ^ 62 + 2 ^ 20

-- the Lock that a shard with this journal appends at a call
abbrev pub lock_record : List Record → LockCall → Record
lock_record J c = Lock (next_stamp J c.cause) c.batch (answered J c.batch [] c.part)

-- kept replies and their stamp as they are answered
abbrev pub replied_of : RepliesAt → Replied
replied_of a = record { replies = a.given; stamp = a.at }

-- what a call to lock is owed, by what is planned of it: a new Lock has a stamp and room, else it is refused for these
abbrev pub lock_by : Plan RepliesAt → Shape → ℕ → List Record → LockCall → Due Replied
lock_by (Kept a) K capacity J c = Answers (Ok (replied_of a))
lock_by (Refuse why) K capacity J c = Answers (Err (Refuses why))
lock_by (Append a) K capacity J c =
    if_early last_early a.at (if_room (used_of J) (need_of K J (lock_record J c)) capacity (Writes (replied_of a) (lock_record J c)))

-- what a call to lock is owed at a shard with this journal
abbrev pub lock_due : Shape → ℕ → LockCall → Option ℕ → List Record → Due Replied
lock_due K capacity c broken J = unless_broken broken (lock_by (next_lock J c.batch c.part c.cause) K capacity J c)

-- what a call to finish or to forget is owed, by what is planned of it: a new record has a stamp, and room was kept for it
abbrev pub stamp_by : Plan ℕ → Record → Due ℕ
stamp_by (Kept t) r = Answers (Ok t)
stamp_by (Refuse why) r = Answers (Err (Refuses why))
stamp_by (Append t) r = if_early last_late t (Writes t r)

-- what a call to finish is owed at a shard with this journal
abbrev pub finish_due : FinishCall → Option ℕ → List Record → Due ℕ
finish_due c broken J =
    unless_broken broken (stamp_by (next_finish J c.batch c.decisions c.cause) (Finish (next_stamp J c.cause) c.batch c.decisions))

-- what a call to forget is owed at a shard with this journal
abbrev pub forget_due : ForgetCall → Option ℕ → List Record → Due ℕ
forget_due c broken J = unless_broken broken (stamp_by (next_forget J c.batch c.cause) (Forget (next_stamp J c.cause) c.batch))

-- the batch that a lane's slot names
abbrev pub open_batch : List Record → ℕ → Batch
open_batch J lane = record { lane = lane; number = (slot J lane).number }

-- the batch behind it
abbrev pub new_batch : List Record → ℕ → Batch
new_batch J lane = record { lane = lane; number = suc (slot J lane).number }

-- the Prepare of the next batch of an idle lane
abbrev pub prepare_record : List Record → ℕ → List Compact → Record
prepare_record J lane txs = Prepare (next_stamp J 0) (new_batch J lane) txs

-- what a call to prepare is owed at a coordinator with this journal
abbrev pub prepare_due : Shape → ℕ → ℕ → List Compact → Option ℕ → List Record → Due (Batch × ℕ)
prepare_due K capacity lane txs broken J =
    unless_broken broken (if_early last_early (next_stamp J 0)
    (if_room (used_of J) (need_of K J (prepare_record J lane txs)) capacity (Writes (new_batch J lane, next_stamp J 0) (prepare_record J lane txs))))

-- the Commit of the lane's prepared batch, by what its shards replied
abbrev pub commit_record : Shape → ℕ → List ShardReplies → List Record → Record
commit_record K lane replies J =
    Commit (next_stamp J (reply_cause K replies)) (open_batch J lane) (decided K (txs_of J (open_batch J lane)) replies)

-- what a call to decide is owed at a coordinator with this journal
abbrev pub decide_due : Shape → ℕ → List ShardReplies → Option ℕ → List Record → Due ℕ
decide_due K lane replies broken J =
    unless_broken broken (if_early last_late (next_stamp J (reply_cause K replies))
    (Writes (next_stamp J (reply_cause K replies)) (commit_record K lane replies J)))

-- the Discard of the lane's open batch
abbrev pub discard_record : ℕ → ℕ → List Record → Record
discard_record lane cause J = Discard (next_stamp J cause) (open_batch J lane)

-- what a call to discard is owed at a coordinator with this journal
abbrev pub discard_due : ℕ → ℕ → Option ℕ → List Record → Due ℕ
discard_due lane cause broken J = unless_broken broken
    (if_early last_late (next_stamp J cause) (Writes (next_stamp J cause) (discard_record lane cause J)))

-- the Done of the lane's open batch
abbrev pub done_record : ℕ → ℕ → List Record → Record
done_record lane cause J = Done (next_stamp J cause) (open_batch J lane)

-- what a call to end a batch is owed at a coordinator with this journal
abbrev pub done_due : ℕ → ℕ → Option ℕ → List Record → Due ℕ
done_due lane cause broken J = unless_broken broken (if_early last_late (next_stamp J cause) (Writes (next_stamp J cause) (done_record lane cause J)))
