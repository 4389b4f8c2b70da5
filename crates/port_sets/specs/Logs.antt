-- What a coordinator that lanes share is asked, and answers.
use Rattle.std.specs.Prelude.{◌≡◌, ℕ, ◌≤◌, true, false, List, length, Option, Result, All, IfOk, IfErr, OnOk}
use Rattle.std.specs.Vec.{vec_capacity}
use Rattle.cbdc_types.specs.declared.calls.NodeFault.{NodeFault}
use Rattle.cbdc_types.specs.declared.batch.ShardReplies.{ShardReplies}
use Rattle.cbdc_model.specs.Records.{Header, Batch, Compact, Outcome, Record, txs_of, outcomes_of}
use Rattle.cbdc_model.specs.Slots.{slot, Idle, InPrepare, InCommit, InDiscard}
use Rattle.cbdc_model.specs.Grammar.{HasSize, IsCompact}
use Rattle.cbdc_model.specs.Due.{Due, open_batch, prepare_due, discard_due, done_due}
use Rattle.cbdc_model.specs.After.{IsJournal}
use Rattle.cbdc_model.specs.Sights.{Sight}
use Rattle.lane_laws.specs.Answers.{DecideAnswer}
use Rattle.lane_driver.specs.Told.{IsLane, IsPreparedBatch, IsStamp, AreReplies}
use Rattle.lane_driver.specs.Causes.{IsDecideCause}
use Rattle.port_sets.specs.Giving.{NodeGives}
use Rattle.port_sets.specs.declared.coordinators.LogCall.{LogCall}
use Rattle.port_sets.specs.declared.coordinators.LogCall.TheVariants.{Prepare, Decide, Discard, Done}
use Rattle.port_sets.specs.declared.coordinators.LogReply.{LogReply}
use Rattle.port_sets.specs.declared.coordinators.LogReply.TheVariants.{Prepared, Stamped}

-- the lane of a call at a coordinator
abbrev pub log_call_lane : LogCall → ℕ
log_call_lane (Prepare lane txs) = lane
log_call_lane (Decide lane replies out) = lane
log_call_lane (Discard lane cause) = lane
log_call_lane (Done lane cause) = lane

-- the transactions of the lane's open batch
abbrev pub txs_at : List Record → ℕ → List Compact
txs_at J lane = txs_of J (open_batch J lane)

-- a call may be made at a coordinator of which this is seen
abbrev pub log_may_be_asked : LogCall → Sight → Type 0
log_may_be_asked (Prepare lane txs) s = IsLane s.header lane × ((slot s.seen lane).phase ≡ Idle) × HasSize s.header.shape txs.now
    × All IsCompact txs.now
log_may_be_asked (Decide lane replies out) s = IsLane s.header lane × ((slot s.seen lane).phase ≡ InPrepare) × AreReplies s.header.shape replies.now
    × (length (txs_at s.seen lane) ≤ vec_capacity out.now)
log_may_be_asked (Discard lane cause) s = IsLane s.header lane × ((slot s.seen lane).phase ≡ InCommit) × IsStamp cause
log_may_be_asked (Done lane cause) s = IsLane s.header lane × ((slot s.seen lane).phase ≡ InDiscard) × IsStamp cause

-- what a coordinator with this header and capacity owes a call to prepare
abbrev pub prepare_owed : ℕ → List Compact → Header → ℕ → Option ℕ → List Record → Due (Batch × ℕ)
prepare_owed lane txs h capacity = prepare_due h.shape capacity lane txs

-- what a coordinator owes a call to discard, whatever its header and capacity
abbrev pub discard_owed : ℕ → ℕ → Header → ℕ → Option ℕ → List Record → Due ℕ
discard_owed lane cause h capacity = discard_due lane cause

-- what a coordinator owes a call to end a batch, whatever its header and capacity
abbrev pub done_owed : ℕ → ℕ → Header → ℕ → Option ℕ → List Record → Due ℕ
done_owed lane cause h capacity = done_due lane cause

-- a good answer to a call to prepare: a batch and a stamp within their limits, and the lane is then in InPrepare with these transactions
abbrev pub good_prepare : ℕ → List Compact → Header → List Record → Batch × ℕ → Type 0
good_prepare lane txs h J p = IsPreparedBatch h.shape lane p × ((slot J lane).phase ≡ InPrepare) × (txs_at J lane ≡ txs)

-- a good answer to a call to discard: a stamp below 2^63, and the lane is then in InDiscard
abbrev pub good_discard : ℕ → Header → List Record → ℕ → Type 0
good_discard lane h J t = IsStamp t × ((slot J lane).phase ≡ InDiscard)

-- a good answer to a call to end a batch: a stamp below 2^63, and the lane is then idle
abbrev pub good_done : ℕ → Header → List Record → ℕ → Type 0
good_done lane h J t = IsStamp t × ((slot J lane).phase ≡ Idle)

-- what a decision gives, with the outcomes that it fills in: those of the Commit, one for each transaction
pub record Decides (lane : ℕ) (replies : List ShardReplies) (s t : Sight) (os : List Outcome) (result : Result ℕ NodeFault) : Type 0 where
  pub told : DecideAnswer true lane replies s t result
  pub journal : IsJournal s.header s.seen
  pub fault : IfErr result (λ f. IsDecideCause f t)
  pub stamp : IfOk result IsStamp
  pub phase : OnOk result ((slot t.seen lane).phase ≡ InCommit)
  pub outcomes : OnOk result (length os ≡ length (txs_at s.seen lane))
  pub written : OnOk result (os ≡ outcomes_of t.seen (open_batch t.seen lane))

-- the answer is of the call's kind
abbrev pub log_gives : Sight → LogCall → Sight → LogCall → LogReply → Type 0
log_gives s (Prepare lane txs) t c (Prepared r) = NodeGives lane true (prepare_owed lane txs.now) (good_prepare lane txs.now) s t r
log_gives s (Prepare lane txs) t c (Stamped r) = ⊥
log_gives s (Decide lane replies out) t (Decide l q new) (Stamped r) = Decides lane replies.now s t new.now.items r
    × (new.ghost_name ≡ out.ghost_name)
log_gives s (Decide lane replies out) t other r = ⊥
log_gives s (Discard lane cause) t c (Stamped r) = NodeGives lane false (discard_owed lane cause) (good_discard lane) s t r
log_gives s (Discard lane cause) t c (Prepared r) = ⊥
log_gives s (Done lane cause) t c (Stamped r) = NodeGives lane false (done_owed lane cause) (good_done lane) s t r
log_gives s (Done lane cause) t c (Prepared r) = ⊥
