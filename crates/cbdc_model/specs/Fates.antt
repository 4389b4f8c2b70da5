-- What a shard's journal remembers of a transaction.
use Rattle.std.specs.Prelude.{ℕ, zero, suc, ◌*◌, Bool, false, ◌||◌, List, [], ◌∷◌, if◌then◌else◌, Option, Some, None}
use Rattle.cbdc_model.specs.Records.{Digest, same_digest, Shape, Batch, Answered, Record, record_of, lock_of, decisions_in, finish_kind}
use Rattle.cbdc_model.specs.Slots.{Phase, slot, Idle, InLock, InFinish, InPrepare, InCommit, InDiscard}

-- its batch is locked, or finished with a commit or without
pub data Fate : Type 0 where
  Waiting : Fate
  Committed : Fate
  Rejected : Fate

-- whether an entry has this id
abbrev pub names : List Answered → Digest → Bool
names [] id = false
names (a ∷ es) id = same_digest a.entry.id id || names es id

-- what the decision of the first entry with this id says
abbrev pub decided_fate : List Answered → List Bool → Digest → Option Fate
decided_fate [] ds id = None
decided_fate (a ∷ es) [] id = None
decided_fate (a ∷ es) (d ∷ ds) id = if same_digest a.entry.id id then Some (if d then Committed else Rejected) else decided_fate es ds id

-- what a batch in this phase says of the transaction: where it is locked and an entry of its Lock has the id, that it waits; where it is finished,
-- what its Finish decided of the first such entry; in any other phase nothing
abbrev pub fate_in : Phase → List Record → Batch → Digest → Option Fate
fate_in Idle J b id = None
fate_in InLock J b id = if names (lock_of J b) id then Some Waiting else None
fate_in InFinish J b id = decided_fate (lock_of J b) (decisions_in (record_of finish_kind J b)) id
fate_in InPrepare J b id = None
fate_in InCommit J b id = None
fate_in InDiscard J b id = None

-- what the batch of a lane's slot says of the transaction, in the slot's phase
abbrev pub lane_fate : List Record → Digest → ℕ → Option Fate
lane_fate J id lane =
    let b : Batch = record { lane = lane; number = (slot J lane).number } in
    fate_in (slot J lane).phase J b id

-- the first of two that is there
abbrev pub or_else : Option Fate → Option Fate → Option Fate
or_else None later = later
or_else (Some f) later = Some f

-- what the least of the lanes below n that remembers the transaction says of it, nothing where none does
abbrev pub fate_below : List Record → Digest → ℕ → Option Fate
fate_below J id zero = None
fate_below J id (suc n) = or_else (fate_below J id n) (lane_fate J id n)

-- what the shard with this journal remembers of the transaction
abbrev pub fate : Shape → List Record → Digest → Option Fate
fate K J id = fate_below J id (K.coordinators * K.lanes)
