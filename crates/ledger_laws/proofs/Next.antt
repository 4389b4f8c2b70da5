-- The next record of a node as one product of facts, and kept histories as their rows say it, with the grammar beside.
use Rattle.std.proofs.Common.{◌≡◌, ℕ, ◌+◌, ◌/◌, ◌<◌, Bool, List, [], ◌∷◌, ◌++◌, length, is_some}
use Rattle.cbdc_model.specs.Records.{Shape, Batch, Compact, Record, Row, record_of, lock_of, txs_of, last_stamp, journal, Genesis, Lock, Finish}
use Rattle.cbdc_model.specs.Records.{Forget, Start, Prepare, Commit, Discard, Done, Upgrade, Carry, CarryStart, Seal}
use Rattle.cbdc_model.specs.Slots.{slot, Idle, InLock, InFinish, InPrepare, InCommit, InDiscard}
use Rattle.cbdc_model.specs.Replies.{answered, entries}
use Rattle.cbdc_model.specs.Grammar.{IsShard, IsInGrammar}
use Rattle.cbdc_model.specs.After.{FitsReplies, IsAtRest, IsUnsealed}
use Rattle.cbdc_model.specs.Causes.{IsCaused}
use Rattle.cbdc_model.specs.History.{Minted, header_of, first_rows}

-- whether the journal has this batch's record of a kind
abbrev pub has_lock : List Record → Batch → Bool
has_lock past b = is_some (record_of 2 past b)

abbrev pub has_finish : List Record → Batch → Bool
has_finish past b = is_some (record_of 3 past b)

abbrev pub has_forget : List Record → Batch → Bool
has_forget past b = is_some (record_of 4 past b)

abbrev pub has_prepare : List Record → Batch → Bool
has_prepare past b = is_some (record_of 6 past b)

abbrev pub has_commit : List Record → Batch → Bool
has_commit past b = is_some (record_of 7 past b)

abbrev pub has_discard : List Record → Batch → Bool
has_discard past b = is_some (record_of 8 past b)

-- the record is next at this node behind its first record: `past` is its journal
abbrev pub Next : Shape → ℕ → List Record → Record → Type 0
Next K node past (Genesis header hs) = ⊥
Next K node past (Start header) = ⊥
Next K node past (Carry stamp header source hs numbers) = ⊥
Next K node past (CarryStart stamp header source numbers) = ⊥
Next K node past (Upgrade stamp batch) = (last_stamp past < stamp) × (node < K.coordinators + K.shards) × IsAtRest K past × IsUnsealed past
Next K node past (Seal stamp to shards) = (last_stamp past < stamp) × (node < K.coordinators) × IsAtRest K past × IsUnsealed past
Next K node past (Lock stamp b es) =
    (last_stamp past < stamp) × IsShard K node
    × ((slot past b.lane).phase ≡ Idle) × ((slot past b.lane).number < b.number)
    × (es ≡ answered past b [] (entries es)) × (0 < length es)
Next K node past (Finish stamp b ds) =
    (last_stamp past < stamp) × IsShard K node
    × ((slot past b.lane).phase ≡ InLock) × ((slot past b.lane).number ≡ b.number)
    × FitsReplies (lock_of past b) ds
Next K node past (Forget stamp b) =
    (last_stamp past < stamp) × IsShard K node
    × ((slot past b.lane).phase ≡ InFinish) × ((slot past b.lane).number ≡ b.number)
Next K node past (Prepare stamp b txs) =
    (last_stamp past < stamp) × (node < K.coordinators) × (node ≡ b.lane / K.lanes)
    × ((slot past b.lane).phase ≡ Idle) × (b.number ≡ (slot past b.lane).number + 1) × IsUnsealed past
Next K node past (Commit stamp b os) =
    (last_stamp past < stamp) × (node < K.coordinators) × (node ≡ b.lane / K.lanes)
    × ((slot past b.lane).phase ≡ InPrepare) × ((slot past b.lane).number ≡ b.number)
    × (length os ≡ length (txs_of past b))
Next K node past (Discard stamp b) =
    (last_stamp past < stamp) × (node < K.coordinators) × (node ≡ b.lane / K.lanes)
    × ((slot past b.lane).phase ≡ InCommit) × ((slot past b.lane).number ≡ b.number)
Next K node past (Done stamp b) =
    (last_stamp past < stamp) × (node < K.coordinators) × (node ≡ b.lane / K.lanes)
    × ((slot past b.lane).phase ≡ InDiscard) × ((slot past b.lane).number ≡ b.number)

-- a property of each transaction, and of each that a Prepare has
abbrev pub Each : (Compact → Type 0) → List Compact → Type 0
Each P [] = Unit {0}
Each P (t ∷ ts) = P t × Each P ts

abbrev pub AllProper : (Compact → Type 0) → Record → Type 0
AllProper P (Prepare stamp b txs) = Each P txs
AllProper P other = Unit {0}

-- each row behind the first ones is next at its node, caused, passes, and is in the grammar
abbrev pub Steady : Shape → Minted → (Compact → Type 0) → List Row → Type 0
Steady K minting P [] = Unit {0}
Steady K minting P (row ∷ later) =
    let past = later ++ first_rows K minting in
    Next K row.node (journal row.node past) row.what
    × IsCaused K (λ n. journal n past) row.node row.what
    × AllProper P row.what
    × Steady K minting P later
    × IsInGrammar (header_of K minting.id row.node) row.what
