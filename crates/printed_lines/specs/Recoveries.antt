-- What `recover` prints: the batches that were open at entry, and what their Commits at exit decide.
use Rattle.std.specs.Prelude.{◌≡◌, ◌+◌, ◌*◌, ◌++◌, ℕ, zero, suc, not, List, [], length, Option, Some, None, is_some, if◌then◌else◌}
use Rattle.std.specs.List.{filter}
use Rattle.cbdc_types.specs.declared.batch.Phase.{Phase as OpenPhase}
use Rattle.cbdc_types.specs.declared.batch.Phase.TheVariants.{Prepared, Committed, Discarded}
use Rattle.cbdc_model.specs.Records.{Shape, Batch, Outcome, Record, is_won, outcomes_of}
use Rattle.cbdc_model.specs.Ranges.{home_of}
use Rattle.cbdc_model.specs.Slots.{Phase, slot, Idle, InLock, InFinish, InPrepare, InCommit, InDiscard}
use Rattle.line_text.specs.Lines.{Text}
use Rattle.line_text.specs.Reports.{resumed_line, recovery_text}
use Rattle.printed_lines.specs.Unspent.{IsUnspentCount}

-- what is written down last of a lane's batch at its coordinator, where it is open
abbrev pub open_phase : Phase → Option OpenPhase
open_phase Idle = None
open_phase InLock = None
open_phase InFinish = None
open_phase InPrepare = Some Prepared
open_phase InCommit = Some Committed
open_phase InDiscard = Some Discarded

-- how many of a batch's outcomes commit their transactions
abbrev pub won_in : List Outcome → ℕ
won_in os = length (filter is_won os)

-- how many of a batch's outcomes do not commit their transactions
abbrev pub lost_in : List Outcome → ℕ
lost_in os = length (filter (λ o. not (is_won o)) os)

-- of a batch in a phase at entry, by its coordinator's journal at exit: nothing where it was not open
abbrev pub batch_line : List Record → Batch → Option OpenPhase → Text
batch_line J b None = []
batch_line J b (Some phase) = resumed_line b phase (won_in (outcomes_of J b)) (lost_in (outcomes_of J b))

-- of a lane, by its coordinator's journals at entry and at exit
abbrev pub lane_line : ℕ → List Record → List Record → Text
lane_line lane I J = batch_line J (record { lane = lane; number = (slot I lane).number }) (open_phase (slot I lane).phase)

-- of the lanes below n, in rising order, by the journals E at entry and X at exit
abbrev pub resumed_below : Shape → (ℕ → List Record) → (ℕ → List Record) → ℕ → Text
resumed_below K E X zero = []
resumed_below K E X (suc lane) = resumed_below K E X lane ++ lane_line lane (E (home_of K lane)) (X (home_of K lane))

-- of all lanes, in rising order
abbrev pub resumed_lines : Shape → (ℕ → List Record) → (ℕ → List Record) → Text
resumed_lines K E X = resumed_below K E X (K.coordinators * K.lanes)

-- how many of the lanes below n are open at E
abbrev pub open_below : Shape → (ℕ → List Record) → ℕ → ℕ
open_below K E zero = 0
open_below K E (suc lane) = open_below K E lane + (if is_some (open_phase (slot (E (home_of K lane)) lane).phase) then 1 else 0)

-- how many of all lanes are open at E
abbrev pub resumed_count : Shape → (ℕ → List Record) → ℕ
resumed_count K E = open_below K E (K.coordinators * K.lanes)

-- the lines of the resumed batches, and the numbers behind them
abbrev pub recover_lines : Shape → (ℕ → List Record) → (ℕ → List Record) → ℕ → Text
recover_lines K E X unspent = resumed_lines K E X ++ recovery_text (resumed_count K E) unspent

-- the text of a recovery from E to X
abbrev pub IsRecoverText : Shape → (ℕ → List Record) → (ℕ → List Record) → Text → Type 0
IsRecoverText K E X text = (unspent : ℕ) × IsUnspentCount K X unspent × (text ≡ recover_lines K E X unspent)
