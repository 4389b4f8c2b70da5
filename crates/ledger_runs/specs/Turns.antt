-- What turns of lanes are at the nodes of a ledger: the nodes' ghost members are one argument.
use Rattle.std.specs.Prelude.{ℕ, ◌*◌, [], List, Option}
use Rattle.cbdc_types.specs.declared.batch.OpenLane.{OpenLane}
use Rattle.cbdc_model.specs.Waves.{IsResumed}
use Rattle.lane_driver.specs.declared.fault.LaneFault.{LaneFault}
use Rattle.recovery.specs.declared.resumed.ResumedBatch.{ResumedBatch}
use Rattle.ledger_runs.specs.declared.turns.Turns.{Ghosts}
use Rattle.ledger_runs.specs.Turning.{OfKept, StaysKept, TookUpOne}
use Rattle.ledger_runs.specs.Planning.{AreFound}
use Rattle.ledger_runs.specs.Flying.{FliesOn, Launches}
use Rattle.ledger_runs.specs.Least.{IsLeastOpen}
use Rattle.ledger_runs.specs.Telling.{TakesUp, TellResumed}
use Rattle.ledger_runs.specs.Pieces.{HasPreparedPieces}
use Rattle.ledger_runs.specs.Faults.{IsOpenCause, IsRunCause, AllRestOrWait, HaveFailed, MayHoldBytes, Nothing}

-- these were found as the open batches of all lanes
abbrev pub FindsOpen : {L : Type 0} → Ghosts L → L → List (Option OpenLane) → Type 0
FindsOpen t now found = AreFound (t.shape now) (t.journals now) (t.opens now) found

-- journals that were kept have grown at their ends, and are kept still
abbrev pub TurnsStayKept : {L : Type 0} → Ghosts L → L → L → Type 0
TurnsStayKept t old new = OfKept (t.shape old) (t.journals old) (StaysKept (t.shape old) (t.journals old) (t.journals new))

-- what is in flight may come next still, where it might before
abbrev pub TurnsFlyOn : {L : Type 0} → Ghosts L → L → L → Type 0
TurnsFlyOn t old new = OfKept (t.shape old) (t.journals old) (FliesOn (t.shape old) (t.journals old) (t.journals new) (t.flights old) (t.flights new))

-- no Prepare is in flight that was not before
abbrev pub TurnsLaunchNone : {L : Type 0} → Ghosts L → L → L → Type 0
TurnsLaunchNone t old new = Launches (t.shape old) (λ _. Nothing) (t.journals old) (t.journals new) (t.flights old) (t.flights new)

-- the lane has prepared nothing
abbrev pub TurnPreparesNone : {L : Type 0} → Ghosts L → ℕ → L → L → Type 0
TurnPreparesNone t lane old new = HasPreparedPieces (t.shape old) lane [] (t.journals old) (t.journals new)

-- where the journals were kept, the lane's open batch was brought to its end, and its result is kept behind the others'
abbrev pub TookUpIn : {L : Type 0} → Ghosts L → ℕ → L → L → List ResumedBatch → List ResumedBatch → Type 0
TookUpIn t lane old new before after = OfKept (t.shape old) (t.journals old)
    (λ _ _. TookUpOne (t.shape old) lane (t.journals old) (t.journals new) before after)

-- where the journals were kept, the lane's open batch was brought to its end, and its result, which names that batch, is kept behind the others'
abbrev pub TakesUpNamedIn : {L : Type 0} → Ghosts L → ℕ → L → L → List ResumedBatch → List ResumedBatch → Type 0
TakesUpNamedIn t lane old new before after = OfKept (t.shape old) (t.journals old)
    (λ _ _. TakesUp (t.shape old) lane (t.journals old) (t.journals new) before after)

-- the fault of a lane whose open batch was taken up has its cause
abbrev pub IsTurnCaused : {L : Type 0} → Ghosts L → ℕ → L → L → LaneFault → Type 0
IsTurnCaused t lane old new e =
    IsOpenCause (t.shape old) lane (t.journals old) (t.journals new) (HaveFailed (t.opened new) (t.faults new)) (MayHoldBytes (t.capacity new)) e

-- so has the fault of some lane
abbrev pub AreTurnsCaused : {L : Type 0} → Ghosts L → L → L → LaneFault → Type 0
AreTurnsCaused t old new e =
    IsRunCause (t.shape old) (λ _. Nothing) (t.journals old) (t.journals new) (HaveFailed (t.opened new) (t.faults new))
    (MayHoldBytes (t.capacity new)) e

-- it is that of the least lane that met one
abbrev pub IsTurnsLeast : {L : Type 0} → Ghosts L → L → L → LaneFault → Type 0
IsTurnsLeast t old new e =
    IsLeastOpen (t.shape old) (t.journals old) (t.journals new) (HaveFailed (t.opened new) (t.faults new)) (MayHoldBytes (t.capacity new)) e

-- each lane rests, or waits because memory ran out
abbrev pub TurnsRest : {L : Type 0} → Ghosts L → L → L → Type 0
TurnsRest t old new = AllRestOrWait (t.shape old) (t.journals old) (t.journals new) (HaveFailed (t.opened new) (t.faults new)) (t.wanting new)

-- where the journals were kept, all open batches were brought to their end
abbrev pub TurnsResume : {L : Type 0} → Ghosts L → L → L → Type 0
TurnsResume t old new = OfKept (t.shape old) (t.journals old) (λ _ _. IsResumed (t.shape old) (t.journals old) (t.journals new))

-- and these are they, in order
abbrev pub TurnsTell : {L : Type 0} → Ghosts L → L → L → List ResumedBatch → Type 0
TurnsTell t old new rs =
    OfKept (t.shape old) (t.journals old) (λ _ _. TellResumed (t.shape old) (t.journals old) (t.journals new)
    ((t.shape old).coordinators * (t.shape old).lanes) rs)
