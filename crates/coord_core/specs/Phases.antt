-- A lane's phase as the slot that its journal gives.
use Rattle.cbdc_model.specs.Slots.{Slot, Idle as AtRest, InPrepare, InCommit, InDiscard}
use Rattle.coord_core.specs.declared.phase.LanePhase.{LanePhase}
use Rattle.coord_core.specs.declared.phase.LanePhase.TheVariants.{Idle, Prepared, Committed, Discarded}

-- a phase that the program tells, as a slot of the definitions
abbrev pub slot_of : LanePhase → Slot
slot_of (Idle n) = record { number = n; phase = AtRest }
slot_of (Prepared n) = record { number = n; phase = InPrepare }
slot_of (Committed n) = record { number = n; phase = InCommit }
slot_of (Discarded n) = record { number = n; phase = InDiscard }
