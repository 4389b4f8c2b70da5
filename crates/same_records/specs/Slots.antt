-- The slots of the program as those of the definitions.
use Rattle.cbdc_model.specs.Slots as model
use Rattle.same_records.specs.declared.slots.Phase.{Phase}
use Rattle.same_records.specs.declared.slots.Phase.TheVariants.{Idle, InLock, InFinish, InPrepare, InCommit, InDiscard}
use Rattle.same_records.specs.declared.slots.Slot.{Slot}

-- a phase of the program as one of the definitions
abbrev pub phase_in : Phase → model.Phase
phase_in Idle = model.Idle
phase_in InLock = model.InLock
phase_in InFinish = model.InFinish
phase_in InPrepare = model.InPrepare
phase_in InCommit = model.InCommit
phase_in InDiscard = model.InDiscard

-- a slot of the program as one of the definitions
abbrev pub slot_in : Slot → model.Slot
slot_in s = record { number = s.number; phase = phase_in s.phase }
