-- Which hashes a record moves, by the entries of its batch.
use Rattle.std.specs.Prelude.{ℕ, ◌+◌, Bool, List, [], ◌∷◌, ◌++◌, length, if◌then◌else◌}
use Rattle.cbdc_model.specs.Records.{Digest, Entry, Reply, is_held}
use Rattle.shard_core.specs.declared.slots.LaneSlot.{LaneSlot}
use Rattle.shard_core.specs.declared.slots.LaneSlot.TheVariants.{Idle as Free, Locked as Taken, Finished}

-- the inputs of the entries that are committed
abbrev pub inputs_where : List Entry → List Bool → List Digest
inputs_where [] ds = []
inputs_where (e ∷ es) [] = []
inputs_where (e ∷ es) (d ∷ ds) = if d then e.inputs ++ inputs_where es ds else inputs_where es ds

-- the outputs of the entries that are committed
abbrev pub outputs_where : List Entry → List Bool → List Digest
outputs_where [] ds = []
outputs_where (e ∷ es) [] = []
outputs_where (e ∷ es) (d ∷ ds) = if d then e.outputs ++ outputs_where es ds else outputs_where es ds

-- the inputs of the entries that are Held and not committed
abbrev pub returned_where : List Entry → List Reply → List Bool → List Digest
returned_where [] rs ds = []
returned_where (e ∷ es) [] ds = []
returned_where (e ∷ es) (r ∷ rs) [] = []
returned_where (e ∷ es) (r ∷ rs) (d ∷ ds) =
    if is_held r then (if d then returned_where es rs ds else e.inputs ++ returned_where es rs ds) else returned_where es rs ds

-- how many inputs there are
abbrev pub inputs_in : List Entry → ℕ
inputs_in [] = 0
inputs_in (e ∷ es) = length e.inputs + inputs_in es

-- how many outputs there are
abbrev pub outputs_in : List Entry → ℕ
outputs_in [] = 0
outputs_in (e ∷ es) = length e.outputs + outputs_in es

-- how many inputs and outputs there are
abbrev pub hashes_in : List Entry → ℕ
hashes_in [] = 0
hashes_in (e ∷ es) = (length e.inputs + length e.outputs) + hashes_in es

-- how many hashes a lane's batch, if it is locked, may still bring to the table
abbrev pub owed_by : LaneSlot → ℕ
owed_by (Free n t) = 0
owed_by (Taken n part rs t) = hashes_in part
owed_by (Finished n part rs ds t u) = 0

-- how many hashes the locked batches may still bring to the table
abbrev pub owed_in : List LaneSlot → ℕ
owed_in [] = 0
owed_in (s ∷ slots) = owed_by s + owed_in slots
