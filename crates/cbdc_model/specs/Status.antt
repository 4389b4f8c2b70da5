-- What a shard's journal says of a hash, looking back over its records.
use Rattle.std.specs.Prelude.{Bool, false, ◌||◌, List, [], ◌∷◌, ◌++◌, if◌then◌else◌}
use Rattle.cbdc_model.specs.Records.{Digest, same_digest, lock_of, Answered, Record, is_held, Genesis, Lock, Finish, Forget, Start, Prepare, Commit}
use Rattle.cbdc_model.specs.Records.{Discard, Done, Upgrade, Carry, CarryStart, Seal}
pub use Rattle.cbdc_types.specs.declared.batch.Status.{Status}
pub use Rattle.cbdc_types.specs.declared.batch.Status.TheVariants.{Unspent, Locked, Absent}

-- whether a hash stands in a list
abbrev pub has : List Digest → Digest → Bool
has [] x = false
has (y ∷ ys) x = same_digest y x || has ys x

-- the inputs of the Held entries
abbrev pub held_inputs : List Answered → List Digest
held_inputs [] = []
held_inputs (a ∷ es) = if is_held a.reply then a.entry.inputs ++ held_inputs es else held_inputs es

-- the inputs of the committed entries
abbrev pub taken_inputs : List Answered → List Bool → List Digest
taken_inputs [] ds = []
taken_inputs (a ∷ es) [] = []
taken_inputs (a ∷ es) (d ∷ ds) = if d then a.entry.inputs ++ taken_inputs es ds else taken_inputs es ds

-- the outputs of the committed entries
abbrev pub made_outputs : List Answered → List Bool → List Digest
made_outputs [] ds = []
made_outputs (a ∷ es) [] = []
made_outputs (a ∷ es) (d ∷ ds) = if d then a.entry.outputs ++ made_outputs es ds else made_outputs es ds

-- the inputs of the entries that are Held and not committed
abbrev pub returned_inputs : List Answered → List Bool → List Digest
returned_inputs [] ds = []
returned_inputs (a ∷ es) [] = []
returned_inputs (a ∷ es) (d ∷ ds) =
    if is_held a.reply then (if d then returned_inputs es ds else a.entry.inputs ++ returned_inputs es ds) else returned_inputs es ds

-- what a Finish with these decisions makes of a hash that had the status before: Unspent for an output of a committed entry; else Unspent for
-- an input of a Held entry that is not committed; else Absent for an input of a committed one; else as before
abbrev pub finished_status : List Answered → List Bool → Digest → Status → Status
finished_status es ds x before =
    if has (made_outputs es ds) x then Unspent else
    if has (returned_inputs es ds) x then Unspent else
    if has (taken_inputs es ds) x then Absent else before

-- by the newest record that names the hash: a Genesis and a Carry their hashes, Unspent; a Lock the inputs of its Held entries, Locked by its batch;
-- a Finish, read with its batch's Lock, as above; Absent where none does
abbrev pub status : List Record → Digest → Status
status [] x = Absent
status (Genesis header hs ∷ past) x = if has hs x then Unspent else status past x
status (Lock stamp b es ∷ past) x = if has (held_inputs es) x then Locked b else status past x
status (Finish stamp b ds ∷ past) x = finished_status (lock_of past b) ds x (status past x)
status (Forget stamp b ∷ past) x = status past x
status (Start header ∷ past) x = status past x
status (Prepare stamp b txs ∷ past) x = status past x
status (Commit stamp b os ∷ past) x = status past x
status (Discard stamp b ∷ past) x = status past x
status (Done stamp b ∷ past) x = status past x
status (Upgrade stamp batch ∷ past) x = status past x
status (Carry stamp header source hs numbers ∷ past) x = if has hs x then Unspent else status past x
status (CarryStart stamp header source numbers ∷ past) x = status past x
status (Seal stamp to shards ∷ past) x = status past x
