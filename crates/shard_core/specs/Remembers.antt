-- What is remembered of a transaction, as the model has it.
use Rattle.std.specs.Prelude.{Bool, false, ◌||◌, List, [], ◌∷◌, if◌then◌else◌, Option, Some, None}
use Rattle.cbdc_model.specs.Records.{Digest, same_digest, Entry}
use Rattle.cbdc_model.specs.Fates.{Fate, Waiting, Committed, Rejected}
use Rattle.shard_core.specs.declared.plans.Remembered.{Remembered}
use Rattle.shard_core.specs.declared.plans.Remembered.TheVariants.{Waiting as Waits, Committed as Commits, Rejected as Rejects}

-- what the shard remembers of a transaction, as the definitions have it
abbrev pub as_fate : Remembered → Fate
as_fate Waits = Waiting
as_fate Commits = Committed
as_fate Rejects = Rejected

-- its answer, as the definitions have it
abbrev pub told_fate : Option Remembered → Option Fate
told_fate None = None
told_fate (Some r) = Some (as_fate r)

-- whether one of the entries has this id
abbrev pub has_id : List Entry → Digest → Bool
has_id [] id = false
has_id (e ∷ es) id = same_digest e.id id || has_id es id

-- what the decision of the first entry with this id says
abbrev pub fate_of : List Entry → List Bool → Digest → Option Fate
fate_of [] ds id = None
fate_of (e ∷ es) [] id = None
fate_of (e ∷ es) (d ∷ ds) id = if same_digest e.id id then Some (if d then Committed else Rejected) else fate_of es ds id
