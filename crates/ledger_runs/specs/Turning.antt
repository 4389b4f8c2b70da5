-- Lanes at the nodes of a ledger, by the journals of all nodes.
use Rattle.std.specs.Prelude.{◌≡◌, ◌≢◌, ℕ, ◌*◌, ◌<◌, List, [], ◌∷◌, ◌++◌, Option, Some, None}
use Rattle.cbdc_model.specs.Records.{Shape, Record, outcomes_of}
use Rattle.cbdc_model.specs.Slots.{Phase, slot, Idle}
use Rattle.cbdc_model.specs.Ranges.{home_of}
use Rattle.cbdc_model.specs.Coins.{Output, FullTx}
use Rattle.cbdc_model.specs.World.{KeptJournals}
use Rattle.cbdc_model.specs.Lanes.{IsEnd}
use Rattle.recovery.specs.declared.resumed.ResumedBatch.{ResumedBatch}
use Rattle.recovery.specs.Open.{phase_of}
use Rattle.run_laws.specs.Turns.{ResumesBatch}

-- the phase in which a lane stands at its coordinator
abbrev pub lane_phase : Shape → (ℕ → List Record) → ℕ → Phase
lane_phase K J lane = (slot (J (home_of K lane)) lane).phase

-- a lane of this shape
abbrev pub IsLaneOf : Shape → ℕ → Type 0
IsLaneOf K lane = lane < K.coordinators * K.lanes

-- the other lanes stand as before
abbrev pub KeepsLanes : Shape → ℕ → (ℕ → List Record) → (ℕ → List Record) → Type 0
KeepsLanes K lane I J = (other : ℕ) → IsLaneOf K other → other ≢ lane → lane_phase K J other ≡ lane_phase K I other

-- of whatever mint and submissions the journals are kept
abbrev pub OfKept : Shape → (ℕ → List Record) → (List Output → List FullTx → Type 0) → Type 0
OfKept K I P = (mint : List Output) (submissions : List FullTx) → KeptJournals K mint submissions I → P mint submissions

-- kept journals have grown at their ends, and are kept still
pub record StaysKept (K : Shape) (I J : ℕ → List Record) (mint : List Output) (submissions : List FullTx) : Type 0 where
  pub grows : (n : ℕ) → IsEnd (I n) (J n)
  pub kept : KeptJournals K mint submissions J

-- the lane's open batch was brought to its end, from the phase in which it stood, with the outcomes of its Commit
abbrev pub DidResume : Shape → ℕ → (ℕ → List Record) → (ℕ → List Record) → ResumedBatch → Type 0
DidResume K lane I J r =
    ResumesBatch K lane r.batch I J × (phase_of r.phase ≡ lane_phase K I lane) × (r.outcomes ≡ outcomes_of (J (home_of K lane)) r.batch)

-- none, or one
abbrev pub none_or_one : {A : Type 0} → Option A → List A
none_or_one None = []
none_or_one (Some x) = x ∷ []

-- a lane was idle and nothing was done, or its open batch was brought to its end
abbrev pub TookUp : Shape → ℕ → (ℕ → List Record) → (ℕ → List Record) → Option ResumedBatch → Type 0
TookUp K lane I J None = (lane_phase K I lane ≡ Idle) × ((n : ℕ) → J n ≡ I n)
TookUp K lane I J (Some r) = DidResume K lane I J r

-- the result of a lane, kept behind the result of others
abbrev pub TookUpOne : Shape → ℕ → (ℕ → List Record) → (ℕ → List Record) → List ResumedBatch → List ResumedBatch → Type 0
TookUpOne K lane I J before after = (found : Option ResumedBatch) × TookUp K lane I J found × (after ≡ before ++ none_or_one found)
