-- What comes of a list of one lane, and of the lane.
use Rattle.std.specs.Prelude.{◌≡◌, ℕ, true, List, ◌∷◌, [], Result, Ok, Err}
use Rattle.cbdc_types.specs.declared.batch.OpenLane.{OpenLane}
use Rattle.cbdc_model.specs.Records.{Shape}
use Rattle.cbdc_model.specs.Ranges.{home_of}
use Rattle.cbdc_model.specs.Sights.{Sight}
use Rattle.node_journal.specs.Nodes.{NodeOf, sight}
use Rattle.node_ports.specs.Nodes.{sight_at}
use Rattle.lane_driver.specs.declared.fault.LaneFault.{LaneFault}
use Rattle.recovery.specs.declared.resumed.Resumed.{Resumed}
use Rattle.recovery.specs.declared.resumed.ResumedBatch.{ResumedBatch}
use Rattle.recovery.specs.Open.{IsOneTaken, IsResumeStopped}

-- what comes of a list of one lane: its batch, or the fault
abbrev pub IsOneOf : Result Resumed LaneFault → Result ResumedBatch LaneFault → Type 0
IsOneOf (Ok r) (Ok b) = r.batches ≡ b ∷ []
IsOneOf (Err e) (Err f) = f ≡ e
IsOneOf (Ok r) (Err f) = ⊥
IsOneOf (Err e) (Ok b) = ⊥

-- an open batch was taken to its end, where no other lane wrote; or a node's fault stopped it, with what that left
abbrev pub ResumeLeft : Shape → OpenLane → Result ResumedBatch LaneFault → Sight → (ℕ → Sight) → Sight → (ℕ → Sight) → Type 0
ResumeLeft K o (Ok r) log I log' J = IsOneTaken K true o log I log' J r
ResumeLeft K o (Err e) log I log' J = IsResumeStopped K true o log I log' J e

-- so it was at these nodes of a ledger
abbrev pub LaneResumes : {D : Type 0} → Shape → ℕ → OpenLane → Result ResumedBatch LaneFault → List (NodeOf D) → List (NodeOf D) → List (NodeOf D)
    → List (NodeOf D) → Type 0
LaneResumes K lane o came logs shards logs' shards' =
    ResumeLeft K o came (sight_at sight logs (home_of K lane)) (sight_at sight shards) (sight_at sight logs' (home_of K lane))
    (sight_at sight shards')
