-- What a lane's turn comes to for all journals, by what its driver says of it.
use Rattle.std.specs.Prelude.{◌≡◌, ◌⊎◌, ◌≢◌, ℕ, ◌<◌, true, false, List, [], ◌∷◌}
use Rattle.cbdc_types.specs.declared.calls.NodeFault.{NodeFault}
use Rattle.cbdc_model.specs.Records.{Shape, Batch, Compact, Outcome, Record}
use Rattle.cbdc_model.specs.Ranges.{home_of, shard_node}
use Rattle.cbdc_model.specs.Slots.{slot, Idle}
use Rattle.cbdc_model.specs.Due.{open_batch}
use Rattle.cbdc_model.specs.Coins.{Output, FullTx}
use Rattle.cbdc_model.specs.World.{KeptJournals}
use Rattle.cbdc_model.specs.Lanes.{IsEnd}
use Rattle.cbdc_model.specs.Waves.{Adds, prepared, has_prepare, has_done}
use Rattle.cbdc_model.specs.Sights.{Sight}
use Rattle.lane_laws.specs.Batches.{BatchDone, BatchStopped}
use Rattle.lane_laws.specs.Resuming.{IsTakenUp, IsLeft}
use Rattle.run_laws.specs.Runs.{seen_by, IsTurn, LeavesOthers}

-- no other coordinator was touched
abbrev pub Elsewhere : Shape → ℕ → (ℕ → Sight) → (ℕ → Sight) → Type 0
Elsewhere K lane logs logs' = (n : ℕ) → n ≢ home_of K lane → logs' n ≡ logs n

-- of a batch that is done, that stopped, that was taken up or left, or that was not begun
abbrev pub TakenLaw : Type 0
TakenLaw = (K : Shape) (lane : ℕ) (logs shards logs' shards' : ℕ → Sight) → Elsewhere K lane logs logs'
    → ((k : ℕ) (txs : List Compact) (b : Batch) (os : List Outcome)
    → BatchDone K true lane k txs (logs (home_of K lane)) shards (logs' (home_of K lane)) shards' b os
    → IsTurn K (txs ∷ []) lane logs shards logs' shards')
    × ((txs : List Compact) (node : ℕ) (f : NodeFault)
    → BatchStopped K true lane txs (logs (home_of K lane)) shards (logs' (home_of K lane)) shards' node f
    → IsTurn K (txs ∷ []) lane logs shards logs' shards')
    × ((b : Batch) → b.lane ≡ lane
    → IsTakenUp K true b (logs (home_of K lane)) shards (logs' (home_of K lane)) shards' → IsTurn K [] lane logs shards logs' shards')
    × ((b : Batch) (node : ℕ) (f : NodeFault) → b.lane ≡ lane
    → IsLeft K true b (logs (home_of K lane)) shards (logs' (home_of K lane)) shards' node f → IsTurn K [] lane logs shards logs' shards')
    × (logs' (home_of K lane) ≡ logs (home_of K lane) → shards' ≡ shards → IsTurn K [] lane logs shards logs' shards')

-- the journals of all nodes are those of the coordinators and of the shards
abbrev pub SeenLaw : Type 0
SeenLaw = (K : Shape) (logs shards : ℕ → Sight)
    → ((n : ℕ) → n < K.coordinators → seen_by K logs shards n ≡ (logs n).seen) × ((s : ℕ) → seen_by K logs shards (shard_node K s) ≡ (shards s).seen)

-- every journal grows at its end over a turn
abbrev pub EndsLaw : Type 0
EndsLaw = (K : Shape) (pieces : List (List Compact)) (lane : ℕ) (logs shards logs' shards' : ℕ → Sight)
    → home_of K lane < K.coordinators → IsTurn K pieces lane logs shards logs' shards' → (n : ℕ)
    → IsEnd (seen_by K logs shards n) (seen_by K logs' shards' n)

-- a turn's new Prepares of its lane: that of a done batch; that of a stopped one or none; none where there was none to make
abbrev pub PreparedLaw : Type 0
PreparedLaw = (K : Shape) (lane : ℕ) (logs shards logs' shards' : ℕ → Sight) → home_of K lane < K.coordinators
    → ((k : ℕ) (txs : List Compact) (b : Batch) (os : List Outcome)
    → BatchDone K true lane k txs (logs (home_of K lane)) shards (logs' (home_of K lane)) shards' b os
    → prepared lane (logs' (home_of K lane)).seen ≡ txs ∷ prepared lane (logs (home_of K lane)).seen)
    × ((txs : List Compact) (node : ℕ) (f : NodeFault)
    → BatchStopped K true lane txs (logs (home_of K lane)) shards (logs' (home_of K lane)) shards' node f
    → (prepared lane (logs' (home_of K lane)).seen ≡ prepared lane (logs (home_of K lane)).seen)
    ⊎ (prepared lane (logs' (home_of K lane)).seen ≡ txs ∷ prepared lane (logs (home_of K lane)).seen))
    × (IsTurn K [] lane logs shards logs' shards' → prepared lane (logs' (home_of K lane)).seen ≡ prepared lane (logs (home_of K lane)).seen)

-- from journals I to J a lane's turn brought its open batch to its end, and did nothing else
pub record ResumesBatch (K : Shape) (lane : ℕ) (b : Batch) (I J : ℕ → List Record) : Type 0 where
  pub adds : Adds (λ c. c ≡ b) I J
  pub prepare : has_prepare K I b ≡ true
  pub undone : has_done K I b ≡ false
  pub prepares : prepared lane (J (home_of K lane)) ≡ prepared lane (I (home_of K lane))
  pub others : LeavesOthers K lane I J
  pub idle : (slot (J (home_of K lane)) lane).phase ≡ Idle

-- what a turn makes without a new Prepare is of the lane's open batch
abbrev pub OpenTurnLaw : Type 0
OpenTurnLaw = (K : Shape) (mint : List Output) (submissions : List FullTx) (lane : ℕ) (logs shards logs' shards' : ℕ → Sight)
    → 0 < K.shards → home_of K lane < K.coordinators
    → KeptJournals K mint submissions (seen_by K logs shards) → KeptJournals K mint submissions (seen_by K logs' shards')
    → IsTurn K [] lane logs shards logs' shards'
    → Adds (λ c. c ≡ open_batch (logs (home_of K lane)).seen lane) (seen_by K logs shards) (seen_by K logs' shards')

-- a turn that takes a lane's open batch to its end does nothing else, where the other coordinators are as before (`ResumesBatch`)
abbrev pub ResumedTurnLaw : Type 0
ResumedTurnLaw = (K : Shape) (mint : List Output) (submissions : List FullTx) (lane : ℕ) (logs shards logs' shards' : ℕ → Sight)
    → 0 < K.shards → home_of K lane < K.coordinators → Elsewhere K lane logs logs'
    → KeptJournals K mint submissions (seen_by K logs shards) → KeptJournals K mint submissions (seen_by K logs' shards')
    → (slot (logs (home_of K lane)).seen lane).phase ≢ Idle
    → IsTakenUp K true (open_batch (logs (home_of K lane)).seen lane) (logs (home_of K lane)) shards (logs' (home_of K lane)) shards'
    → ResumesBatch K lane (open_batch (logs (home_of K lane)).seen lane) (seen_by K logs shards) (seen_by K logs' shards')
