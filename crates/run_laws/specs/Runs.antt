-- What a run does to the journals of all nodes, turn by turn.
use Rattle.std.specs.Prelude.{◌≡◌, ◌⊎◌, ◌↔◌, ℕ, ◌-◌, ◌*◌, ◌<◌, ◌≢◌, ◌≤◌, false, length, All, Contains, true, nat_lt, if◌then◌else◌, List, []}
use Rattle.cbdc_model.specs.Records.{Shape, Header, Compact, Record}
use Rattle.cbdc_model.specs.Grammar.{IsCompact}
use Rattle.cbdc_model.specs.Ranges.{home_of, shard_node, part, is_no_part}
use Rattle.cbdc_model.specs.Slots.{slot, Idle}
use Rattle.cbdc_model.specs.Coins.{Output, FullTx}
use Rattle.cbdc_model.specs.Clean.{Clean, IsProper, IsProperCompact}
use Rattle.base_types.specs.declared.faults.Refusal.{Refusal}
use Rattle.sentinel.specs.FirstRefusal.{Verdicts, Applies, rank, IsSoundTx}
use Rattle.cbdc_model.specs.After.{IsJournal}
use Rattle.cbdc_model.specs.History.{Minted, minted, header_of}
use Rattle.cbdc_model.specs.World.{KeptJournals}
use Rattle.cbdc_model.specs.Headline.{Headline}
use Rattle.cbdc_model.specs.Lanes.{Made, AllPass, NextFrom}
use Rattle.cbdc_model.specs.Waves.{prepared}
use Rattle.cbdc_model.specs.Sights.{Sight}
use Rattle.lane_laws.specs.Batches.{view, Settled}
use Rattle.run_laws.specs.Checked.{CheckedJournals}
pub use Rattle.lane_laws.specs.Parts.{IsFitPart}

-- the journals of all nodes, the coordinators first, as they are seen
abbrev pub seen_by : Shape → (ℕ → Sight) → (ℕ → Sight) → ℕ → List Record
seen_by K logs shards n = if nat_lt n K.coordinators then (logs n).seen else (shards (n - K.coordinators)).seen

-- a turn of a lane: what it made of what it saw, with no other coordinator touched
pub record IsTurn (K : Shape) (pieces : List (List Compact)) (lane : ℕ) (logs shards logs' shards' : ℕ → Sight) : Type 0 where
  pub made : Made K pieces true lane (view K lane (logs (home_of K lane)) shards) (view K lane (logs' (home_of K lane)) shards')
  pub others : (n : ℕ) → n ≢ home_of K lane → logs' n ≡ logs n

-- a turn of a lane keeps the journals
abbrev pub TurnLaw : Type 0
TurnLaw = (K : Shape) (mint : List Output) (submissions : List FullTx) (pieces : List (List Compact)) (lane : ℕ)
    (logs shards logs' shards' : ℕ → Sight)
    → 0 < K.shards → home_of K lane < K.coordinators → AllPass (IsProperCompact submissions) pieces
    → KeptJournals K mint submissions (seen_by K logs shards) → IsTurn K pieces lane logs shards logs' shards'
    → NextFrom K (minted mint) (seen_by K logs shards) (seen_by K logs' shards') → KeptJournals K mint submissions (seen_by K logs' shards')

-- behind a turn checked journals are checked still, whatever it prepared
abbrev pub CheckedTurnLaw : Type 0
CheckedTurnLaw = (K : Shape) (m : Minted) (pieces : List (List Compact)) (lane : ℕ) (logs shards logs' shards' : ℕ → Sight)
    → 0 < K.shards → home_of K lane < K.coordinators
    → CheckedJournals K m (seen_by K logs shards) → IsTurn K pieces lane logs shards logs' shards'
    → NextFrom K m (seen_by K logs shards) (seen_by K logs' shards') → CheckedJournals K m (seen_by K logs' shards')

-- in kept journals a lane that is idle at its coordinator is settled at each shard
abbrev pub RestLaw : Type 0
RestLaw = (K : Shape) (mint : List Output) (submissions : List FullTx) (lane : ℕ) (logs shards : ℕ → Sight)
    → 0 < K.shards → home_of K lane < K.coordinators → (logs (home_of K lane)).header.shape ≡ K
    → KeptJournals K mint submissions (seen_by K logs shards)
    → (slot (logs (home_of K lane)).seen lane).phase ≡ Idle
    → Settled K lane (slot (logs (home_of K lane)).seen lane).number (logs (home_of K lane)) shards

-- and in checked journals
abbrev pub CheckedRestLaw : Type 0
CheckedRestLaw = (K : Shape) (m : Minted) (lane : ℕ) (logs shards : ℕ → Sight)
    → 0 < K.shards → home_of K lane < K.coordinators → (logs (home_of K lane)).header.shape ≡ K → CheckedJournals K m (seen_by K logs shards)
    → (slot (logs (home_of K lane)).seen lane).phase ≡ Idle
    → Settled K lane (slot (logs (home_of K lane)).seen lane).number (logs (home_of K lane)) shards

-- what a turn of a lane leaves of the other lanes: their slots, and no new Prepare
pub record LeavesOthers (K : Shape) (lane : ℕ) (I J : ℕ → List Record) : Type 0 where
  pub slots : (other n : ℕ) → other ≢ lane → slot (J n) other ≡ slot (I n) other
  pub prepares : (other n : ℕ) → other ≢ lane → prepared other (J n) ≡ prepared other (I n)

-- a turn of a lane changes no other lane's slot and prepares nothing for it
abbrev pub OthersLaw : Type 0
OthersLaw = (K : Shape) (pieces : List (List Compact)) (lane : ℕ) (logs shards logs' shards' : ℕ → Sight)
    → home_of K lane < K.coordinators → IsTurn K pieces lane logs shards logs' shards'
    → LeavesOthers K lane (seen_by K logs shards) (seen_by K logs' shards')

-- each node's journal is one of its header, or there is no such node
abbrev pub AreJournals : Shape → Minted → (ℕ → List Record) → Type 0
AreJournals K m X = (n : ℕ) → (X n ≡ []) ⊎ IsJournal (header_of K m.id n) (X n)

-- what the nodes say of themselves: each record of theirs is after those below it
abbrev pub NodesLaw : Type 0
NodesLaw = (K : Shape) (m : Minted) (E X : ℕ → List Record) → AreJournals K m X → NextFrom K m E X

-- a sound transaction is proper, whatever the verdicts
abbrev pub SoundLaw : Type 0
SoundLaw = (t : FullTx) (verdicts : Verdicts) → IsSoundTx t verdicts → IsProper t

-- a transaction is proper exactly where none of the reasons applies that ask no verdict: those before the two of witnesses
abbrev pub ProperLaw : Type 0
ProperLaw = (t : FullTx) (verdicts : Verdicts) → IsProper t ↔ ((r : Refusal) → rank r < 12 → ¬ (Applies t verdicts r))

-- what is kept stays kept when more is submitted
abbrev pub GrowLaw : Type 0
GrowLaw = (K : Shape) (mint : List Output) (submissions more : List FullTx) (J : ℕ → List Record)
    → ((t : FullTx) → Contains submissions t → Contains more t)
    → KeptJournals K mint submissions J → KeptJournals K mint more J

-- where journals are kept and every lane's slot is idle, the sentence holds of them
abbrev pub EndLaw : Type 0
EndLaw = (K : Shape) (mint : List Output) (submissions : List FullTx) (logs shards : ℕ → Sight)
    → 0 < K.shards → 0 < K.lanes → Clean mint submissions → KeptJournals K mint submissions (seen_by K logs shards)
    → ((lane : ℕ) → lane < K.coordinators * K.lanes → (slot (logs (home_of K lane)).seen lane).phase ≡ Idle)
    → Headline K mint submissions (seen_by K logs shards)

-- the parts of a batch within the limits are within them
abbrev pub PartLaw : Type 0
PartLaw = (h : Header) (txs : List Compact) (s : ℕ) → length txs ≤ h.shape.batch → All IsCompact txs → h.node ≡ shard_node h.shape s
    → is_no_part (part h.shape s 0 txs) ≡ false → IsFitPart h (part h.shape s 0 txs)
