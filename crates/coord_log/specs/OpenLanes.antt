-- A lane's open batch, as its journal tells it.
use Rattle.std.specs.Prelude.{ℕ, List, Option, Some, None, option_map}
use Rattle.cbdc_types.specs.declared.batch.OpenLane.{OpenLane}
use Rattle.cbdc_types.specs.declared.batch.Phase.{Phase as OpenPhase}
use Rattle.cbdc_types.specs.declared.batch.Phase.TheVariants.{Prepared, Committed, Discarded}
use Rattle.cbdc_model.specs.Records.{Record, txs_of, outcomes_of}
use Rattle.cbdc_model.specs.Slots.{Phase, slot, slot_stamp, InPrepare, InCommit, InDiscard}
use Rattle.cbdc_model.specs.Due.{open_batch}

-- what is written down last of a batch, where it is not done
abbrev pub open_phase_of : Phase → Option OpenPhase
open_phase_of InPrepare = Some Prepared
open_phase_of InCommit = Some Committed
open_phase_of InDiscard = Some Discarded
open_phase_of other = None

-- the batch in this phase: the stamp of its last record, its transactions, and its outcomes, none before its Commit
abbrev pub open_lane_in : List Record → ℕ → OpenPhase → OpenLane
open_lane_in J lane p = record {
  batch = open_batch J lane;
  phase = p;
  stamp = slot_stamp J lane;
  txs = txs_of J (open_batch J lane);
  outcomes = outcomes_of J (open_batch J lane);
}

-- a lane's open batch as its journal tells it; none where the lane is idle
abbrev pub open_lane : List Record → ℕ → Option OpenLane
open_lane J lane = option_map (open_lane_in J lane) (open_phase_of (slot J lane).phase)
