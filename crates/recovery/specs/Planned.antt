-- Open batches for which all memory is taken.
use Rattle.std.specs.Prelude.{◌≡◌, [], List, reverse}
use Rattle.std.specs.List.{AllZip}
use Rattle.cbdc_types.specs.declared.batch.OpenLane.{OpenLane}
use Rattle.cbdc_model.specs.Records.{Shape}
use Rattle.lane_driver.specs.Readied.{IsReadied}
use Rattle.recovery.specs.declared.planning.LaneRoom.{LaneRoom}
use Rattle.recovery.specs.declared.resumed.ResumedBatch.{ResumedBatch}

-- what contracts see of them: the shape of their ledger, and the batches as they are open
pub record PlanOf : Type 0 where
  pub shape : Shape
  pub lanes : List OpenLane

-- the memory of a batch: that of its transactions, cut into their parts, and its outcomes once more
pub record IsRoomToResume (K : Shape) (o : OpenLane) (r : LaneRoom) : Type 0 where
  pub readied : IsReadied K o.txs r.room
  pub same : r.outcomes ≡ o.outcomes

-- that of each, the last one first, and room for what each tells
pub record IsPlan (K : Shape) (os : List OpenLane) (rooms : List LaneRoom) (told : List ResumedBatch) : Type 0 where
  pub each : AllZip (IsRoomToResume K) os (reverse rooms)
  pub none : told ≡ []
