-- A batch for which all memory is taken.
use Rattle.std.specs.Prelude.{ℕ, List, length}
use Rattle.cbdc_model.specs.Records.{Shape, Compact}
use Rattle.lane_driver.specs.declared.room.BatchRoom.{BatchRoom}
use Rattle.lane_driver.specs.Calls.{AreParts}
use Rattle.lane_driver.specs.Rooms.{IsBatchRoom}

-- what contracts see of it: the shape of its ledger, its lane and its transactions
pub record ReadyOf : Type 0 where
  pub shape : Shape
  pub lane : ℕ
  pub txs : List Compact

-- its memory is that of these transactions, cut into their parts
pub record IsReadied (K : Shape) (txs : List Compact) (room : BatchRoom) : Type 0 where
  pub parts : AreParts K txs room.parts
  pub room_is : IsBatchRoom K.shards (length txs) room
